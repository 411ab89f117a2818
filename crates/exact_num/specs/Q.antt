-- Fractions in lowest terms, as values: equal values are equal fractions.
use Rattle.std.specs.Prelude.{unsigned_abs}
use Rattle.std.proofs.Common.{◌≡◌, ap, ap₂}
use Rattle.std.specs.Prelude.{ℤ, pos, ◌*ℤ◌, ◌<ℤ◌}
use Rattle.numbers.specs.Coprime.{IsCoprime}
use Rattle.exact_num.specs.Cross.{same_fraction}
use mathlib.Core.HLevel.{Σ_prop_path}
use Rattle.std.proofs.Props.{props}

pub record IsLow (num den : ℤ) : Type 0 where
  pub positive : pos 0 <ℤ den
  pub reduced : IsCoprime (unsigned_abs num) (unsigned_abs den)

pub record ℚ : Type 0 where
  pub num : ℤ
  pub den : ℤ
  pub low : IsLow num den

IsLow-prop : (n d : ℤ) → IsProp (IsLow n d)
IsLow-prop n d = hlevel props

pack : ((p : ℤ × ℤ) × IsLow p.0 p.1) → ℚ
pack t = record { num = t.0.0; den = t.0.1; low = t.1 }

pub same_parts : (x y : ℚ) → x.num ≡ y.num → x.den ≡ y.den → x ≡ y
unfolding pack
same_parts x y e f = ap pack (Σ_prop_path {A = ℤ × ℤ} {B = λ p. IsLow p.0 p.1} (λ p. IsLow-prop p.0 p.1) {u = ((x.num, x.den), x.low)} {v = ((y.num, y.den), y.low)} (ap₂ (λ a b. (a, b)) e f))

pub same_value : (x y : ℚ) → x.num *ℤ y.den ≡ y.num *ℤ x.den → x ≡ y
same_value x y e =
    let s = same_fraction x.num x.den y.num y.den x.low.positive y.low.positive x.low.reduced y.low.reduced e in
    same_parts x y s.0 s.1
