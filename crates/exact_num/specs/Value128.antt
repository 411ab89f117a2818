-- The value of a fraction of 128-bit parts: equal values are equal structs.
use Rattle.std.proofs.Common.{◌≡◌, ◌↔◌, ap, ap₂, ◌<◌, ◌^◌, ◌&&◌, ℤ, unsigned_abs, true}
use Rattle.std.specs.Ordering.{int_eq}
use Rattle.std.specs.Cmp.{signed_Decides}
use Rattle.std.proofs.lemmas.Bool.{and_parts, and_from}
use Rattle.std.proofs.Props.{props}
use mathlib.Core.HLevel.{Σ_prop_path}
use Rattle.exact_num.specs.Q.{ℚ, IsLow, same_parts}
use Rattle.exact_num.specs.declared.fraction_128.Frac128.{Frac128}

abbrev pub value_128 : Frac128 → ℚ
value_128 x = record { num = x.num; den = x.den; low = x.low }

record IsStored (n d : ℤ) : Type 0 where
  low : IsLow n d
  fits : unsigned_abs n < 2 ^ 127

IsStored-prop : (n d : ℤ) → IsProp (IsStored n d)
IsStored-prop n d = hlevel props

pack : ((p : ℤ × ℤ) × IsStored p.0 p.1) → Frac128
pack t = record { num = t.0.0; den = t.0.1; low = t.1.low; fits = t.1.fits }

same_fields : (x y : Frac128) → x.num ≡ y.num → x.den ≡ y.den → x ≡ y
unfolding pack
same_fields x y e f =
    ap pack (Σ_prop_path {A = ℤ × ℤ} {B = λ p. IsStored p.0 p.1} (λ p. IsStored-prop p.0 p.1)
    {u = ((x.num, x.den), record { low = x.low; fits = x.fits })} {v = ((y.num, y.den), record { low = y.low; fits = y.fits })} (ap₂ (λ a b. (a, b)) e f))

pub same_128 : (x y : Frac128) → value_128 x ≡ value_128 y → x ≡ y
same_128 x y e = same_fields x y (ap (λ (q : ℚ). q.num) e) (ap (λ (q : ℚ). q.den) e)

pub equal_128 : (x y : Frac128) → ((int_eq x.num y.num && int_eq x.den y.den) ≡ true) ↔ (value_128 x ≡ value_128 y)
equal_128 x y = (
  λ e. let parts = and_parts (int_eq x.num y.num) (int_eq x.den y.den) e in
      same_parts (value_128 x) (value_128 y) ((signed_Decides x.num y.num).0 parts.0) ((signed_Decides x.den y.den).0 parts.1),
  λ e. and_from (int_eq x.num y.num) (int_eq x.den y.den)
      ((signed_Decides x.num y.num).1 (ap (λ (q : ℚ). q.num) e)) ((signed_Decides x.den y.den).1 (ap (λ (q : ℚ). q.den) e)),
)
