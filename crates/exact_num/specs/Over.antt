-- Every fraction over every denominator: the way to all laws.
use Rattle.std.proofs.Common.{ℕ, ◌≡◌, ◌*◌, ◌/◌, ◌<◌, arith, refl, sym, ◌∙◌, ap, zero, suc, subst, zero-mul}
use Rattle.std.specs.Prelude.{ℤ, pos, negsuc, ◌-ℤ◌, ◌*ℤ◌, ◌<ℤ◌, neg_ℤ}
use Rattle.std.specs.Int.{◌∣◌, IsGcd}
use Rattle.std.proofs.lemmas.Int.{ints}
use Rattle.std.proofs.lemmas.Nat.Gcd.{dvd_antisymm}
use Rattle.std.proofs.Math.Nat.{mul-div_cancel', mul-dvd-mul_left, dvd_of_mul-dvd-mul_left, one-dvd, mul-one}
use Rattle.std.proofs.Math.IntN.{*ℤ_comm}
use Rattle.numbers.specs.Coprime.{IsCoprime, gcd_within}
use Rattle.numbers.specs.Algebra.{*ℤ_assoc, *ℤ-positive, -ℤ-*ℤ}
use Rattle.exact_num.specs.Cross.{cancel, swap_last, abs-neg}
use Rattle.exact_num.specs.Q.{ℚ, same_value}

-- what is left of two numbers without their greatest common divisor
pub coprime_parts : (a b g x y : ℕ) → IsGcd a b g → 0 < g → g * x ≡ a → g * y ≡ b → IsCoprime x y
coprime_parts a b g x y is some e f = record {
  none = λ d p q.
      let both : g * d ∣ g = is.2 (g * d) (subst (λ m. g * d ∣ m) e (mul-dvd-mul_left d g p)) (subst (λ m. g * d ∣ m) f (mul-dvd-mul_left d g q)) in
      let one : d ∣ 1 = dvd_of_mul-dvd-mul_left d some (subst (λ m. g * d ∣ m) (sym (mul-one g)) both) in
      dvd_antisymm one (one-dvd d);
}

pub factor_positive : (g y b : ℕ) → g * y ≡ b → 0 < b → (0 < g) × (0 < y)
factor_positive zero y b e p = absurd (omega (arith, zero-mul y))
factor_positive (suc g) zero b e p = absurd (omega arith)
factor_positive (suc g) (suc y) b e p = (omega arith, omega arith)

pub neg-pos-*ℤ : (x b : ℕ) → neg_ℤ (pos x) *ℤ pos b ≡ neg_ℤ (pos (x * b))
neg-pos-*ℤ zero b = rw (zero-mul b) refl
neg-pos-*ℤ (suc n) b = refl

pub record IsOver (q : ℚ) (n d : ℤ) : Type 0 where
  pub positive : pos 0 <ℤ d
  pub cross : q.num *ℤ d ≡ n *ℤ q.den

parts : (a b : ℕ) → 0 < b → (x y : ℕ) × (0 < y) × IsCoprime x y × (x * b ≡ a * y)
parts a b some =
    let r = gcd_within (suc b) a b (omega arith) in
    let g = r.0 in
    let e : g * (a / g) ≡ a = mul-div_cancel' g (r.1.0) in
    let f : g * (b / g) ≡ b = mul-div_cancel' g (r.1.1) in
    let p = factor_positive g (b / g) b f some in (
      a / g,
      b / g,
      p.1,
      coprime_parts a b g (a / g) (b / g) r.1 p.0 e f,
      ap (λ z. (a / g) * z) (sym f) ∙ swap g (a / g) (b / g) ∙ ap (λ z. z * (b / g)) e,
    )
  where
    swap : (g x y : ℕ) → x * (g * y) ≡ (g * x) * y
    swap g x y = omega arith

-- the fraction in lowest terms
pub lowest : (n d : ℤ) → pos 0 <ℤ d → (q : ℚ) × IsOver q n d
lowest (pos a) (pos b) p =
    let t = parts a b (omega (arith, ints)) in
    (record { num = pos t.0; den = pos t.1; low = record { positive = omega (arith, ints, t.2); reduced = t.3 } }, record { positive = p; cross = ap pos t.4 })
lowest (negsuc a) (pos b) p =
    let t = parts (suc a) b (omega (arith, ints)) in (
      record { num = neg_ℤ (pos t.0); den = pos t.1; low = record { positive = omega (arith, ints, t.2); reduced = subst (λ m. IsCoprime m t.1) (sym (abs-neg t.0)) t.3 } },
      record { positive = p; cross = neg-pos-*ℤ t.0 b ∙ ap (λ m. neg_ℤ (pos m)) t.4 },
    )
lowest n (negsuc b) p = absurd (omega (arith, ints))

pub over_self : (q : ℚ) → IsOver q q.num q.den
over_self q = record { positive = q.low.positive; cross = refl }

-- n / d written as m / e
pub over_moved : (q : ℚ) (n d m e : ℤ) → IsOver q n d → pos 0 <ℤ e → n *ℤ e ≡ m *ℤ d → IsOver q m e
over_moved q n d m e is some same = record {
  positive = some;
  cross = cancel (q.num *ℤ e) (m *ℤ q.den) d is.positive
      (swap_last q.num e d ∙ ap (λ z. z *ℤ e) is.cross ∙ swap_last n q.den e ∙ ap (λ z. z *ℤ q.den) same ∙ swap_last m d q.den);
}

pub over_scaled : (q : ℚ) (n d k : ℤ) → IsOver q n d → pos 0 <ℤ k → IsOver q (n *ℤ k) (d *ℤ k)
over_scaled q n d k is some = over_moved q n d (n *ℤ k) (d *ℤ k) is (*ℤ-positive d k is.positive some) (sym (*ℤ_assoc n d k) ∙ swap_last n d k)

-- one value, one fraction
pub over_same : (p q : ℚ) (n m d e : ℤ) → IsOver p n d → IsOver q m e → n ≡ m → d ≡ e → p ≡ q
over_same p q n m d e x y f g =
    let z : q.num *ℤ d ≡ n *ℤ q.den = ap (λ k. q.num *ℤ k) g ∙ y.cross ∙ ap (λ k. k *ℤ q.den) (sym f) in
    same_value p q (cancel (p.num *ℤ q.den) (q.num *ℤ p.den) d x.positive
    (swap_last p.num q.den d ∙ ap (λ k. k *ℤ q.den) x.cross ∙ swap_last n p.den q.den ∙ ap (λ k. k *ℤ p.den) (sym z) ∙ swap_last q.num d p.den))

-- any two over one denominator
pub record AreOver (p q : ℚ) : Type 0 where
  pub n : ℤ
  pub m : ℤ
  pub d : ℤ
  pub first : IsOver p n d
  pub second : IsOver q m d

pub two_over : (p q : ℚ) → AreOver p q
two_over p q = record {
  n = p.num *ℤ q.den;
  m = q.num *ℤ p.den;
  d = p.den *ℤ q.den;
  first = over_scaled p p.num p.den q.den (over_self p) q.low.positive;
  second = subst (λ k. IsOver q (q.num *ℤ p.den) k) (*ℤ_comm q.den p.den) (over_scaled q q.num q.den p.den (over_self q) p.low.positive);
}

pub *ℤ_middle : (a b c d : ℤ) → (a *ℤ b) *ℤ (c *ℤ d) ≡ (a *ℤ c) *ℤ (b *ℤ d)
*ℤ_middle a b c d = sym (*ℤ_assoc (a *ℤ b) c d) ∙ ap (λ x. x *ℤ d) (swap_last a b c) ∙ *ℤ_assoc (a *ℤ c) b d

pub neg-*ℤ : (a b : ℤ) → neg_ℤ a *ℤ b ≡ neg_ℤ (a *ℤ b)
neg-*ℤ a b =
    let e : neg_ℤ a ≡ pos 0 -ℤ a = omega (arith, ints) in
    ap (λ x. x *ℤ b) e ∙ -ℤ-*ℤ (pos 0) a b ∙ omega (arith, ints, zero-*ℤ b)
  where
    zero-*ℤ : (b : ℤ) → pos 0 *ℤ b ≡ pos 0
    zero-*ℤ (pos n) = ap pos (zero-mul n)
    zero-*ℤ (negsuc n) = ap (λ x. neg_ℤ (pos x)) (zero-mul (suc n))
