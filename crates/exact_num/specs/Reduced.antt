-- Why the sum of two fractions, cut by two divisors, is in lowest terms.
use Rattle.std.specs.Prelude.{unsigned_abs}
use Rattle.std.proofs.Common.{ℕ, ◌≡◌, ◌*◌, ◌/◌, ◌<◌, arith, refl, sym, ◌∙◌, ap, ap₂, zero, suc, subst, mul_comm}
use Rattle.std.specs.Prelude.{ℤ, pos, negsuc, ◌+ℤ◌, ◌*ℤ◌, ◌<ℤ◌, neg_ℤ}
use Rattle.std.specs.Int.{◌∣◌, IsGcd}
use Rattle.std.proofs.lemmas.Int.{ints}
use Rattle.std.proofs.lemmas.Nat.Gcd.{dvd_trans}
use Rattle.std.proofs.Math.Nat.{mul-div_cancel', dvd-mul_right, dvd-mul_left_of_dvd}
use Rattle.numbers.specs.Coprime.{IsCoprime, divides_other}
use Rattle.numbers.specs.Algebra.{*ℤ-+ℤ}
use Rattle.exact_num.specs.Cross.{abs-*ℤ, abs-neg}
use Rattle.numbers.specs.Algebra.{*ℤ_assoc}
use Rattle.std.proofs.Math.IntN.{*ℤ_comm}
use Rattle.exact_num.specs.Q.{ℚ}
use Rattle.exact_num.specs.Over.{coprime_parts, IsOver, over_self, over_scaled, over_same}
use Rattle.exact_num.specs.Ops.{◌+ℚ◌, +ℚ-over}

pub coprime_swap : (a b : ℕ) → IsCoprime a b → IsCoprime b a
coprime_swap a b h = record { none = λ d p q. h.none d q p }

-- a divisor of the first
pub coprime_down : (a b d : ℕ) → IsCoprime a b → d ∣ a → IsCoprime d b
coprime_down a b d h k = record { none = λ e p q. h.none e (dvd_trans e p k) q }

pub coprime_product : (a b c : ℕ) → IsCoprime a b → IsCoprime a c → IsCoprime a (b * c)
coprime_product a b c h k = record {
  none = λ e p q. k.none e p (divides_other b e c (coprime_swap e b (coprime_down a b e h p)) q);
}

-- what divides both divides the sum
multiple : (e : ℕ) (x : ℤ) → e ∣ unsigned_abs x → (k : ℤ) × (pos e *ℤ k ≡ x)
multiple e (pos n) h = (pos (n / e), ap pos (mul-div_cancel' e h))
multiple e (negsuc n) h = (neg_ℤ (pos (suc n / e)), times_neg e (suc n / e) ∙ ap (λ m. neg_ℤ (pos m)) (mul-div_cancel' e h))
  where
    times_neg : (e k : ℕ) → pos e *ℤ neg_ℤ (pos k) ≡ neg_ℤ (pos (e * k))
    times_neg e zero = ap pos (omega arith) ∙ ap (λ m. neg_ℤ (pos m)) (zero_is e)
      where
        zero_is : (e : ℕ) → 0 ≡ e * 0
        zero_is e = omega arith
    times_neg e (suc k) = refl

divides_size : (e : ℕ) (k x : ℤ) → pos e *ℤ k ≡ x → e ∣ unsigned_abs x
divides_size e k x h = subst (λ m. e ∣ m) (sym (abs-*ℤ (pos e) k) ∙ ap unsigned_abs h) (dvd-mul_right e (unsigned_abs k))

pub divides_sum : (e : ℕ) (x y : ℤ) → e ∣ unsigned_abs x → e ∣ unsigned_abs y → e ∣ unsigned_abs (x +ℤ y)
divides_sum e x y h k =
    let p = multiple e x h in
    let q = multiple e y k in
    divides_size e (p.0 +ℤ q.0) (x +ℤ y) (*ℤ-+ℤ (pos e) p.0 q.0 ∙ ap₂ (λ s t. s +ℤ t) p.1 q.1)

pub size_of_neg : (x : ℤ) → unsigned_abs (neg_ℤ x) ≡ unsigned_abs x
size_of_neg (pos n) = abs-neg n
size_of_neg (negsuc n) = refl

pub divides_first : (e : ℕ) (x y : ℤ) → e ∣ unsigned_abs (x +ℤ y) → e ∣ unsigned_abs y → e ∣ unsigned_abs x
divides_first e x y h k =
    let whole : (x +ℤ y) +ℤ neg_ℤ y ≡ x = omega (arith, ints) in
    subst (λ z. e ∣ unsigned_abs z) whole (divides_sum e (x +ℤ y) (neg_ℤ y) h (subst (λ m. e ∣ m) (sym (size_of_neg y)) k))

-- a d₁ + c b₁ has nothing in common with b₁, where a and b₁, and b₁ and d₁, have not
pub sum_apart : (a c b₁ d₁ : ℤ) → IsCoprime (unsigned_abs a) (unsigned_abs b₁) → IsCoprime (unsigned_abs b₁) (unsigned_abs d₁) → IsCoprime (unsigned_abs ((a *ℤ d₁) +ℤ (c *ℤ b₁))) (unsigned_abs b₁)
sum_apart a c b₁ d₁ h k = record {
  none = λ e p q.
      let other : e ∣ unsigned_abs (c *ℤ b₁) = subst (λ m. e ∣ m) (sym (abs-*ℤ c b₁)) (dvd-mul_left_of_dvd e q (unsigned_abs c)) in
      let first : e ∣ unsigned_abs a * unsigned_abs d₁ = subst (λ m. e ∣ m) (abs-*ℤ a d₁) (divides_first e (a *ℤ d₁) (c *ℤ b₁) p other) in
      let apart : IsCoprime (unsigned_abs a) e = coprime_swap e (unsigned_abs a) (coprime_down (unsigned_abs b₁) (unsigned_abs a) e (coprime_swap (unsigned_abs a) (unsigned_abs b₁) h) q) in
      k.none e q (divides_other (unsigned_abs a) e (unsigned_abs d₁) apart first);
}

factors_positive : (x g : ℕ) → 0 < x * g → (0 < x) × (0 < g)
factors_positive zero g p = absurd (omega (arith, p))
factors_positive (suc x) zero p = absurd (omega (arith, p))
factors_positive (suc x) (suc g) p = (omega arith, omega arith)

cancel_right : (x y h : ℕ) → 0 < h → x * h ≡ y * h → x ≡ y
cancel_right x y h p e = grind arith

-- the whole sum, over numbers without sign but a, c and s
pub sum_reduced : (a b c d : ℤ) (g h : ℕ) (b₁ d₁ s₁ d₂ : ℤ) → IsCoprime (unsigned_abs a) (unsigned_abs b) → IsCoprime (unsigned_abs c) (unsigned_abs d) → 0 < unsigned_abs b → 0 < unsigned_abs d
    → IsGcd (unsigned_abs b) (unsigned_abs d) g → b₁ *ℤ pos g ≡ b → d₁ *ℤ pos g ≡ d
    → IsGcd (unsigned_abs ((a *ℤ d₁) +ℤ (c *ℤ b₁))) g h → s₁ *ℤ pos h ≡ (a *ℤ d₁) +ℤ (c *ℤ b₁) → d₂ *ℤ pos h ≡ d
    → IsCoprime (unsigned_abs s₁) (unsigned_abs (b₁ *ℤ d₂))
sum_reduced a b c d g h b₁ d₁ s₁ d₂ low_a low_c some_b some_d is_g whole_b whole_d is_h whole_s whole_d₂ =
    let s = (a *ℤ d₁) +ℤ (c *ℤ b₁) in
    let B : unsigned_abs b₁ * g ≡ unsigned_abs b = sym (abs-*ℤ b₁ (pos g)) ∙ ap unsigned_abs whole_b in
    let D : unsigned_abs d₁ * g ≡ unsigned_abs d = sym (abs-*ℤ d₁ (pos g)) ∙ ap unsigned_abs whole_d in
    let S : unsigned_abs s₁ * h ≡ unsigned_abs s = sym (abs-*ℤ s₁ (pos h)) ∙ ap unsigned_abs whole_s in
    let D₂ : unsigned_abs d₂ * h ≡ unsigned_abs d = sym (abs-*ℤ d₂ (pos h)) ∙ ap unsigned_abs whole_d₂ in
    let some_g : 0 < g = (factors_positive (unsigned_abs b₁) g (subst (λ m. 0 < m) (sym B) some_b)).1 in
    let some_h : 0 < h = (factors_positive (unsigned_abs d₂) h (subst (λ m. 0 < m) (sym D₂) some_d)).1 in
    let G = g / h in
    let whole_g : h * G ≡ g = mul-div_cancel' h is_h.1 in
    let d₂_is : unsigned_abs d₂ ≡ unsigned_abs d₁ * G = cancel_right (unsigned_abs d₂) (unsigned_abs d₁ * G) h some_h (D₂ ∙ sym D ∙ ap (λ m. unsigned_abs d₁ * m) (sym whole_g) ∙ regroup (unsigned_abs d₁) h G) in
    let b₁_d₁ : IsCoprime (unsigned_abs b₁) (unsigned_abs d₁) = coprime_parts (unsigned_abs b) (unsigned_abs d) g (unsigned_abs b₁) (unsigned_abs d₁) is_g some_g (mul_comm g (unsigned_abs b₁) ∙ B) (mul_comm g (unsigned_abs d₁) ∙ D) in
    let a_b₁ : IsCoprime (unsigned_abs a) (unsigned_abs b₁) = coprime_swap (unsigned_abs b₁) (unsigned_abs a) (coprime_down (unsigned_abs b) (unsigned_abs a) (unsigned_abs b₁) (coprime_swap (unsigned_abs a) (unsigned_abs b) low_a) (subst (λ m. unsigned_abs b₁ ∣ m) B (dvd-mul_right (unsigned_abs b₁) g))) in
    let c_d₁ : IsCoprime (unsigned_abs c) (unsigned_abs d₁) = coprime_swap (unsigned_abs d₁) (unsigned_abs c) (coprime_down (unsigned_abs d) (unsigned_abs c) (unsigned_abs d₁) (coprime_swap (unsigned_abs c) (unsigned_abs d) low_c) (subst (λ m. unsigned_abs d₁ ∣ m) D (dvd-mul_right (unsigned_abs d₁) g))) in
    let s_b₁ : IsCoprime (unsigned_abs s) (unsigned_abs b₁) = sum_apart a c b₁ d₁ a_b₁ b₁_d₁ in
    let turn : (c *ℤ b₁) +ℤ (a *ℤ d₁) ≡ s = omega (arith, ints) in
    let s_d₁ : IsCoprime (unsigned_abs s) (unsigned_abs d₁) = subst (λ z. IsCoprime (unsigned_abs z) (unsigned_abs d₁)) turn (sum_apart c a d₁ b₁ c_d₁ (coprime_swap (unsigned_abs b₁) (unsigned_abs d₁) b₁_d₁)) in
    let down : unsigned_abs s₁ ∣ unsigned_abs s = subst (λ m. unsigned_abs s₁ ∣ m) S (dvd-mul_right (unsigned_abs s₁) h) in
    let s₁_G : IsCoprime (unsigned_abs s₁) G = coprime_parts (unsigned_abs s) g h (unsigned_abs s₁) G is_h some_h (mul_comm h (unsigned_abs s₁) ∙ S) whole_g in
    subst (λ m. IsCoprime (unsigned_abs s₁) m) (ap (λ m. unsigned_abs b₁ * m) (sym d₂_is) ∙ sym (abs-*ℤ b₁ d₂))
    (coprime_product (unsigned_abs s₁) (unsigned_abs b₁) (unsigned_abs d₁ * G) (coprime_down (unsigned_abs s) (unsigned_abs b₁) (unsigned_abs s₁) s_b₁ down)
    (coprime_product (unsigned_abs s₁) (unsigned_abs d₁) G (coprime_down (unsigned_abs s) (unsigned_abs d₁) (unsigned_abs s₁) s_d₁ down) s₁_G))
  where
    regroup : (x h y : ℕ) → x * (h * y) ≡ (x * y) * h
    regroup x h y = omega arith

-- its value is the sum
pub sum_is : (p r q : ℚ) (g h b₁ d₁ s₁ d₂ : ℤ) → pos 0 <ℤ g → pos 0 <ℤ h → pos 0 <ℤ b₁ → pos 0 <ℤ d₁
    → b₁ *ℤ g ≡ p.den → d₁ *ℤ g ≡ r.den → s₁ *ℤ h ≡ (p.num *ℤ d₁) +ℤ (r.num *ℤ b₁) → d₂ *ℤ h ≡ r.den
    → q.num ≡ s₁ → q.den ≡ b₁ *ℤ d₂ → q ≡ p +ℚ r
sum_is p r q g h b₁ d₁ s₁ d₂ some_g some_h some_b some_d whole_b whole_d whole_s whole_d₂ num den =
    let s = (p.num *ℤ d₁) +ℤ (r.num *ℤ b₁) in
    let x : IsOver p (p.num *ℤ d₁) (b₁ *ℤ r.den) = subst (λ k. IsOver p (p.num *ℤ d₁) k)
    (ap (λ k. k *ℤ d₁) (sym whole_b) ∙ *ℤ_assoc b₁ g d₁ ∙ ap (λ k. b₁ *ℤ k) (*ℤ_comm g d₁ ∙ whole_d)) (over_scaled p p.num p.den d₁ (over_self p) some_d) in
    let y : IsOver r (r.num *ℤ b₁) (b₁ *ℤ r.den) = subst (λ k. IsOver r (r.num *ℤ b₁) k) (*ℤ_comm r.den b₁) (over_scaled r r.num r.den b₁ (over_self r) some_b) in
    over_same q (p +ℚ r) (q.num *ℤ h) s (q.den *ℤ h) (b₁ *ℤ r.den)
    (over_scaled q q.num q.den h (over_self q) some_h) (+ℚ-over p r (p.num *ℤ d₁) (r.num *ℤ b₁) (b₁ *ℤ r.den) x y)
    (ap (λ k. k *ℤ h) num ∙ whole_s) (ap (λ k. k *ℤ h) den ∙ *ℤ_assoc b₁ d₂ h ∙ ap (λ k. b₁ *ℤ k) whole_d₂)
