-- The greatest common divisor by halving: factors of 2 in one of two numbers do not count beside an odd one.
use Rattle.std.proofs.Common.{ℕ, ◌≡◌, ◌+◌, ◌-◌, ◌*◌, ◌/◌, ◌%◌, ◌^◌, ◌<◌, ◌≤◌, arith, refl, sym, ◌∙◌, ap, ap₂, zero, suc, subst, mul_comm, min, inl, inr}
use Rattle.std.specs.Int.{◌∣◌, IsGcd, w64, bit_at, trailing_zeros, abs_diff}
use Rattle.std.proofs.lemmas.Bool.{cases_lt}
use Rattle.std.proofs.lemmas.Nat.{pow-add}
use Rattle.std.proofs.lemmas.Nat.Bits.{bit_at-trailing_zeros}
use Rattle.std.proofs.lemmas.Nat.Gcd.{dvd_antisymm, dvd_trans, le_of_dvd}
use Rattle.std.proofs.Math.Nat.{pow-suc, div-div-eq-div-mul, div-one, mul-div_cancel', dvd-add, dvd-sub, dvd-mul_right, dvd-mul_left_of_dvd, one-dvd, mul-dvd-mul_left, dvd_of_mul-dvd-mul_left, mod-eq_of_lt}
use Rattle.numbers.specs.Coprime.{IsCoprime, divides_other, gcd_within}
use Rattle.exact_num.specs.Reduced.{coprime_swap, coprime_product}
use Rattle.exact_num.specs.Halving.{IsOddPart}

low_digits : (n t : ℕ) → ((i : ℕ) → i < t → bit_at n i ≡ 0) → 2 ^ t * (n / 2 ^ t) ≡ n
low_digits n zero h = omega (arith, div-one n)
low_digits n (suc t) h =
    let k = n / 2 ^ t in
    let before : 2 ^ t * k ≡ n = low_digits n t (λ i l. h i (omega arith)) in
    let digit : k % 2 ≡ 0 = h t (omega arith) in
    let half : 2 * (k / 2) ≡ k = omega arith in
    let next : n / 2 ^ suc t ≡ k / 2 = ap (λ m. n / m) (pow-suc 2 t) ∙ sym (div-div-eq-div-mul n (2 ^ t) 2) in
    ap₂ (λ x y. x * y) (pow-suc 2 t) next ∙ group (2 ^ t) (k / 2) ∙ ap (λ m. 2 ^ t * m) half ∙ before
  where
    group : (x y : ℕ) → (x * 2) * y ≡ x * (2 * y)
    group x y = omega arith

pub odd_part_of : (n : ℕ) → 0 < n → n < 2 ^ 64 → IsOddPart n (n / 2 ^ trailing_zeros w64 n)
odd_part_of n some short =
    let digits = bit_at-trailing_zeros w64 n some short in
    record { is_odd = digits.1; whole = low_digits n (trailing_zeros w64 n) digits.2 }

two_apart : (d : ℕ) → d % 2 ≡ 1 → IsCoprime d 2
two_apart d odd = record { none = λ e p q. cases e d odd p (le_of_dvd (omega arith) q) (positive e (mul-div_cancel' e q)) }
  where
    positive : (e : ℕ) → e * (2 / e) ≡ 2 → 0 < e
    positive zero h = absurd (omega (arith, h))
    positive (suc e) h = omega arith

    even : (d : ℕ) → 2 ∣ d → d % 2 ≡ 1 → ⊥
    even d h odd = let e : 2 * (d / 2) ≡ d = mul-div_cancel' 2 h in omega arith

    cases : (e d : ℕ) → d % 2 ≡ 1 → e ∣ d → e ≤ 2 → 0 < e → e ≡ 1
    cases zero d odd p l k = absurd (omega arith)
    cases (suc zero) d odd p l k = refl
    cases (suc (suc zero)) d odd p l k = absurd (even d p odd)
    cases (suc (suc (suc e))) d odd p l k = absurd (omega arith)

powers_apart : (d t : ℕ) → d % 2 ≡ 1 → IsCoprime d (2 ^ t)
powers_apart d zero odd = record { none = λ e p q. dvd_antisymm q (one-dvd e) }
powers_apart d (suc t) odd = subst (λ m. IsCoprime d m) (sym (pow-suc 2 t)) (coprime_product d (2 ^ t) 2 (powers_apart d t odd) (two_apart d odd))

odd_divisor : (d x : ℕ) → d ∣ x → x % 2 ≡ 1 → d % 2 ≡ 1
odd_divisor d x h odd = product d (x / d) x (mul-div_cancel' d h) odd
  where
    product : (d k x : ℕ) → d * k ≡ x → x % 2 ≡ 1 → d % 2 ≡ 1
    product d k x e odd = elim (cases_lt (d % 2) 1) [
      | inl l ↦
          let half : d ≡ 2 * (d / 2) = omega arith in
          let x_is : x ≡ 2 * ((d / 2) * k) = sym e ∙ ap (λ m. m * k) half ∙ group (d / 2) k in
          absurd (omega (arith, x_is))
      | inr l ↦ omega arith
    ]
      where
        group : (y k : ℕ) → (2 * y) * k ≡ 2 * (y * k)
        group y k = omega arith

-- y = 2 ^ t m
pub gcd_halved : (x y m t g : ℕ) → x % 2 ≡ 1 → 2 ^ t * m ≡ y → IsGcd x m g → IsGcd x y g
gcd_halved x y m t g odd e is = (
  is.0,
  subst (λ n. g ∣ n) e (dvd-mul_left_of_dvd g is.1 (2 ^ t)),
  λ d p q. is.2 d p (divides_other (2 ^ t) d m (coprime_swap d (2 ^ t) (powers_apart d t (odd_divisor d x p odd))) (subst (λ n. d ∣ n) (sym e) q)),
)

turned : (x y g : ℕ) → IsGcd x y g → IsGcd y x g
turned x y g is = (is.1, is.0, λ d p q. is.2 d q p)

lesser_first : (x y g : ℕ) → x ≤ y → IsGcd x (y - x) g → IsGcd x y g
lesser_first x y g l is =
    let whole : (y - x) + x ≡ y = omega arith in
    (is.0, subst (λ n. g ∣ n) whole (dvd-add g is.1 is.0), λ d p q. is.2 d p (dvd-sub d q p))

pub gcd_difference : (x y g : ℕ) → IsGcd (min x y) (abs_diff x y) g → IsGcd x y g
gcd_difference x y g is = elim (cases_lt x y) [
  | inl l ↦
      let low : min x y ≡ x = omega arith in
      let gap : abs_diff x y ≡ y - x = omega arith in
      lesser_first x y g (omega arith) (subst (λ n. IsGcd n (y - x) g) low (subst (λ n. IsGcd (min x y) n g) gap is))
  | inr l ↦
      let low : min x y ≡ y = omega arith in
      let gap : abs_diff x y ≡ x - y = omega arith in
      turned y x g (lesser_first y x g l (subst (λ n. IsGcd n (x - y) g) low (subst (λ n. IsGcd (min x y) n g) gap is)))
]

pub odd_min : (x y : ℕ) → x % 2 ≡ 1 → y % 2 ≡ 1 → min x y % 2 ≡ 1
odd_min x y p q = elim (cases_lt x y) [
  | inl l ↦ let low : min x y ≡ x = omega arith in ap (λ n. n % 2) low ∙ p
  | inr l ↦ let low : min x y ≡ y = omega arith in ap (λ n. n % 2) low ∙ q
]

pub part_below : (t m n : ℕ) → 2 ^ t * m ≡ n → m ≤ n
part_below t m n e = times (2 ^ t) m n e (power t)
  where
    times : (k m n : ℕ) → k * m ≡ n → 0 < k → m ≤ n
    times k m n e p = grind arith

    power : (t : ℕ) → 0 < 2 ^ t
    power zero = omega arith
    power (suc t) = let p : 0 < 2 ^ t = power t in omega (arith, pow-suc 2 t)

-- a common factor
scaled : (k x y g : ℕ) → 0 < k → IsGcd x y g → IsGcd (k * x) (k * y) (k * g)
scaled k x y g some is = (
  mul-dvd-mul_left g k is.0,
  mul-dvd-mul_left g k is.1,
  λ d p q.
      let r = gcd_within (suc (k * y)) (k * x) (k * y) (omega arith) in
      let h = r.0 in
      let by_k : k ∣ h = r.1.2 k (dvd-mul_right k x) (dvd-mul_right k y) in
      let whole : k * (h / k) ≡ h = mul-div_cancel' k by_k in
      let first : h / k ∣ x = dvd_of_mul-dvd-mul_left (h / k) some (subst (λ n. n ∣ k * x) (sym whole) r.1.0) in
      let second : h / k ∣ y = dvd_of_mul-dvd-mul_left (h / k) some (subst (λ n. n ∣ k * y) (sym whole) r.1.1) in
      let up : h ∣ k * g = subst (λ n. n ∣ k * g) whole (mul-dvd-mul_left (h / k) k (is.2 (h / k) first second)) in
      dvd_trans d (r.1.2 d p q) up,
)

power_positive : (t : ℕ) → 0 < 2 ^ t
power_positive zero = omega arith
power_positive (suc t) = let p : 0 < 2 ^ t = power_positive t in omega (arith, pow-suc 2 t)

power_sum : (i t : ℕ) → 2 ^ (i + t) ≡ 2 ^ i * 2 ^ t
power_sum i t = pow-add 2 i t

one_less : (a b i t g a₁ b₁ : ℕ) → 2 ^ i * a₁ ≡ a → 2 ^ (i + t) * b₁ ≡ b → a₁ % 2 ≡ 1 → IsGcd a₁ b₁ g → IsGcd a b (2 ^ i * g)
one_less a b i t g a₁ b₁ e f odd is =
    let rest : 2 ^ i * (2 ^ t * b₁) ≡ b = group (2 ^ i) (2 ^ t) b₁ ∙ ap (λ m. m * b₁) (sym (power_sum i t)) ∙ f in
    subst (λ m. IsGcd m b (2 ^ i * g)) e (subst (λ m. IsGcd (2 ^ i * a₁) m (2 ^ i * g)) rest
    (scaled (2 ^ i) a₁ (2 ^ t * b₁) g (power_positive i) (gcd_halved a₁ (2 ^ t * b₁) b₁ t g odd refl is)))
  where
    group : (x y z : ℕ) → x * (y * z) ≡ (x * y) * z
    group x y z = omega arith

pub gcd_even : (a b i j g a₁ b₁ : ℕ) → 2 ^ i * a₁ ≡ a → 2 ^ j * b₁ ≡ b → a₁ % 2 ≡ 1 → b₁ % 2 ≡ 1 → IsGcd a₁ b₁ g → IsGcd a b (2 ^ min i j * g)
gcd_even a b i j g a₁ b₁ e f odd_a odd_b is = elim (cases_lt i j) [
  | inl l ↦
      let low : min i j ≡ i = omega arith in
      let split : j ≡ i + (j - i) = omega arith in
      subst (λ n. IsGcd a b (2 ^ n * g)) (sym low) (one_less a b i (j - i) g a₁ b₁ e (ap (λ n. 2 ^ n * b₁) (sym split) ∙ f) odd_a is)
  | inr l ↦
      let low : min i j ≡ j = omega arith in
      let split : i ≡ j + (i - j) = omega arith in
      subst (λ n. IsGcd a b (2 ^ n * g)) (sym low) (turned b a (2 ^ j * g) (one_less b a j (i - j) g b₁ a₁ f (ap (λ n. 2 ^ n * a₁) (sym split) ∙ e) odd_b (turned a₁ b₁ g is)))
]

-- the code's shift to the left loses nothing
pub shifted : (a b g t : ℕ) → 0 < a → a < 2 ^ 64 → IsGcd a b (2 ^ t * g) → (g * 2 ^ t) % 2 ^ 64 ≡ 2 ^ t * g
shifted a b g t some short is =
    let l : 2 ^ t * g ≤ a = le_of_dvd some is.0 in
    let same : g * 2 ^ t ≡ 2 ^ t * g = mul_comm g (2 ^ t) in
    ap (λ m. m % 2 ^ 64) same ∙ mod-eq_of_lt (omega (arith, l, short))
