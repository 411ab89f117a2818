-- Numbers with no common divisor but 1.
use Rattle.std.proofs.Common.{ℕ, ◌≡◌, ◌*◌, ◌/◌, ◌%◌, ◌<◌, arith, refl, sym, ◌∙◌, ap, zero, suc, subst}
use Rattle.std.specs.Int.{◌∣◌, IsGcd}
use Rattle.std.proofs.lemmas.Nat.Gcd.{IsGcd-from_zero, IsGcd-from_mod, dvd-zero, dvd_antisymm}
use Rattle.std.proofs.Math.Nat.{dvd-mul_left, dvd-mul_right, mul_comm, mul-div_cancel', dvd_of_mul-dvd-mul_left}

pub record IsCoprime (a b : ℕ) : Type 0 where
  pub none : (d : ℕ) → d ∣ a → d ∣ b → d ≡ 1

-- Euclid's steps end
pub gcd_within : (steps a b : ℕ) → b < steps → (g : ℕ) × IsGcd a b g
gcd_within zero a b l = absurd (omega arith)
gcd_within (suc steps) a zero l = (a, IsGcd-from_zero a 0 refl)
gcd_within (suc steps) a (suc b) l =
    let r = gcd_within steps (suc b) (a % suc b) (omega arith) in (r.0, IsGcd-from_mod a (suc b) r.0 r.1)

-- what divides a product and has nothing in common with the first factor divides the second
pub divides_other : (a b c : ℕ) → IsCoprime a b → b ∣ a * c → b ∣ c
divides_other a b zero apart h = dvd-zero b
divides_other a b (suc n) apart h =
    let c = suc n in
    let some : 0 < c = omega arith in
    let r = gcd_within (suc (b * c)) (a * c) (b * c) (omega arith) in
    let g = r.0 in
    let is = r.1 in
    let by_c : c ∣ g = is.2 c (dvd-mul_left c a) (dvd-mul_left c b) in
    let k = g / c in
    let whole : c * k ≡ g = mul-div_cancel' c by_c in
    let k_a : k ∣ a = dvd_of_mul-dvd-mul_left k some (subst (λ m. m ∣ c * a) (sym whole) (subst (λ m. g ∣ m) (mul_comm a c) is.0)) in
    let k_b : k ∣ b = dvd_of_mul-dvd-mul_left k some (subst (λ m. m ∣ c * b) (sym whole) (subst (λ m. g ∣ m) (mul_comm b c) is.1)) in
    let one : k ≡ 1 = apart.none k k_a k_b in
    let same : g ≡ c = sym whole ∙ ap (λ m. c * m) one ∙ omega arith in
    subst (λ m. b ∣ m) same (is.2 b h (dvd-mul_right b c))

-- fractions in lowest terms with equal cross products have one denominator
pub same_den : (a b c d : ℕ) → IsCoprime a b → IsCoprime c d → a * d ≡ c * b → b ≡ d
same_den a b c d p q e =
    dvd_antisymm (divides_other a b d p (subst (λ m. b ∣ m) (sym e) (dvd-mul_left b c)))
    (divides_other c d b q (subst (λ m. d ∣ m) e (dvd-mul_left d a)))
