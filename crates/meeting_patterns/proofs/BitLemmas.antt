-- Masks and their bits, and the places of a course's events.
use Rattle.std.proofs.Common.{ℕ, ◌≡◌, ◌+◌, ◌*◌, ◌/◌, ◌%◌, ◌^◌, ◌<◌, ◌≤◌, inl, inr, zero, suc, Bool, true, false, refl, arith, ap, sym, ◌∙◌, cond}
use Rattle.std.specs.Prelude.{◌==◌}
use Rattle.std.proofs.lemmas.Bool.{cases_eq, cases_Bool, eqb-true, eqb-false, eq-eqb, true≢false}
use Rattle.std.specs.Int.{bit_at}
use Rattle.std.proofs.lemmas.Nat.Bits.{bit_at_lowest, bit_at-suc}
use Rattle.std.proofs.Math.Nat.{pow-suc, pow-le-pow_right}
use Rattle.meeting_patterns.specs.Pattern.{has_bit}

last_bit : (m n : ℕ) → (m % 2 == 1) ≡ (n % 2 == 1) → m % 2 ≡ n % 2
last_bit m n h = elim (cases_Bool (m % 2 == 1)) [
  | inl odd ↦ eqb-true (m % 2) 1 odd ∙ sym (eqb-true (n % 2) 1 (sym h ∙ odd))
  | inr even ↦
      let a = eqb-false (m % 2) 1 even in
      let b = eqb-false (n % 2) 1 (sym h ∙ even) in
      omega arith
]

pub pow_two : (k : ℕ) → 2 ^ suc k ≡ 2 * 2 ^ k
pow_two k = omega (arith, pow-suc 2 k)

-- two numbers of k bits with the same bits are one
pub same_bits : (k m n : ℕ) → m < 2 ^ k → n < 2 ^ k → ((j : ℕ) → j < k → has_bit m j ≡ has_bit n j) → m ≡ n
same_bits zero m n l r h = omega arith
same_bits (suc k) m n l r h =
    let low = last_bit m n (h 0 (omega arith)) in
    let high : m / 2 ≡ n / 2 = same_bits k (m / 2) (n / 2) (omega (arith, l, pow_two k)) (omega (arith, r, pow_two k)) (λ j s. h (suc j) (omega arith)) in
    omega arith

-- the number of k bits that a test gives
pub mask_of : (ℕ → Bool) → ℕ → ℕ
mask_of test zero = 0
mask_of test (suc k) = cond (test 0) 1 0 + 2 * mask_of (λ j. test (suc j)) k

pub mask_small : (test : ℕ → Bool) (k : ℕ) → mask_of test k < 2 ^ k
unfolding mask_of
mask_small test zero = omega arith
mask_small test (suc k) = elim (cases_Bool (test 0)) [
  | inl yes_bit ↦ rw yes_bit (omega (arith, mask_small (λ j. test (suc j)) k, pow_two k))
  | inr no_bit ↦ rw no_bit (omega (arith, mask_small (λ j. test (suc j)) k, pow_two k))
]

pub mask_bits : (test : ℕ → Bool) (k j : ℕ) → j < k → has_bit (mask_of test k) j ≡ test j
unfolding mask_of
mask_bits test zero j l = absurd (omega arith)
mask_bits test (suc k) zero l = elim (cases_Bool (test 0)) [
  | inl yes_bit ↦ rw yes_bit (let e : (1 + 2 * mask_of (λ j. test (suc j)) k) % 2 ≡ 1 = omega arith in eq-eqb _ 1 e)
  | inr no_bit ↦ rw no_bit (let e : (0 + 2 * mask_of (λ j. test (suc j)) k) % 2 ≡ 0 = omega arith in ap (λ x. x == 1) e)
]
mask_bits test (suc k) (suc j) l =
    let half : (cond (test 0) 1 0 + 2 * mask_of (λ i. test (suc i)) k) / 2 ≡ mask_of (λ i. test (suc i)) k = elim (cases_Bool (test 0)) [
      | inl yes_bit ↦ rw yes_bit (omega arith)
      | inr no_bit ↦ rw no_bit (omega arith)
    ] in
    ap (λ x. has_bit x j) half ∙ mask_bits (λ i. test (suc i)) k j (omega arith)

pub no_bits : (j : ℕ) → has_bit 0 j ≡ false
no_bits zero = refl
no_bits (suc j) = no_bits j

pub some_bit : (m j : ℕ) → has_bit m j ≡ true → 1 ≤ m
some_bit zero j h = absurd (true≢false (sym h ∙ no_bits j))
some_bit (suc m) j h = omega arith

-- a number that has a bit below k, where it is not 0
pub least_bit : (k m : ℕ) → 1 ≤ m → m < 2 ^ k → (j : ℕ) × (j < k) × (has_bit m j ≡ true)
least_bit zero m s l = absurd (omega arith)
least_bit (suc k) m s l = elim (cases_eq (m % 2) 1) [
  | inl odd ↦ (0, omega arith, eq-eqb (m % 2) 1 odd)
  | inr even ↦ let rest = least_bit k (m / 2) (omega arith) (omega (arith, l, pow_two k)) in (suc rest.0, omega (arith, rest.1), rest.2)
]

-- the bit as the standard library says it
pub has_bit-is : (n j : ℕ) → (bit_at n j == 1) ≡ has_bit n j
has_bit-is n zero = ap (λ x. x == 1) (bit_at_lowest n)
has_bit-is n (suc j) = ap (λ x. x == 1) (bit_at-suc n j) ∙ has_bit-is (n / 2) j

pub pow_few : (k : ℕ) → k ≤ 12 → 2 ^ k ≤ 4096
pow_few k l = let h : 2 ^ k ≤ 2 ^ 12 = pow-le-pow_right (omega arith) l in h

pub bit_few : (k : ℕ) → k < 12 → (1 * 2 ^ k) % 65536 ≤ 2048
bit_few k l =
    let m : k ≤ 11 = omega arith in
    let small : 2 ^ k ≤ 2 ^ 11 = pow-le-pow_right (omega arith) m in
    omega arith
