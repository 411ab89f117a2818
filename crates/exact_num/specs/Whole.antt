-- Whole numbers as fractions.
use Rattle.std.proofs.Common.{ℕ, ◌≡◌, arith, refl, sym, ap, ℤ, pos, ◌+ℤ◌, ◌*ℤ◌, ◌≤ℤ◌, ◌<ℤ◌, neg_ℤ, unsigned_abs}
use Rattle.std.proofs.lemmas.Int.{ints}
use Rattle.std.proofs.lemmas.Nat.Gcd.{dvd_antisymm}
use Rattle.std.proofs.Math.Nat.{one-dvd}
use Rattle.numbers.specs.Coprime.{IsCoprime}
use Rattle.exact_num.specs.Q.{ℚ, IsLow}
use Rattle.exact_num.specs.Over.{IsOver, over_self, over_same}
use Rattle.exact_num.specs.Ops.{◌+ℚ◌, ◌*ℚ◌, neg_ℚ, zero_ℚ, one_ℚ, +ℚ-over, *ℚ-over, neg-over, zero-over, one-over}
use Rattle.exact_num.specs.Order.{◌≤ℚ◌, ≤ℚ-from, ≤ℚ-to}

coprime_one : (n : ℕ) → IsCoprime n 1
coprime_one n = record { none = λ d p q. dvd_antisymm q (one-dvd d) }

one_positive : pos 0 <ℤ pos 1
one_positive = omega (arith, ints)

pub low_one : (n : ℤ) → IsLow n (pos 1)
low_one n = record { positive = one_positive; reduced = coprime_one (unsigned_abs n) }

abbrev pub int_ℚ : ℤ → ℚ
int_ℚ n = record { num = n; den = pos 1; low = low_one n }

pub int-over : (n : ℤ) → IsOver (int_ℚ n) n (pos 1)
int-over n = over_self (int_ℚ n)

pub int_ℚ-zero : int_ℚ (pos 0) ≡ zero_ℚ
int_ℚ-zero = over_same (int_ℚ (pos 0)) zero_ℚ _ _ _ _ (int-over (pos 0)) (zero-over (pos 1) one_positive) refl refl

pub int_ℚ-one : int_ℚ (pos 1) ≡ one_ℚ
int_ℚ-one = over_same (int_ℚ (pos 1)) one_ℚ _ _ _ _ (int-over (pos 1)) (one-over (pos 1) one_positive) refl refl

pub int_ℚ-+ℤ : (m n : ℤ) → int_ℚ (m +ℤ n) ≡ int_ℚ m +ℚ int_ℚ n
int_ℚ-+ℤ m n = over_same (int_ℚ (m +ℤ n)) (int_ℚ m +ℚ int_ℚ n) _ _ _ _ (int-over (m +ℤ n)) (+ℚ-over (int_ℚ m) (int_ℚ n) m n (pos 1) (int-over m) (int-over n)) refl refl

pub int_ℚ-*ℤ : (m n : ℤ) → int_ℚ (m *ℤ n) ≡ int_ℚ m *ℚ int_ℚ n
int_ℚ-*ℤ m n = over_same (int_ℚ (m *ℤ n)) (int_ℚ m *ℚ int_ℚ n) (m *ℤ n) (m *ℤ n) (pos 1) (pos 1 *ℤ pos 1) (int-over (m *ℤ n)) (*ℚ-over (int_ℚ m) (int_ℚ n) m (pos 1) n (pos 1) (int-over m) (int-over n)) refl refl

pub int_ℚ-neg : (n : ℤ) → int_ℚ (neg_ℤ n) ≡ neg_ℚ (int_ℚ n)
int_ℚ-neg n = over_same (int_ℚ (neg_ℤ n)) (neg_ℚ (int_ℚ n)) _ _ _ _ (int-over (neg_ℤ n)) (neg-over (int_ℚ n) n (pos 1) (int-over n)) refl refl

pub int_ℚ-≤ℤ : (m n : ℤ) → m ≤ℤ n → int_ℚ m ≤ℚ int_ℚ n
int_ℚ-≤ℤ m n h = ≤ℚ-from (int_ℚ m) (int_ℚ n) m n (pos 1) (int-over m) (int-over n) h

pub int_ℚ-≤ℚ : (m n : ℤ) → int_ℚ m ≤ℚ int_ℚ n → m ≤ℤ n
int_ℚ-≤ℚ m n h = ≤ℚ-to (int_ℚ m) (int_ℚ n) m n (pos 1) (int-over m) (int-over n) h

-- a fraction is 0 exactly where its numerator is
pub zero_ℚ-num : zero_ℚ.num ≡ pos 0
zero_ℚ-num = ap (λ (q : ℚ). q.num) (sym int_ℚ-zero)

pub num-zero : (q : ℚ) → q.num ≡ pos 0 → q ≡ zero_ℚ
num-zero q e = over_same q zero_ℚ q.num (pos 0) q.den q.den (over_self q) (zero-over q.den q.low.positive) e refl
