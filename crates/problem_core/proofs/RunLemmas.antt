-- Slots in a row, a step at a time.
use Rattle.std.proofs.Common.{length, ap, ℕ, ◌≤◌, sym, ◌≡◌, ◌+◌, ◌-◌, ◌<◌, zero, suc, Bool, false, refl, arith, ◌||◌, ◌&&◌, List, [], ◌∷◌, ◌∙◌}
use Rattle.std.specs.Prelude.{◌==◌, nat_le, nat_lt}
use Rattle.std.proofs.lemmas.Bool.{le-ltb}
use Rattle.std.proofs.lemmas.Bool.Decides.{nat_tests}
use Rattle.std.specs.List.{list_any}
use Rattle.problem_core.specs.Facts.{run_of}

pub run_of-more : (test : ℕ → Bool) (s end : ℕ) → s < end → list_any test (run_of s (end - s)) ≡ (test s || list_any test (run_of (s + 1) (end - (s + 1))))
run_of-more test s end l = let e : end - s ≡ suc (end - (s + 1)) = omega arith in rw e refl

pub run_of-next : (test : ℕ → Bool) (s end : ℕ) → s < end → test s ≡ false → list_any test (run_of s (end - s)) ≡ list_any test (run_of (s + 1) (end - (s + 1)))
run_of-next test s end l here = let e : end - s ≡ suc (end - (s + 1)) = omega arith in rw (e, here) refl

pub run_of-same : (test : ℕ → Bool) (s n : ℕ) → list_any test (run_of s n) ≡ list_any test (run_of s (s + n - s))
run_of-same test s n = let e : s + n - s ≡ n = omega arith in rw e refl

-- what stands in a run, and where two runs meet
pub run_of-has : (b m s : ℕ) → list_any (λ t. t == s) (run_of b m) ≡ (nat_le b s && nat_lt s (b + m))
run_of-has b zero s = grind (arith, nat_tests)
run_of-has b (suc m) s = rw (run_of-has (b + 1) m s) (grind (arith, nat_tests))

run_of-in : (b m a n : ℕ) → list_any (λ s. nat_le b s && nat_lt s (b + m)) (run_of a n) ≡ (nat_lt a (b + m) && nat_lt b (a + n) && nat_lt 0 n && nat_lt 0 m)
run_of-in b m a zero = grind (arith, nat_tests)
run_of-in b m a (suc n) = rw (run_of-in b m (a + 1) n) (grind (arith, nat_tests))

any_same : {X : Type 0} (f g : X → Bool) → ((x : X) → f x ≡ g x) → (xs : List X) → list_any f xs ≡ list_any g xs
any_same f g h [] = refl
any_same f g h (x ∷ xs) = rw (h x, any_same f g h xs) refl

pub runs_meet : (a n b m : ℕ) → list_any (λ s. list_any (λ t. t == s) (run_of b m)) (run_of a n) ≡ (nat_lt a (b + m) && nat_lt b (a + n) && nat_lt 0 n && nat_lt 0 m)
runs_meet a n b m = any_same (λ s. list_any (λ t. t == s) (run_of b m)) (λ s. nat_le b s && nat_lt s (b + m)) (run_of-has b m) (run_of a n) ∙ run_of-in b m a n

both_tests : (a n b m : ℕ) → 1 ≤ n → 1 ≤ m → a < b + m → (nat_lt a (b + m) && nat_lt b (a + n) && nat_lt 0 n && nat_lt 0 m) ≡ nat_lt b (a + n)
both_tests a n b m s t l = grind (arith, nat_tests)

no_test : (a n b m : ℕ) → b + m ≤ a → (nat_lt a (b + m) && nat_lt b (a + n) && nat_lt 0 n && nat_lt 0 m) ≡ false
no_test a n b m l = grind (arith, nat_tests)

pub runs_meet-before : (a n b m : ℕ) → 1 ≤ n → 1 ≤ m → a < b + m → nat_lt b (a + n) ≡ list_any (λ s. list_any (λ t. t == s) (run_of b m)) (run_of a n)
runs_meet-before a n b m s t l = sym (runs_meet a n b m ∙ both_tests a n b m s t l)

pub runs_meet-after : (a n b m : ℕ) → b + m ≤ a → nat_lt a (b + m) ≡ list_any (λ s. list_any (λ t. t == s) (run_of b m)) (run_of a n)
runs_meet-after a n b m l = le-ltb a (b + m) l ∙ sym (runs_meet a n b m ∙ no_test a n b m l)

pub length-run_of : (s n : ℕ) → length (run_of s n) ≡ n
length-run_of s zero = refl
length-run_of s (suc n) = ap (λ m. suc m) (length-run_of (s + 1) n)
