-- More on the first number that passes a test.
use Rattle.std.proofs.Common.{ℕ, ◌≡◌, ◌+◌, ◌<◌, ◌≤◌, inl, inr, zero, suc, Bool, false, refl, arith, sym, ◌∙◌}
use Rattle.std.proofs.lemmas.Bool.{cases_eq, cases_Bool, cond-true, cond-false}
use Rattle.numbers.specs.Below.{any_below, first_from}

-- nothing passes where nothing is found
pub none_passes : (test : ℕ → Bool) (r n k : ℕ) → first_from test r n ≡ 0 → r ≤ k → k < r + n → test k ≡ false
none_passes test r zero k e l m = absurd (omega arith)
none_passes test r (suc n) k e l m =
    elim (cases_Bool (test r)) [
      | inl passes ↦ let found : r + 1 ≡ 0 = sym (cond-true (test r) (r + 1) (first_from test (r + 1) n) passes) ∙ e in absurd (omega arith)
      | inr differs ↦ elim (cases_eq k r) [
        | inl same ↦ rw same differs
        | inr other ↦ none_passes test (r + 1) n k (sym (cond-false (test r) (r + 1) (first_from test (r + 1) n) differs) ∙ e) (omega arith) (omega arith)
      ]
    ]

-- and nothing is found where nothing passes
pub none_found : (test : ℕ → Bool) (r n : ℕ) → ((k : ℕ) → r ≤ k → k < r + n → test k ≡ false) → first_from test r n ≡ 0
none_found test r zero h = refl
none_found test r (suc n) h =
    cond-false (test r) (r + 1) (first_from test (r + 1) n) (h r (omega arith) (omega arith))
    ∙ none_found test (r + 1) n (λ k l m. h k (omega arith) (omega arith))

pub any_below_none : (test : ℕ → Bool) (n : ℕ) → ((k : ℕ) → k < n → test k ≡ false) → any_below test n ≡ false
any_below_none test zero h = refl
any_below_none test (suc n) h = rw (h n (omega arith)) (any_below_none test n (λ k l. h k (omega arith)))
