-- What holds of the numbers below a bound, and the first of them that passes a test.
use Rattle.std.proofs.Common.{ℕ, ◌≡◌, ◌+◌, ◌-◌, ◌<◌, inl, inr, zero, suc, Bool, true, false, ◌||◌, refl, arith, ap, sym, ◌∙◌, add-one, cond}
use Rattle.std.proofs.lemmas.Bool.{or_left, or_right, or_parts, cases_eq}
use Rattle.std.specs.Prelude.{if◌then◌else◌}

-- one of the numbers below n passes
abbrev pub any_below : (ℕ → Bool) → ℕ → Bool
any_below test zero = false
any_below test (suc n) = test n || any_below test n

-- the first of the n numbers from r on that passes, + 1; else 0
abbrev pub first_from : (ℕ → Bool) → ℕ → ℕ → ℕ
first_from test r zero = 0
first_from test r (suc n) = if test r then r + 1 else first_from test (r + 1) n

pub any_below_more : (test : ℕ → Bool) (i : ℕ) → any_below test i ≡ false → test i ≡ false → any_below test (i + 1) ≡ false
any_below_more test i none here = rw (add-one, here) none

pub any_below_at : (test : ℕ → Bool) (k n : ℕ) → k < n → test k ≡ true → any_below test n ≡ true
any_below_at test k zero l h = absurd (omega arith)
any_below_at test k (suc n) l h =
    elim (cases_eq k n) [ inl e ↦ or_left (test n) (any_below test n) (ap test (sym e) ∙ h) | inr ne ↦ or_right (test n) (any_below test n) (any_below_at test k n (omega arith) h) ]

-- none passes where the answer is no
pub none_below : (test : ℕ → Bool) (k n : ℕ) → any_below test n ≡ false → k < n → test k ≡ false
none_below test k zero e l = absurd (omega arith)
none_below test k (suc n) e l =
    let parts = or_parts (test n) (any_below test n) e in
    elim (cases_eq k n) [ inl same ↦ rw same parts.0 | inr ne ↦ none_below test k n parts.1 (omega arith) ]

pub first_from_no : (test : ℕ → Bool) (r n : ℕ) → r < n → test r ≡ false → first_from test r (n - r) ≡ first_from test (r + 1) (n - (r + 1))
first_from_no test r n l h = let e : n - r ≡ suc (n - (r + 1)) = omega arith in rw (e, h) refl

pub first_from_yes : (test : ℕ → Bool) (r n : ℕ) → r < n → test r ≡ true → first_from test r (n - r) ≡ r + 1
first_from_yes test r n l h = let e : n - r ≡ suc (n - (r + 1)) = omega arith in rw (e, h) refl

-- what it finds passes, and is below the end
pub first_from_finds : (test : ℕ → Bool) (r n x : ℕ) → first_from test r n ≡ x + 1 → (test x ≡ true) × (x < r + n)
first_from_finds test r zero x e = absurd (omega arith)
first_from_finds test r (suc n) x e =
    elim (test r) as (λ b. b ≡ test r → cond b (r + 1) (first_from test (r + 1) n) ≡ x + 1 → (test x ≡ true) × (x < r + suc n)) [
      | true ↦ λ yes found. let same : r ≡ x = omega arith in (rw (← same) (sym yes), omega arith)
      | false ↦ λ no found. let later = first_from_finds test (r + 1) n x found in (later.0, omega arith)
    ] refl e
