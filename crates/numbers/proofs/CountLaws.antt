-- Counts of the numbers that pass: a narrower test counts fewer.
use Rattle.std.proofs.Common.{ℕ, ◌≡◌, ◌<◌, ◌≤◌, arith, refl, sym, ◌∙◌, ap, zero, suc, Bool, true, false, ◌||◌, inl, inr}
use Rattle.std.proofs.lemmas.Bool.{true≢false, cases_Bool, cases_eq}
use Rattle.numbers.specs.Below.{any_below}
use Rattle.numbers.specs.Counts.{count_below}

pub count_le : (a b : ℕ → Bool) (n : ℕ) → ((i : ℕ) → a i ≡ true → b i ≡ true) → count_below a n ≤ count_below b n
count_le a b zero h = omega arith
count_le a b (suc n) h = elim (cases_Bool (a n)) [
  | inl yes_a ↦ rw (yes_a, h n yes_a) (omega (arith, count_le a b n h))
  | inr no_a ↦ elim (cases_Bool (b n)) [
    | inl yes_b ↦ rw (no_a, yes_b) (omega (arith, count_le a b n h))
    | inr no_b ↦ rw (no_a, no_b) (count_le a b n h)
  ]
]

-- it counts fewer where a number passes the wider test alone
pub count_lt : (a b : ℕ → Bool) (n q : ℕ) → ((i : ℕ) → a i ≡ true → b i ≡ true) → q < n → a q ≡ false → b q ≡ true → count_below a n < count_below b n
count_lt a b zero q h l no_a yes_b = absurd (omega arith)
count_lt a b (suc n) q h l no_a yes_b = elim (cases_eq q n) [
  | inl same ↦
      let no_n : a n ≡ false = ap a (sym same) ∙ no_a in
      let yes_n : b n ≡ true = ap b (sym same) ∙ yes_b in
      rw (no_n, yes_n) (omega (arith, count_le a b n h))
  | inr ne ↦ let rest = count_lt a b n q h (omega arith) no_a yes_b in elim (cases_Bool (a n)) [
    | inl yes_n ↦ rw (yes_n, h n yes_n) (omega (arith, rest))
    | inr no_n ↦ elim (cases_Bool (b n)) [
      | inl yes_m ↦ rw (no_n, yes_m) (omega (arith, rest))
      | inr no_m ↦ rw (no_n, no_m) rest
    ]
  ]
]

pub count_all : (a : ℕ → Bool) (n : ℕ) → ((i : ℕ) → a i ≡ true) → count_below a n ≡ n
count_all a zero h = refl
count_all a (suc n) h = rw (h n) (ap suc (count_all a n h))

pub some_counted : (test : ℕ → Bool) (n : ℕ) → any_below test n ≡ true → 1 ≤ count_below test n
some_counted test zero h = absurd (true≢false (sym h))
some_counted test (suc n) h = elim (cases_Bool (test n)) [
  | inl yes_n ↦ rw yes_n (omega arith)
  | inr no_n ↦ let rest : any_below test n ≡ true = sym (ap (λ b. b || any_below test n) no_n) ∙ h in rw no_n (some_counted test n rest)
]
