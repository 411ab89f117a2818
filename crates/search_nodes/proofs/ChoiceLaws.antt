-- What a choice chooses, as a list of patterns.
use Rattle.std.proofs.Common.{ℕ, ◌≡◌, ◌≤◌, ◌^◌, arith, refl, sym, ◌∙◌, ap, ap₂, zero, suc, Bool, true, ◌&&◌, List, [], ◌∷◌, length, inl, inr}
use Rattle.std.specs.Prelude.{ℤ, pos, nat_lt}
use Rattle.std.specs.List.{list_all}
use Rattle.std.proofs.lemmas.Int.{ints}
use Rattle.std.proofs.lemmas.Bool.{cases_Bool, and_from, lt-ltb}
use Rattle.std.proofs.lemmas.List.Folds.{list_all-append}
use Rattle.numbers.specs.Sums.{total, value}
use Rattle.problem_core.specs.Facts.{Facts}
use Rattle.problem_core.specs.Courses.{passing}
use Rattle.problem_core.specs.Kept.{IsWithin as IsIn}
use Rattle.meeting_patterns.specs.Pattern.{patterns_of, pattern_at, chooses}
use Rattle.meeting_patterns.specs.declared.pattern.Pattern.{Pattern}
use Rattle.duality.specs.Packing.{Weights}
use Rattle.duality.specs.Sums.{IsWithin}
use Rattle.duality.proofs.PricedLaws.{total-append}
use Rattle.packing_model.specs.Built.{packing}
use Rattle.packing_model.specs.Closing.{choice_of}
use Rattle.search_nodes.specs.Choices.{weighs}

pub value-passing : (has : ℕ → Bool) (f : ℕ → ℤ) (n : ℕ) → value has f n ≡ total f (passing has n)
value-passing has f zero = refl
value-passing has f (suc n) = elim (cases_Bool (has n)) [
  | inl hit ↦ rw hit (omega (arith, ints, value-passing has f n, total-append f (passing has n) (n ∷ [])))
  | inr miss ↦ rw miss (omega (arith, ints, value-passing has f n))
]

passing_below : (test : ℕ → Bool) (n m : ℕ) → n ≤ m → list_all (λ p. nat_lt p m) (passing test n) ≡ true
passing_below test zero m l = refl
passing_below test (suc n) m l = elim (cases_Bool (test n)) [
  | inl hit ↦ rw hit (list_all-append (λ p. nat_lt p m) (passing test n) (n ∷ []) ∙ and_from (list_all (λ p. nat_lt p m) (passing test n)) (nat_lt n m && true) (passing_below test n m (omega arith)) (and_from (nat_lt n m) true (lt-ltb n m (omega arith)) refl))
  | inr miss ↦ rw miss (passing_below test n m (omega arith))
]

pub passing_known : (test : ℕ → Bool) (n : ℕ) → list_all (λ p. nat_lt p n) (passing test n) ≡ true
passing_known test n = passing_below test n n (omega arith)

pub in_size : (z : ℤ) → IsIn (pos 192000000000) z → IsWithin (10 ^ 12) z
in_size z h = record { low = omega (arith, ints, h.low); high = omega (arith, ints, h.high) }

-- the patterns that are listed as chosen
pub chosen_are : (p q : Facts) (s : List Pattern) (a list : List ℕ) → q ≡ p → s ≡ patterns_of p → list ≡ passing (λ i. chooses q a (pattern_at s i)) (length s) → list ≡ passing (choice_of p a) (packing p).count
chosen_are p q s a list e f h = h ∙ ap₂ (λ (x : Facts) (ys : List Pattern). passing (λ i. chooses x a (pattern_at ys i)) (length ys)) e f

-- weigh together what the choice weighs
pub chosen_weighs : (p : Facts) (w : Weights) (level : ℕ) (a list : List ℕ) → list ≡ passing (choice_of p a) (packing p).count → total (w.weight level) list ≡ weighs p w level a
chosen_weighs p w level a list e = ap (total (w.weight level)) e ∙ sym (value-passing (choice_of p a) (w.weight level) (packing p).count)

pub chosen_known : (p : Facts) (a list : List ℕ) (count : ℕ) → list ≡ passing (choice_of p a) (packing p).count → count ≡ (packing p).count → list_all (λ i. nat_lt i count) list ≡ true
chosen_known p a list count e f = ap₂ (λ n xs. list_all (λ i. nat_lt i n) xs) f e ∙ passing_known (choice_of p a) (packing p).count
