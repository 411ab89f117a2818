-- Members of lists, and rising lists.
use Rattle.std.proofs.Common.{ℕ, ◌≡◌, ◌<◌, ◌≤◌, inl, inr, zero, suc, Bool, true, false, not, ◌||◌, refl, arith, ap, sym, List, [], ◌∷◌, drop, take}
use Rattle.std.specs.Prelude.{◌==◌, nat_lt}
use Rattle.std.specs.List.{list_all, list_any}
use Rattle.std.proofs.lemmas.Bool.{cases_Bool, and_parts, and_from, or_cases, ltb-true, lt-ltb, eqb-true, true≢false, not_from_false}
use Rattle.numbers.specs.Sums.{member, distinct}
use Rattle.duality.specs.declared.row.RowName.{RowName}
use Rattle.duality.specs.Sums.{same_row, member_row}
use Rattle.packing_model.specs.Rising.{rises_from, is_rising}

pub member_any : (p : ℕ) (ps : List ℕ) → list_any (λ q. q == p) ps ≡ member p ps
member_any p [] = refl
member_any p (q ∷ qs) = ap (λ b. (q == p) || b) (member_any p qs)

pub member_row_any : (r : RowName) (rows : List RowName) → list_any (λ q. same_row q r) rows ≡ member_row r rows
member_row_any r [] = refl
member_row_any r (q ∷ qs) = ap (λ b. same_row q r || b) (member_row_any r qs)

pub rising_rest : (p : ℕ) (ps : List ℕ) → is_rising (p ∷ ps) ≡ true → is_rising ps ≡ true
rising_rest p [] h = refl
rising_rest p (q ∷ qs) h = (and_parts (nat_lt p q) (rises_from q qs) h).1

-- what stands after the first is greater
pub rising_above : (p : ℕ) (ps : List ℕ) (i : ℕ) → rises_from p ps ≡ true → member i ps ≡ true → p < i
rising_above p [] i h m = absurd (true≢false (sym m))
rising_above p (q ∷ qs) i h m =
    let parts = and_parts (nat_lt p q) (rises_from q qs) h in
    let here = ltb-true p q parts.0 in
    elim (or_cases (q == i) (member i qs) m) [
      | inl same ↦ omega (arith, here, eqb-true q i same)
      | inr later ↦ let rest = rising_above q qs i parts.1 later in omega arith
    ]

pub rising_apart : (p : ℕ) (ps : List ℕ) → is_rising (p ∷ ps) ≡ true → member p ps ≡ false
rising_apart p ps h = elim (cases_Bool (member p ps)) [
  | inl m ↦ let less = rising_above p ps p h m in absurd (omega arith)
  | inr none ↦ none
]

pub rising_distinct : (ps : List ℕ) → is_rising ps ≡ true → distinct ps ≡ true
rising_distinct [] h = refl
rising_distinct (p ∷ ps) h = and_from (not (member p ps)) (distinct ps) (not_from_false (member p ps) (rising_apart p ps h)) (rising_distinct ps (rising_rest p ps h))

pub all_drop : {A : Type 0} (test : A → Bool) (xs : List A) (i : ℕ) → list_all test xs ≡ true → list_all test (drop i xs) ≡ true
all_drop test xs zero h = h
all_drop test [] (suc i) h = refl
all_drop test (x ∷ xs) (suc i) h = all_drop test xs i (and_parts (test x) (list_all test xs) h).1

pub all_take : {A : Type 0} (test : A → Bool) (xs : List A) (i : ℕ) → list_all test xs ≡ true → list_all test (take i xs) ≡ true
all_take test xs zero h = refl
all_take test [] (suc i) h = refl
all_take test (x ∷ xs) (suc i) h =
    let parts = and_parts (test x) (list_all test xs) h in
    and_from (test x) (list_all test (take i xs)) parts.0 (all_take test xs i parts.1)

pub known_below : (m n : ℕ) (ps : List ℕ) → m ≤ n → list_all (λ p. nat_lt p m) ps ≡ true → list_all (λ p. nat_lt p n) ps ≡ true
known_below m n [] l h = refl
known_below m n (p ∷ ps) l h =
    let parts = and_parts (nat_lt p m) (list_all (λ q. nat_lt q m) ps) h in
    let here = ltb-true p m parts.0 in
    and_from (nat_lt p n) (list_all (λ q. nat_lt q n) ps) (lt-ltb p n (omega arith)) (known_below m n ps l parts.1)
