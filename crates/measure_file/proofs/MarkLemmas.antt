-- The tables of marks.
use Rattle.std.proofs.Common.{ℕ, ℤ, ◌≡◌, ◌<◌, ◌++◌, Bool, true, false, List, [], ◌∷◌, length, get_or, refl, ap, sym, ◌∙◌, arith}
use Rattle.std.specs.Prelude.{◌||◌, ◌==◌, nat_lt, slice_set}
use Rattle.std.specs.List.{list_all, list_any}
use Rattle.std.proofs.lemmas.Bool.{and_parts, eq-eqb, ne_eqb}
use Rattle.std.proofs.lemmas.Bool.Decides.{nat_tests}
use Rattle.std.proofs.lemmas.Grind.{get_or-set_at}
use Rattle.std.proofs.lemmas.List.{get_or_default}
use Rattle.std.proofs.Common.{get_or-set_other, length-set}
use Rattle.ctt_reader.proofs.EntryLemmas.{all-more}
use Rattle.measure_file.specs.Grammar.{same_pair, same_course}
use Rattle.measure_file.specs.Marks.{IsUnmarked, AreMarks, ArePreferred, pair_place, has_place, course_place}

pub any-more : {A : Type 0} (test : A → Bool) (xs : List A) (x : A) → list_any test (xs ++ x ∷ []) ≡ (list_any test xs || test x)
any-more test [] x = elim (test x) as (λ t. (t || false) ≡ (false || t)) [ true ↦ refl | false ↦ refl ]
any-more test (y ∷ ys) x = elim (test y) as (λ t. (t || list_any test (ys ++ x ∷ [])) ≡ ((t || list_any test ys) || test x)) [ true ↦ refl | false ↦ any-more test ys x ]

equal_of : (a b : ℕ) → (a == b) ≡ true → a ≡ b
equal_of a b h = grind (arith, nat_tests, h)

or-true : (b : Bool) → (b || true) ≡ true
or-true true = refl
or-true false = refl

or-false : (b : Bool) → (b || false) ≡ b
or-false true = refl
or-false false = refl

-- a mark that was looked up
pub mark-is : {A : Type 0} (n : ℕ) (number : A → ℕ) (rows : List A) (marks : List Bool) (k : ℕ) (b : Bool) → AreMarks n number rows marks → k < n → b ≡ get_or marks k b → b ≡ list_any (λ x. number x == k) rows
mark-is n number rows marks k b h l is =
    let room : k < length marks = omega (arith, l, h.count) in
    is ∙ get_or_default marks k b false room ∙ h.each k room

-- no marks for no rows
pub AreMarks-none : {A : Type 0} (n : ℕ) (number : A → ℕ) (marks : List Bool) → IsUnmarked n marks → AreMarks n number [] marks
AreMarks-none n number marks h = record { count = h.count; each = h.each }

-- one more row and its mark
pub AreMarks-more : {A : Type 0} (n : ℕ) (number : A → ℕ) (rows : List A) (x : A) (marks : List Bool) → number x < n → AreMarks n number rows marks → AreMarks n number (rows ++ x ∷ []) (slice_set marks (number x) true)
AreMarks-more n number rows x marks small old =
    let size : length (slice_set marks (number x) true) ≡ length marks = length-set marks (number x) true in
    let room : number x < length marks = omega (arith, small, old.count) in
    record {
      count = size ∙ old.count;
      each = λ k l.
          elim (number x == k) as (λ t. (number x == k) ≡ t → get_or (slice_set marks (number x) true) k false ≡ (list_any (λ y. number y == k) rows || t)) [
            | true ↦ λ e. get_or-set_at marks (number x) k true false (sym (equal_of (number x) k e)) room ∙ sym (or-true (list_any (λ y. number y == k) rows))
            | false ↦ λ e. get_or-set_other marks (number x) k true false (λ same. let equal : (number x == k) ≡ true = eq-eqb (number x) k (sym same) in cc) ∙ old.each k (omega (arith, l, size)) ∙ sym (or-false (list_any (λ y. number y == k) rows))
          ] refl ∙ sym (any-more (λ y. number y == k) rows x);
    }

under : (k n : ℕ) → nat_lt k n ≡ true → k < n
under k n h = grind (arith, nat_tests, h)

pub place-parts : (x : ℕ × ℕ × ℤ) → has_place x ≡ true → (x.0 < 1000) × (x.1 < 200)
place-parts x h = let p = and_parts (nat_lt x.0 1000) (nat_lt x.1 200) h in (under x.0 1000 p.0, under x.1 200 p.1)

pub place-small : (x : ℕ × ℕ × ℤ) → has_place x ≡ true → pair_place x < 200000
place-small x h = let p = place-parts x h in omega (arith, p.0, p.1)

-- different pairs have different places
same_place : (x y : ℕ × ℕ × ℤ) → has_place x ≡ true → has_place y ≡ true → (pair_place y == pair_place x) ≡ same_pair x y
same_place x y hx hy =
    let px = place-parts x hx in
    let py = place-parts y hy in
    elim (same_pair x y) as (λ t. same_pair x y ≡ t → (pair_place y == pair_place x) ≡ t) [
      | true ↦ λ e.
          let p = and_parts (x.0 == y.0) (x.1 == y.1) e in
          let c : x.0 ≡ y.0 = equal_of x.0 y.0 p.0 in
          let r : x.1 ≡ y.1 = equal_of x.1 y.1 p.1 in
          eq-eqb (pair_place y) (pair_place x) (omega (arith, c, r))
      | false ↦ λ e. ne_eqb (pair_place y) (pair_place x) (λ same.
          let c : x.0 ≡ y.0 = omega (arith, same, px.1, py.1) in
          let r : x.1 ≡ y.1 = omega (arith, same, c) in
          let equal : same_pair x y ≡ true = rw (eq-eqb x.0 y.0 c, eq-eqb x.1 y.1 r) refl in
          cc)
    ] refl

pub any-same_pair : (x : ℕ × ℕ × ℤ) (rows : List (ℕ × ℕ × ℤ)) → has_place x ≡ true → list_all has_place rows ≡ true → list_any (λ y. pair_place y == pair_place x) rows ≡ list_any (same_pair x) rows
any-same_pair x [] h all = refl
any-same_pair x (y ∷ rows) h all =
    let p = and_parts (has_place y) (list_all has_place rows) all in
    rw (same_place x y h p.0) (ap (λ t. same_pair x y || t) (any-same_pair x rows h p.1))

equal-sym : (a b : ℕ) → (a == b) ≡ (b == a)
equal-sym a b = grind (arith, nat_tests)

pub any-same_course : (x : ℕ × ℕ) (rows : List (ℕ × ℕ)) → list_any (λ y. course_place y == x.0) rows ≡ list_any (same_course x) rows
any-same_course x [] = refl
any-same_course x (y ∷ rows) = rw (equal-sym y.0 x.0) (ap (λ t. same_course x y || t) (any-same_course x rows))

pub preferred-is : (x : ℕ × ℕ × ℤ) (rows : List (ℕ × ℕ × ℤ)) (marks : List Bool) (k : ℕ) (b : Bool) → ArePreferred rows marks → has_place x ≡ true → k ≡ pair_place x → b ≡ get_or marks k b → b ≡ list_any (same_pair x) rows
preferred-is x rows marks k b h place at is =
    mark-is 200000 pair_place rows marks (pair_place x) b h.marked (place-small x place) (is ∙ ap (λ i. get_or marks i b) at) ∙ any-same_pair x rows place h.placed

pub ArePreferred-more : (x : ℕ × ℕ × ℤ) (rows new : List (ℕ × ℕ × ℤ)) (marks : List Bool) (k : ℕ) → new ≡ rows ++ x ∷ [] → k ≡ pair_place x → has_place x ≡ true → ArePreferred rows marks → ArePreferred new (slice_set marks k true)
ArePreferred-more x rows new marks k grown at place old = rw (grown, at) (record {
  placed = all-more has_place rows x old.placed place;
  marked = AreMarks-more 200000 pair_place rows x marks (place-small x place) old.marked;
})

pub length-is : (x : ℕ × ℕ) (rows : List (ℕ × ℕ)) (marks : List Bool) (b : Bool) → AreMarks 1000 course_place rows marks → x.0 < 1000 → b ≡ get_or marks x.0 b → b ≡ list_any (same_course x) rows
length-is x rows marks b h small is = mark-is 1000 course_place rows marks x.0 b h small is ∙ any-same_course x rows
