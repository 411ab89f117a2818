-- The terms of a leaf.
use Rattle.std.proofs.Common.{ℕ, ◌≡◌, ◌<◌, ◌≤◌, ◌+◌, ◌-◌, min, arith, refl, sym, ◌∙◌, ap, ap₂, zero, suc, Bool, true, false, ◌&&◌, ◌||◌, List, [], ◌∷◌, ◌++◌, length, get_or, take, drop, append_assoc}
use Rattle.std.specs.Prelude.{ℤ, pos, ◌+ℤ◌, ◌*ℤ◌, if◌then◌else◌}
use Rattle.std.specs.List.{list_all, list_any}
use Rattle.std.specs.Ordering.{int_eq}
use Rattle.std.proofs.lemmas.Int.{ints}
use Rattle.std.proofs.lemmas.Bool.{and_parts, and_from}
use Rattle.std.proofs.lemmas.Bool.Decides.{Decides-int_eq}
use Rattle.std.proofs.lemmas.List.Folds.{list_all-append}
use Rattle.std.proofs.lemmas.List.{length-append, length-take, length-drop}
use Rattle.std.proofs.Math.IntN.{zero-*ℤ}
use Rattle.numbers.specs.Sums.{total, sum_below}
use Rattle.duality.proofs.PricedLaws.{total-append}
use Rattle.duality.specs.Sums.{row_before, rises_from, rises}
use Rattle.duality.specs.declared.row.RowName.{RowName}
use Rattle.duality.specs.declared.row.Term.{Term}
use Rattle.exact_simplex.specs.Task.{int_at}
use Rattle.node_bound.specs.Terms.{with_term, terms_of, leaf_terms}
use Rattle.node_bound.specs.Tasks.{name_at}

with_if : (b : Bool) (t : Term) (rest : List Term) → (if b then rest else (t ∷ rest)) ≡ (if b then [] else (t ∷ [])) ++ rest
with_if true t rest = refl
with_if false t rest = refl

pub with_rest : (name : RowName) (times : ℤ) (rest : List Term) → with_term name times rest ≡ with_term name times [] ++ rest
with_rest name times rest = with_if (int_eq times (pos 0)) (record { row = name; times = times }) rest

-- the first term, and the rest
pub terms_drop : (names : List RowName) (ys : List ℤ) (i : ℕ) (d : RowName) → i < length names → i < length ys → terms_of (drop i names) (drop i ys) ≡ with_term (get_or names i d) (int_at ys i) [] ++ terms_of (drop (i + 1) names) (drop (i + 1) ys)
terms_drop [] ys i d l m = absurd (omega arith)
terms_drop (n ∷ ns) [] i d l m = absurd (omega arith)
terms_drop (n ∷ ns) (y ∷ ys) zero d l m = with_rest n y (terms_of ns ys)
terms_drop (n ∷ ns) (y ∷ ys) (suc i) d l m = let e : suc i + 1 ≡ suc (i + 1) = omega arith in rw e (terms_drop ns ys i d (omega arith) (omega arith))

pub terms_nil : (names : List RowName) → terms_of names [] ≡ []
terms_nil [] = refl
terms_nil (n ∷ ns) = refl

pub terms_end : (names : List RowName) (ys : List ℤ) (i : ℕ) → length names ≤ i → terms_of (drop i names) (drop i ys) ≡ []
terms_end [] ys zero l = refl
terms_end [] ys (suc i) l = refl
terms_end (n ∷ ns) ys zero l = absurd (omega arith)
terms_end (n ∷ ns) [] (suc i) l = terms_nil (drop i ns)
terms_end (n ∷ ns) (y ∷ ys) (suc i) l = terms_end ns ys i (omega arith)

-- a term more
pub terms_step : (before here rest after whole : List Term) (new : List Term) → before ++ rest ≡ whole → rest ≡ here ++ after → new ≡ before ++ here → new ++ after ≡ whole
terms_step before here rest after whole new h split made = ap (λ ts. ts ++ after) made ∙ append_assoc before here after ∙ ap (λ ts. before ++ ts) (sym split) ∙ h

-- ---- sums over the terms

sum_front : (f : ℕ → ℤ) (n : ℕ) → sum_below f (suc n) ≡ f 0 +ℤ sum_below (λ i. f (suc i)) n
sum_front f zero = omega (arith, ints)
sum_front f (suc n) = omega (arith, ints, sum_front f n)

with_sum : (g : RowName → ℤ) (name : RowName) (times : ℤ) (rest : List Term) → total (λ t. t.times *ℤ g t.row) (with_term name times rest) ≡ (times *ℤ g name) +ℤ total (λ t. t.times *ℤ g t.row) rest
with_sum g name times rest =
    elim (int_eq times (pos 0)) as (λ b. b ≡ int_eq times (pos 0) → total (λ (t : Term). t.times *ℤ g t.row) (if b then rest else ((record { row = name; times = times }) ∷ rest)) ≡ (times *ℤ g name) +ℤ total (λ (t : Term). t.times *ℤ g t.row) rest) [
      | true ↦ λ e. let none : times *ℤ g name ≡ pos 0 = ap (λ z. z *ℤ g name) ((Decides-int_eq times (pos 0)).0 (sym e)) ∙ zero-*ℤ (g name) in omega (arith, ints)
      | false ↦ λ e. refl
    ] refl

-- each row's multiplier times a number of the row, over the terms and over the rows
pub terms_sum : (g : RowName → ℤ) (names : List RowName) (ys : List ℤ) → length ys ≡ length names → total (λ t. t.times *ℤ g t.row) (terms_of names ys) ≡ sum_below (λ i. int_at ys i *ℤ g (name_at names i)) (length names)
terms_sum g [] ys e = refl
terms_sum g (n ∷ ns) [] e = absurd (omega arith)
terms_sum g (n ∷ ns) (y ∷ ys) e =
    let f : ℕ → ℤ = λ i. int_at (y ∷ ys) i *ℤ g (name_at (n ∷ ns) i) in
    with_sum g n y (terms_of ns ys) ∙ ap (λ z. (y *ℤ g n) +ℤ z) (terms_sum g ns ys (omega arith)) ∙ sym (sum_front f (length ns))

-- ---- the order of a leaf

with_more : (b : Bool) (t : Term) (xs ys : List Term) → (if b then (xs ++ ys) else (t ∷ (xs ++ ys))) ≡ (if b then xs else (t ∷ xs)) ++ ys
with_more true t xs ys = refl
with_more false t xs ys = refl

terms_split : (n : ℕ) (names : List RowName) (ys : List ℤ) → terms_of names ys ≡ terms_of (take n names) (take n ys) ++ terms_of (drop n names) (drop n ys)
terms_split zero names ys = refl
terms_split (suc n) [] ys = refl
terms_split (suc n) (x ∷ xs) [] = sym (terms_nil (drop n xs))
terms_split (suc n) (x ∷ xs) (y ∷ ys) =
    ap (with_term x y) (terms_split n xs ys) ∙ with_more (int_eq y (pos 0)) (record { row = x; times = y }) (terms_of (take n xs) (take n ys)) (terms_of (drop n xs) (drop n ys))

pub terms_append : (xs xs' : List RowName) (ys ys' : List ℤ) → length xs ≡ length ys → terms_of (xs ++ xs') (ys ++ ys') ≡ terms_of xs ys ++ terms_of xs' ys'
terms_append [] xs' [] ys' e = refl
terms_append [] xs' (y ∷ ys) ys' e = absurd (omega arith)
terms_append (x ∷ xs) xs' [] ys' e = absurd (omega arith)
terms_append (x ∷ xs) xs' (y ∷ ys) ys' e =
    ap (with_term x y) (terms_append xs xs' ys ys' (omega arith)) ∙ with_more (int_eq y (pos 0)) (record { row = x; times = y }) (terms_of xs ys) (terms_of xs' ys')

same_length : (n : ℕ) (names : List RowName) (ys : List ℤ) → length ys ≡ length names → length (take n names) ≡ length (take n ys)
same_length n names ys e = length-take n names ∙ ap (min n) (sym e) ∙ sym (length-take n ys)

same_rest : (n : ℕ) (names : List RowName) (ys : List ℤ) → length ys ≡ length names → length (drop n ys) ≡ length (drop n names)
same_rest n names ys e = length-drop n ys ∙ ap (λ m. m - n) e ∙ sym (length-drop n names)

joined_length : (xs xs' : List RowName) (ys ys' : List ℤ) → length xs ≡ length ys → length xs' ≡ length ys' → length (xs ++ xs') ≡ length (ys ++ ys')
joined_length xs xs' ys ys' e f = length-append xs xs' ∙ ap₂ (λ m n. m + n) e f ∙ sym (length-append ys ys')

module _ (lead low others : ℕ) (names : List RowName) (ys : List ℤ) where
  in_order : terms_of names ys ≡ terms_of (take lead names) (take lead ys) ++ (terms_of (take low (drop lead names)) (take low (drop lead ys))
      ++ (terms_of (take others (drop low (drop lead names))) (take others (drop low (drop lead ys))) ++ terms_of (drop others (drop low (drop lead names))) (drop others (drop low (drop lead ys)))))
  in_order =
      terms_split lead names ys
      ∙ ap (λ z. terms_of (take lead names) (take lead ys) ++ z) (terms_split low (drop lead names) (drop lead ys)
      ∙ ap (λ z. terms_of (take low (drop lead names)) (take low (drop lead ys)) ++ z) (terms_split others (drop low (drop lead names)) (drop low (drop lead ys))))

  pub leaf_sum : (g : Term → ℤ) → total g (leaf_terms lead low others names ys) ≡ total g (terms_of names ys)
  leaf_sum g =
      let a = terms_of (take lead names) (take lead ys) in
      let b = terms_of (take low (drop lead names)) (take low (drop lead ys)) in
      let d = terms_of (take others (drop low (drop lead names))) (take others (drop low (drop lead ys))) in
      let e = terms_of (drop others (drop low (drop lead names))) (drop others (drop low (drop lead ys))) in
      let one = total-append g (a ++ d ++ b) e in
      let two = total-append g (a ++ d) b in
      let three = total-append g a d in
      let four = total-append g a (b ++ (d ++ e)) in
      let five = total-append g b (d ++ e) in
      let six = total-append g d e in
      let same = ap (total g) in_order in
      omega (arith, ints, one, two, three, four, five, six, same)

  pub leaf_all : (test : Term → Bool) → list_all test (terms_of names ys) ≡ true → list_all test (leaf_terms lead low others names ys) ≡ true
  leaf_all test all =
      let a = terms_of (take lead names) (take lead ys) in
      let b = terms_of (take low (drop lead names)) (take low (drop lead ys)) in
      let d = terms_of (take others (drop low (drop lead names))) (take others (drop low (drop lead ys))) in
      let e = terms_of (drop others (drop low (drop lead names))) (drop others (drop low (drop lead ys))) in
      let first = and_parts (list_all test a) (list_all test (b ++ (d ++ e))) (sym (list_all-append test a (b ++ (d ++ e))) ∙ ap (list_all test) (sym in_order) ∙ all) in
      let second = and_parts (list_all test b) (list_all test (d ++ e)) (sym (list_all-append test b (d ++ e)) ∙ first.1) in
      let third = and_parts (list_all test d) (list_all test e) (sym (list_all-append test d e) ∙ second.1) in
      let ad : list_all test (a ++ d) ≡ true = list_all-append test a d ∙ and_from (list_all test a) (list_all test d) first.0 third.0 in
      let adb : list_all test (a ++ d ++ b) ≡ true = list_all-append test (a ++ d) b ∙ and_from (list_all test (a ++ d)) (list_all test b) ad second.0 in
      list_all-append test (a ++ d ++ b) e ∙ and_from (list_all test (a ++ d ++ b)) (list_all test e) adb third.1

  -- it is the terms of the names and multipliers in that order
  pub leaf_is : length ys ≡ length names → leaf_terms lead low others names ys
      ≡ terms_of (take lead names ++ take others (drop low (drop lead names)) ++ take low (drop lead names) ++ drop others (drop low (drop lead names)))
      (take lead ys ++ take others (drop low (drop lead ys)) ++ take low (drop lead ys) ++ drop others (drop low (drop lead ys)))
  leaf_is e =
      let a = take lead names in
      let a' = take lead ys in
      let b = take low (drop lead names) in
      let b' = take low (drop lead ys) in
      let d = take others (drop low (drop lead names)) in
      let d' = take others (drop low (drop lead ys)) in
      let e1 : length (drop lead ys) ≡ length (drop lead names) = same_rest lead names ys e in
      let e2 : length (drop low (drop lead ys)) ≡ length (drop low (drop lead names)) = same_rest low (drop lead names) (drop lead ys) e1 in
      let la : length a ≡ length a' = same_length lead names ys e in
      let lb : length b ≡ length b' = same_length low (drop lead names) (drop lead ys) e1 in
      let ld : length d ≡ length d' = same_length others (drop low (drop lead names)) (drop low (drop lead ys)) e2 in
      let lad : length (a ++ d) ≡ length (a' ++ d') = joined_length a d a' d' la ld in
      let ladb : length (a ++ d ++ b) ≡ length (a' ++ d' ++ b') = joined_length (a ++ d) b (a' ++ d') b' lad lb in
      sym (terms_append (a ++ d ++ b) (drop others (drop low (drop lead names))) (a' ++ d' ++ b') (drop others (drop low (drop lead ys))) ladb
      ∙ ap (λ z. z ++ terms_of (drop others (drop low (drop lead names))) (drop others (drop low (drop lead ys))))
      (terms_append (a ++ d) b (a' ++ d') b' lad ∙ ap (λ z. z ++ terms_of b b') (terms_append a d a' d' la)))

-- ---- what holds of each row and its multiplier

with_all : (test : Term → Bool) (name : RowName) (times : ℤ) (rest : List Term) → test (record { row = name; times = times }) ≡ true → list_all test rest ≡ true → list_all test (with_term name times rest) ≡ true
with_all test name times rest here all =
    elim (int_eq times (pos 0)) as (λ b. list_all test (if b then rest else ((record { row = name; times = times }) ∷ rest)) ≡ true) [
      | true ↦ all
      | false ↦ and_from (test (record { row = name; times = times })) (list_all test rest) here all
    ]

pub terms_all : (test : Term → Bool) (names : List RowName) (ys : List ℤ) → length ys ≡ length names → ((i : ℕ) → i < length names → test (record { row = name_at names i; times = int_at ys i }) ≡ true) → list_all test (terms_of names ys) ≡ true
terms_all test [] ys e h = refl
terms_all test (n ∷ ns) [] e h = refl
terms_all test (n ∷ ns) (y ∷ ys) e h = with_all test n y (terms_of ns ys) (h 0 (omega arith)) (terms_all test ns ys (omega arith) (λ i l. h (suc i) (omega arith)))

with_some : (name : RowName) (times : ℤ) (rest : List Term) → list_any (λ (t : Term). int_eq t.times (pos 0)) rest ≡ false → list_any (λ (t : Term). int_eq t.times (pos 0)) (with_term name times rest) ≡ false
with_some name times rest none =
    elim (int_eq times (pos 0)) as (λ b. b ≡ int_eq times (pos 0) → list_any (λ (t : Term). int_eq t.times (pos 0)) (if b then rest else ((record { row = name; times = times }) ∷ rest)) ≡ false) [
      | true ↦ λ e. none
      | false ↦ λ e. ap₂ (λ a b. a || b) (sym e) none
    ] refl

pub terms_some : (names : List RowName) (ys : List ℤ) → list_any (λ (t : Term). int_eq t.times (pos 0)) (terms_of names ys) ≡ false
terms_some [] ys = refl
terms_some (n ∷ ns) [] = refl
terms_some (n ∷ ns) (y ∷ ys) = with_some n y (terms_of ns ys) (terms_some ns ys)

-- ---- rows in order

abbrev pub is_first : RowName → List RowName → Bool
is_first row names = list_all (row_before row) names

abbrev pub ascends : List RowName → Bool
ascends [] = true
ascends (n ∷ ns) = is_first n ns && ascends ns

rises_with : (row : RowName) (names : List RowName) (ys : List ℤ) → is_first row names ≡ true → ascends names ≡ true → rises_from row (terms_of names ys) ≡ true
rises_with row [] ys first up = refl
rises_with row (n ∷ ns) [] first up = refl
rises_with row (n ∷ ns) (y ∷ ys) first up =
    let here = and_parts (row_before row n) (is_first row ns) first in
    let later = and_parts (is_first n ns) (ascends ns) up in
    elim (int_eq y (pos 0)) as (λ b. rises_from row (if b then terms_of ns ys else ((record { row = n; times = y }) ∷ terms_of ns ys)) ≡ true) [
      | true ↦ rises_with row ns ys here.1 later.1
      | false ↦ and_from (row_before row n) (rises_from n (terms_of ns ys)) here.0 (rises_with n ns ys later.0 later.1)
    ]

pub terms_rise : (names : List RowName) (ys : List ℤ) → ascends names ≡ true → rises (terms_of names ys) ≡ true
terms_rise [] ys up = refl
terms_rise (n ∷ ns) [] up = refl
terms_rise (n ∷ ns) (y ∷ ys) up =
    let later = and_parts (is_first n ns) (ascends ns) up in
    elim (int_eq y (pos 0)) as (λ b. rises (if b then terms_of ns ys else ((record { row = n; times = y }) ∷ terms_of ns ys)) ≡ true) [
      | true ↦ terms_rise ns ys later.1
      | false ↦ rises_with n ns ys later.0 later.1
    ]
