-- The cuts of a pattern, as a pool keeps them.
use Rattle.std.proofs.Common.{ℕ, ◌≡◌, ◌≢◌, ◌<◌, ◌≤◌, inl, inr, zero, suc, Bool, true, false, not, ◌||◌, refl, arith, ap, sym, ◌∙◌, List, [], ◌∷◌, ◌++◌, length, get_or, set}
use Rattle.std.specs.Prelude.{◌==◌, map, Option, Some, None, MatchOption, Result, Ok, Err, OnOk, OnErr}
use Rattle.std.proofs.lemmas.Bool.{cases_eq, cases_Bool, and_parts, and_from, or_from, or_left, or_right, not-true, not_from_false, eq-eqb, ne_eqb, true≢false}
use Rattle.std.proofs.lemmas.List.{append-nil, map-append, length-map, length_push, get_or_append_left, get_or_push, get_or-set_same, get_or-set_other}
use Rattle.numbers.specs.Sums.{member}
use Rattle.problem_core.specs.Courses.{passing}
use Rattle.problem_core.specs.Passing.{passing-few, passing-same}
use Rattle.duality.specs.declared.row.RowName.{RowName}
use Rattle.duality.specs.declared.row.RowName.TheVariants.{Base, Cut, Level}
use Rattle.duality.specs.Sums.{same_row, member_row, distinct_rows}
use Rattle.packing_model.specs.Pools.{AreCutRowsOf}
use Rattle.packing_model.specs.CutTable.{rows_at, in_cut, IsCutTable, added_row, Adds, AreSameRows}

-- ---- members of lists of rows

same_row-refl : (r : RowName) → same_row r r ≡ true
same_row-refl (Base a) = eq-eqb a a refl
same_row-refl (Cut a) = eq-eqb a a refl
same_row-refl (Level a) = eq-eqb a a refl

or_group : (a b c : Bool) → (a || (b || c)) ≡ ((a || b) || c)
or_group true b c = refl
or_group false b c = refl

pub member_row-append : (r : RowName) (xs ys : List RowName) → member_row r (xs ++ ys) ≡ (member_row r xs || member_row r ys)
member_row-append r [] ys = refl
member_row-append r (q ∷ xs) ys = ap (λ b. same_row q r || b) (member_row-append r xs ys) ∙ or_group (same_row q r) (member_row r xs) (member_row r ys)

pub distinct_rows-append : (xs ys : List RowName) → distinct_rows xs ≡ true → distinct_rows ys ≡ true → ((q : RowName) → member_row q xs ≡ true → member_row q ys ≡ false) → distinct_rows (xs ++ ys) ≡ true
distinct_rows-append [] ys dx dy apart = dy
distinct_rows-append (q ∷ xs) ys dx dy apart =
    let parts = and_parts (not (member_row q xs)) (distinct_rows xs) dx in
    and_from (not (member_row q (xs ++ ys))) (distinct_rows (xs ++ ys))
    (not_from_false (member_row q (xs ++ ys)) (member_row-append q xs ys ∙ or_from (member_row q xs) (member_row q ys) (not-true (member_row q xs) parts.0) (apart q (or_left (same_row q q) (member_row q xs) (same_row-refl q)))))
    (distinct_rows-append xs ys parts.1 dy (λ r m. apart r (or_right (same_row q r) (member_row r xs) m)))

-- ---- the rows of the cuts that pass a test

step_hit : (test : ℕ → Bool) (n : ℕ) → test n ≡ true → map Cut (passing test (suc n)) ≡ map Cut (passing test n) ++ Cut n ∷ []
step_hit test n h = rw h (map-append Cut (passing test n) (n ∷ []))

step_miss : (test : ℕ → Bool) (n : ℕ) → test n ≡ false → map Cut (passing test (suc n)) ≡ map Cut (passing test n)
step_miss test n h = rw h refl

past : (test : ℕ → Bool) (n c : ℕ) → n ≤ c → member_row (Cut c) (map Cut (passing test n)) ≡ false
past test zero c l = refl
past test (suc n) c l = elim (cases_Bool (test n)) [
  | inl hit ↦
      ap (member_row (Cut c)) (step_hit test n hit)
      ∙ member_row-append (Cut c) (map Cut (passing test n)) (Cut n ∷ [])
      ∙ or_from (member_row (Cut c) (map Cut (passing test n))) ((n == c) || false) (past test n c (omega arith)) (or_from (n == c) false (ne_eqb n c (λ e. absurd (omega arith))) refl)
  | inr miss ↦ ap (member_row (Cut c)) (step_miss test n miss) ∙ past test n c (omega arith)
]

below : (test : ℕ → Bool) (n c : ℕ) → c < n → member_row (Cut c) (map Cut (passing test n)) ≡ test c
below test zero c l = absurd (omega arith)
below test (suc n) c l = elim (cases_Bool (test n)) [
  | inl hit ↦
      ap (member_row (Cut c)) (step_hit test n hit)
      ∙ member_row-append (Cut c) (map Cut (passing test n)) (Cut n ∷ [])
      ∙ elim (cases_eq c n) [
        | inl same ↦ or_right (member_row (Cut c) (map Cut (passing test n))) ((n == c) || false) (or_left (n == c) false (eq-eqb n c (sym same))) ∙ sym (ap test same ∙ hit)
        | inr other ↦
            ap (λ b. member_row (Cut c) (map Cut (passing test n)) || (b || false)) (ne_eqb n c (λ e. other (sym e)))
            ∙ or_false (member_row (Cut c) (map Cut (passing test n)))
            ∙ below test n c (omega arith)
      ]
  | inr miss ↦
      ap (member_row (Cut c)) (step_miss test n miss)
      ∙ elim (cases_eq c n) [
        | inl same ↦ past test n c (omega arith) ∙ sym (ap test same ∙ miss)
        | inr other ↦ below test n c (omega arith)
      ]
]
  where
    or_false : (b : Bool) → (b || false) ≡ b
    or_false true = refl
    or_false false = refl

differ : (test : ℕ → Bool) (n : ℕ) → distinct_rows (map Cut (passing test n)) ≡ true
differ test zero = refl
differ test (suc n) = elim (cases_Bool (test n)) [
  | inl hit ↦ ap distinct_rows (step_hit test n hit) ∙ distinct_rows-append (map Cut (passing test n)) (Cut n ∷ []) (differ test n) refl (apart n)
  | inr miss ↦ ap distinct_rows (step_miss test n miss) ∙ differ test n
]
  where
    apart : (m : ℕ) (q : RowName) → member_row q (map Cut (passing test m)) ≡ true → member_row q (Cut m ∷ []) ≡ false
    apart m (Base r) h = refl
    apart m (Cut c) h = or_from (m == c) false (ne_eqb m c (λ e. true≢false (sym h ∙ past test m c (omega arith)))) refl
    apart m (Level j) h = refl

no_base : (cs : List ℕ) (r : ℕ) → member_row (Base r) (map Cut cs) ≡ false
no_base [] r = refl
no_base (c ∷ cs) r = no_base cs r

no_level : (cs : List ℕ) (j : ℕ) → member_row (Level j) (map Cut cs) ≡ false
no_level [] j = refl
no_level (c ∷ cs) j = no_level cs j

pub cut_rows_are : (cuts : List (List ℕ)) (rows : List RowName) (i : ℕ) → length cuts ≤ 1000 → rows ≡ map Cut (passing (in_cut cuts i) (length cuts)) → AreCutRowsOf cuts rows i
cut_rows_are cuts rows i few is =
    rw is (record {
      differ = differ (in_cut cuts i) (length cuts);
      cut = λ c l. below (in_cut cuts i) (length cuts) c l;
      base = λ r. no_base (passing (in_cut cuts i) (length cuts)) r;
      level = λ j. no_level (passing (in_cut cuts i) (length cuts)) j;
      few = omega (arith, length-map (passing (in_cut cuts i) (length cuts)) Cut, passing-few (in_cut cuts i) (length cuts));
    })

pub cut_rows_in : (kept cuts : List (List ℕ)) (table : List (List RowName)) (rows : List RowName) (i : ℕ) → kept ≡ cuts → length kept ≤ 1000 → IsCutTable kept table → rows ≡ rows_at table i → AreCutRowsOf cuts rows i
cut_rows_in kept cuts table rows i same few is at = rw (← same) (cut_rows_are kept rows i few (at ∙ is.rows i))

-- ---- one cut more

pub table_more : (cuts : List (List ℕ)) (cut : List ℕ) (old new : List (List RowName)) → IsCutTable cuts old → Adds (length cuts) cut old new → IsCutTable (cuts ++ cut ∷ []) new
table_more cuts cut old new is adds = record { rows = at }
  where
    at : (i : ℕ) → rows_at new i ≡ map Cut (passing (in_cut (cuts ++ cut ∷ []) i) (length (cuts ++ cut ∷ [])))
    at i =
        let n : length (cuts ++ cut ∷ []) ≡ suc (length cuts) = omega (arith, length_push cuts cut) in
        let same = passing-same (in_cut (cuts ++ cut ∷ []) i) (in_cut cuts i) (length cuts) (λ j l. ap (member i) (get_or_append_left cuts (cut ∷ []) [] j l)) in
        let last : in_cut (cuts ++ cut ∷ []) i (length cuts) ≡ member i cut = ap (member i) (get_or_push cuts cut [] (length cuts) refl) in
        adds.rows i
        ∙ ap (λ r. r ++ added_row (length cuts) (member i cut)) (is.rows i)
        ∙ elim (cases_Bool (member i cut)) [
          | inl hit ↦
              ap (λ b. map Cut (passing (in_cut cuts i) (length cuts)) ++ added_row (length cuts) b) hit
              ∙ ap (λ p. map Cut p ++ Cut (length cuts) ∷ []) (sym same)
              ∙ sym (step_hit (in_cut (cuts ++ cut ∷ []) i) (length cuts) (last ∙ hit))
              ∙ ap (λ k. map Cut (passing (in_cut (cuts ++ cut ∷ []) i) k)) (sym n)
          | inr miss ↦
              ap (λ b. map Cut (passing (in_cut cuts i) (length cuts)) ++ added_row (length cuts) b) miss
              ∙ append-nil (map Cut (passing (in_cut cuts i) (length cuts)))
              ∙ ap (map Cut) (sym same)
              ∙ sym (step_miss (in_cut (cuts ++ cut ∷ []) i) (length cuts) (last ∙ miss))
              ∙ ap (λ k. map Cut (passing (in_cut (cuts ++ cut ∷ []) i) k)) (sym n)
        ]

pub table_same : (cuts : List (List ℕ)) (old new : List (List RowName)) → IsCutTable cuts old → AreSameRows old new → IsCutTable cuts new
table_same cuts old new is same = record { rows = λ i. same.rows i ∙ is.rows i }

-- ---- one pattern's row more, and back

pub push_back : {A : Type 0} (old new : List A) (x : A) (r : Option A) → MatchOption r ((old ++ x ∷ [] ≡ []) × (new ≡ [])) (λ y. old ++ x ∷ [] ≡ new ++ y ∷ []) → new ≡ old
push_back old new x None h = let n = length_push old x in absurd (omega (arith, n, ap length h.0))
push_back old new x (Some y) h = last_apart new old y x (sym h)
  where
    last_apart : {A : Type 0} (xs ys : List A) (x y : A) → xs ++ x ∷ [] ≡ ys ++ y ∷ [] → xs ≡ ys
    last_apart [] [] x y e = refl
    last_apart [] (y' ∷ ys) x y e = absurd (omega (arith, length_push ys y, ap length e))
    last_apart (x' ∷ xs) [] x y e = absurd (omega (arith, length_push xs x, ap length e))
    last_apart (x' ∷ xs) (y' ∷ ys) x y e = let heads : x' ≡ y' = cc in let tails : xs ++ x ∷ [] ≡ ys ++ y ∷ [] = cc in let rest = last_apart xs ys x y tails in cc

pub row_added : (first : ℕ) (rest : List ℕ) (number : ℕ) (old longer pushed new : List (List RowName)) → member first rest ≡ false → AreSameRows old longer → first < length longer
    → pushed ≡ set longer first (get_or longer first [] ++ Cut number ∷ []) → Adds number rest pushed new → Adds number (first ∷ rest) old new
row_added first rest number old longer pushed new alone same l is adds = record { rows = at }
  where
    at : (i : ℕ) → rows_at new i ≡ rows_at old i ++ added_row number (member i (first ∷ rest))
    at i = elim (cases_eq first i) [
      | inl here ↦
          adds.rows i
          ∙ ap (λ b. rows_at pushed i ++ added_row number b) (ap (λ j. member j rest) (sym here) ∙ alone)
          ∙ append-nil (rows_at pushed i)
          ∙ ap (λ t. rows_at t i) is
          ∙ ap (rows_at (set longer first (get_or longer first [] ++ Cut number ∷ []))) (sym here)
          ∙ get_or-set_same longer first (get_or longer first [] ++ Cut number ∷ []) [] l
          ∙ ap (λ r. r ++ Cut number ∷ []) (same.rows first ∙ ap (rows_at old) here)
          ∙ ap (λ b. rows_at old i ++ added_row number (b || member i rest)) (sym (eq-eqb first i here))
      | inr other ↦
          adds.rows i
          ∙ ap (λ t. rows_at t i ++ added_row number (member i rest)) is
          ∙ ap (λ r. r ++ added_row number (member i rest)) (get_or-set_other longer first i (get_or longer first [] ++ Cut number ∷ []) [] (λ e. other (sym e)) ∙ same.rows i)
          ∙ ap (λ b. rows_at old i ++ added_row number (b || member i rest)) (sym (ne_eqb first i other))
    ]

pub row_back : (first number : ℕ) (old longer pushed after new : List (List RowName)) (row : List RowName) (r : Option RowName) → AreSameRows old longer → first < length longer → first < length after
    → pushed ≡ set longer first (get_or longer first [] ++ Cut number ∷ []) → AreSameRows pushed after
    → (held : List RowName) → held ≡ get_or after first [] → MatchOption r ((held ≡ []) × (row ≡ [])) (λ x. held ≡ row ++ x ∷ []) → new ≡ set after first row → AreSameRows old new
row_back first number old longer pushed after new row r same l m is kept held read popped made = record { rows = at }
  where
    whole : held ≡ get_or longer first [] ++ Cut number ∷ []
    whole = read ∙ kept.rows first ∙ ap (λ t. rows_at t first) is ∙ get_or-set_same longer first (get_or longer first [] ++ Cut number ∷ []) [] l

    back : row ≡ get_or longer first []
    back = push_back (get_or longer first []) row (Cut number) r (rw whole at popped)

    at : (i : ℕ) → rows_at new i ≡ rows_at old i
    at i = elim (cases_eq first i) [
      | inl here ↦
          ap (λ t. rows_at t i) made
          ∙ ap (rows_at (set after first row)) (sym here)
          ∙ get_or-set_same after first row [] m
          ∙ back
          ∙ same.rows first
          ∙ ap (rows_at old) here
      | inr other ↦
          ap (λ t. rows_at t i) made
          ∙ get_or-set_other after first i row [] (λ e. other (sym e))
          ∙ kept.rows i
          ∙ ap (λ t. rows_at t i) is
          ∙ get_or-set_other longer first i (get_or longer first [] ++ Cut number ∷ []) [] (λ e. other (sym e))
          ∙ same.rows i
    ]

pub on_ok : {A E : Type 0} (r : Result A E) (P Q : Type 0) → OnOk r P → (P → Q) → OnOk r Q
on_ok (Ok a) P Q h f = f h
on_ok (Err e) P Q h f = tt

pub on_err : {A E : Type 0} (r : Result A E) (P Q : Type 0) → OnErr r P → (P → Q) → OnErr r Q
on_err (Ok a) P Q h f = tt
on_err (Err e) P Q h f = f h

pub added_first : (patterns : List ℕ) (first : ℕ) (rest : List ℕ) (number : ℕ) (old new : List (List RowName)) → patterns ≡ first ∷ rest → Adds number (first ∷ rest) old new → Adds number patterns old new
added_first patterns first rest number old new is adds = rw is adds

pub table_added : (cuts pushed lent : List (List ℕ)) (cut patterns read : List ℕ) (number : ℕ) (old new : List (List RowName)) → length cuts ≤ 1000 → IsCutTable cuts old → pushed ≡ cuts ++ cut ∷ [] → lent ≡ pushed → number ≡ length cuts → number ≢ 1000
    → read ≡ get_or lent number read → patterns ≡ read → Adds number patterns old new → (length pushed ≤ 1000) × IsCutTable pushed new
table_added cuts pushed lent cut patterns read number old new few is made same count full at given adds =
    let whole : lent ≡ cuts ++ cut ∷ [] = same ∙ made in
    let here : patterns ≡ cut = given ∙ at ∙ ap (λ t. get_or t number read) whole ∙ get_or_push cuts cut read number (sym count) in
    (rw made (omega (arith, length_push cuts cut)), rw made (table_more cuts cut old new is (rw (here, count) at adds)))
