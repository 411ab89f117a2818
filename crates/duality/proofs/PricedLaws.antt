-- The order of rows, and the sums of a leaf as they are computed.
use Rattle.std.proofs.Common.{ℕ, ◌≡◌, ◌≢◌, ◌+◌, ◌*◌, ◌<◌, ◌≤◌, arith, refl, sym, ◌∙◌, ap, zero, suc, Bool, true, false, not, ◌&&◌, ◌||◌, List, [], ◌∷◌, ◌++◌, length, get_or, drop, add-one, inl, inr}
use Rattle.std.specs.Prelude.{◌^◌, FitsSigned, ℤ, pos, negsuc, ◌+ℤ◌, ◌*ℤ◌, ◌-ℤ◌, ◌==◌, slice_index_or, nat_lt, nat_le, if◌then◌else◌, is_some}
use Rattle.std.specs.List.{list_all}
use Rattle.std.proofs.lemmas.Int.{ints}
use Rattle.std.proofs.lemmas.Bool.{and_parts, not-true, eq-eqb, ne_eqb, eqb-true, lt-ltb, ltb-true, leb-true, le-leb, and_from, true≢false, cases_eq, cases_lt, cases_Bool}
use Rattle.std.proofs.Math.IntN.{*ℤ-zero, *ℤ-one, zero-*ℤ}
use mir.Syntax.{w64, w128}
use mir.Val.{to_z, of_z}
use Rattle.numbers.specs.Algebra.{+ℤ-*ℤ, *ℤ-+ℤ}
use Rattle.numbers.specs.Sums.{sum_below, total, picked, sum_below-same, sum_below-zero, sum_below-+ℤ, sum_below-one, sum_below-more}
use Rattle.duality.specs.declared.row.RowName.{RowName}
use Rattle.duality.specs.declared.row.RowName.TheVariants.{Base, Cut, Level}
use Rattle.duality.specs.declared.row.Term.{Term}
use Rattle.duality.specs.declared.leaf.Leaf.{Leaf}
use Rattle.duality.specs.declared.objective.Weighed.TheVariants.{Floor, Level as AtLevel}
use Rattle.duality.specs.Packing.{Packing, Weights, Stage, coefficient, right_side, level_coefficient, level_side, floor_level, is_there, as_number, floor_weight}
use Rattle.duality.specs.Leaf.{priced, worth, reduced}
use Rattle.duality.specs.Sums.{same_row, row_before, rises, rises_from, is_small, are_small, IsWithin, times_of, is_clique, clique_worth, clique_priced, level_sum, member_row, distinct_rows, AreRowsOf, AreLevelTimes, weighed, weighed_at, no_term}

-- ---- the order of rows

lt-trans : (a b c : ℕ) → a < b → b < c → a < c
lt-trans a b c p q = omega arith

pub before-trans : (r s t : RowName) → row_before r s ≡ true → row_before s t ≡ true → row_before r t ≡ true
before-trans (Base a) (Base b) (Base c) p q = lt-ltb a c (lt-trans a b c (ltb-true a b p) (ltb-true b c q))
before-trans (Base a) (Base b) (Cut c) p q = refl
before-trans (Base a) (Base b) (Level c) p q = refl
before-trans (Base a) (Cut b) (Base c) p q = absurd (true≢false (sym q))
before-trans (Base a) (Cut b) (Cut c) p q = refl
before-trans (Base a) (Cut b) (Level c) p q = refl
before-trans (Base a) (Level b) (Base c) p q = absurd (true≢false (sym q))
before-trans (Base a) (Level b) (Cut c) p q = refl
before-trans (Base a) (Level b) (Level c) p q = refl
before-trans (Cut a) (Base b) (Base c) p q = absurd (true≢false (sym p))
before-trans (Cut a) (Base b) (Cut c) p q = absurd (true≢false (sym p))
before-trans (Cut a) (Base b) (Level c) p q = refl
before-trans (Cut a) (Cut b) (Base c) p q = absurd (true≢false (sym q))
before-trans (Cut a) (Cut b) (Cut c) p q = lt-ltb a c (lt-trans a b c (ltb-true a b p) (ltb-true b c q))
before-trans (Cut a) (Cut b) (Level c) p q = refl
before-trans (Cut a) (Level b) (Base c) p q = absurd (true≢false (sym q))
before-trans (Cut a) (Level b) (Cut c) p q = absurd (true≢false (sym q))
before-trans (Cut a) (Level b) (Level c) p q = refl
before-trans (Level a) (Base b) (Base c) p q = absurd (true≢false (sym p))
before-trans (Level a) (Base b) (Cut c) p q = absurd (true≢false (sym p))
before-trans (Level a) (Base b) (Level c) p q = absurd (true≢false (sym p))
before-trans (Level a) (Cut b) (Base c) p q = absurd (true≢false (sym p))
before-trans (Level a) (Cut b) (Cut c) p q = absurd (true≢false (sym p))
before-trans (Level a) (Cut b) (Level c) p q = absurd (true≢false (sym p))
before-trans (Level a) (Level b) (Base c) p q = absurd (true≢false (sym q))
before-trans (Level a) (Level b) (Cut c) p q = absurd (true≢false (sym q))
before-trans (Level a) (Level b) (Level c) p q = lt-ltb a c (lt-trans a b c (ltb-true a b p) (ltb-true b c q))

-- a row that stands before another is another
pub before-apart : (r s : RowName) → row_before r s ≡ true → (same_row r s ≡ false) × (same_row s r ≡ false)
before-apart (Base a) (Base b) p = let l = ltb-true a b p in (ne_eqb a b (λ e. absurd (omega (arith, l))), ne_eqb b a (λ e. absurd (omega (arith, l))))
before-apart (Base a) (Cut b) p = (refl, refl)
before-apart (Base a) (Level b) p = (refl, refl)
before-apart (Cut a) (Base b) p = (refl, refl)
before-apart (Cut a) (Cut b) p = let l = ltb-true a b p in (ne_eqb a b (λ e. absurd (omega (arith, l))), ne_eqb b a (λ e. absurd (omega (arith, l))))
before-apart (Cut a) (Level b) p = (refl, refl)
before-apart (Level a) (Base b) p = (refl, refl)
before-apart (Level a) (Cut b) p = (refl, refl)
before-apart (Level a) (Level b) p = let l = ltb-true a b p in (ne_eqb a b (λ e. absurd (omega (arith, l))), ne_eqb b a (λ e. absurd (omega (arith, l))))

nat_other : (a b : ℕ) → (a == b) ≡ false → nat_lt b a ≡ false → nat_lt a b ≡ true
nat_other a b p q = elim (cases_lt a b) [
  | inl less ↦ lt-ltb a b less
  | inr more ↦ elim (cases_eq a b) [
    | inl same ↦ absurd (true≢false (sym (eq-eqb a b same) ∙ p))
    | inr ne ↦ let l : b < a = omega arith in absurd (true≢false (sym (lt-ltb b a l) ∙ q))
  ]
]

-- of two different rows one stands before the other
pub not_before : (r s : RowName) → same_row r s ≡ false → row_before s r ≡ false → row_before r s ≡ true
not_before (Base a) (Base b) p q = nat_other a b p q
not_before (Base a) (Cut b) p q = refl
not_before (Base a) (Level b) p q = refl
not_before (Cut a) (Base b) p q = absurd (true≢false q)
not_before (Cut a) (Cut b) p q = nat_other a b p q
not_before (Cut a) (Level b) p q = refl
not_before (Level a) (Base b) p q = absurd (true≢false q)
not_before (Level a) (Cut b) p q = absurd (true≢false q)
not_before (Level a) (Level b) p q = nat_other a b p q

pub same_row-is : (r s : RowName) → same_row r s ≡ true → r ≡ s
same_row-is (Base a) (Base b) p = ap Base (eqb-true a b p)
same_row-is (Base a) (Cut b) p = absurd (true≢false (sym p))
same_row-is (Base a) (Level b) p = absurd (true≢false (sym p))
same_row-is (Cut a) (Base b) p = absurd (true≢false (sym p))
same_row-is (Cut a) (Cut b) p = ap Cut (eqb-true a b p)
same_row-is (Cut a) (Level b) p = absurd (true≢false (sym p))
same_row-is (Level a) (Base b) p = absurd (true≢false (sym p))
same_row-is (Level a) (Cut b) p = absurd (true≢false (sym p))
same_row-is (Level a) (Level b) p = ap Level (eqb-true a b p)

after_all : (r : RowName) (ts : List Term) (j : ℕ) → rises_from r ts ≡ true → j < length ts → row_before r (get_or ts j no_term).row ≡ true
after_all r [] j h l = absurd (omega arith)
after_all r (t ∷ ts) zero h l = (and_parts (row_before r t.row) (rises_from t.row ts) h).0
after_all r (t ∷ ts) (suc j) h l =
    let parts = and_parts (row_before r t.row) (rises_from t.row ts) h in
    before-trans r t.row (get_or ts j no_term).row parts.0 (after_all t.row ts j parts.1 (omega arith))

rises-rest : (t : Term) (ts : List Term) → rises (t ∷ ts) ≡ true → rises ts ≡ true
rises-rest t [] h = refl
rises-rest t (u ∷ ts) h = (and_parts (row_before t.row u.row) (rises_from u.row ts) h).1

pub rises_at : (ts : List Term) (i j : ℕ) → rises ts ≡ true → i < j → j < length ts → row_before (get_or ts i no_term).row (get_or ts j no_term).row ≡ true
rises_at [] i j h l m = absurd (omega arith)
rises_at (t ∷ ts) i zero h l m = absurd (omega arith)
rises_at (t ∷ ts) zero (suc j) h l m = after_all t.row ts j h (omega arith)
rises_at (t ∷ ts) (suc i) (suc j) h l m = rises_at ts i j (rises-rest t ts h) (omega arith) (omega arith)

-- ---- sizes

pub small_within : (b : ℕ) (z : ℤ) → is_small b z ≡ true → IsWithin b z
small_within b (pos n) h = let l = leb-true n b h in record { low = omega (arith, ints, l); high = omega (arith, ints, l) }
small_within b (negsuc n) h = let l = leb-true (suc n) b h in record { low = omega (arith, ints, l); high = omega (arith, ints, l) }

pub small_at : (ts : List Term) (i : ℕ) → are_small ts ≡ true → i < length ts → IsWithin (10 ^ 24) (get_or ts i no_term).times
small_at [] i h l = absurd (omega arith)
small_at (t ∷ ts) zero h l = small_within (10 ^ 24) t.times (and_parts (is_small (10 ^ 24) t.times) (are_small ts) h).0
small_at (t ∷ ts) (suc i) h l = small_at ts i (and_parts (is_small (10 ^ 24) t.times) (are_small ts) h).1 (omega arith)

mono : (m n a b : ℕ) → m ≤ a → n ≤ b → m * n ≤ a * b
mono m n a b p q = grind arith

pub within_product : (a b c : ℕ) (x y : ℤ) → IsWithin a x → IsWithin b y → a * b ≤ c → IsWithin c (x *ℤ y)
within_product a b c (pos m) (pos n) p q l =
    let h = mono m n a b (omega (arith, ints, p.high)) (omega (arith, ints, q.high)) in
    record { low = omega (arith, ints, h); high = omega (arith, ints, h) }
within_product a b c (pos m) (negsuc n) p q l =
    let h = mono m (suc n) a b (omega (arith, ints, p.high)) (omega (arith, ints, q.low)) in
    record { low = omega (arith, ints, h); high = omega (arith, ints, h) }
within_product a b c (negsuc m) (pos n) p q l =
    let h = mono (suc m) n a b (omega (arith, ints, p.low)) (omega (arith, ints, q.high)) in
    record { low = omega (arith, ints, h); high = omega (arith, ints, h) }
within_product a b c (negsuc m) (negsuc n) p q l =
    let h = mono (suc m) (suc n) a b (omega (arith, ints, p.low)) (omega (arith, ints, q.low)) in
    record { low = omega (arith, ints, h); high = omega (arith, ints, h) }

pub fits_product : (x y : ℤ) → IsWithin (10 ^ 24) x → IsWithin (4 * 10 ^ 12) y → FitsSigned w128 (x *ℤ y)
fits_product x y p q = let h = within_product (10 ^ 24) (4 * 10 ^ 12) (4 * 10 ^ 36) x y p q (omega arith) in omega (arith, ints, h.low, h.high)

-- ---- the multiplier of a row

pub times_of-none : (terms : List Term) (r : RowName) → ((i : ℕ) → i < length terms → same_row r (get_or terms i no_term).row ≡ false) → times_of terms r ≡ pos 0
times_of-none [] r h = refl
times_of-none (t ∷ ts) r h =
    let later = times_of-none ts r (λ i l. h (suc i) (omega arith)) in
    rw (h 0 (omega arith)) (omega (arith, ints, later))

pub times_of-at : (terms : List Term) (r : RowName) (m : ℕ) → m < length terms → same_row r (get_or terms m no_term).row ≡ true → ((i : ℕ) → i < length terms → i ≢ m → same_row r (get_or terms i no_term).row ≡ false)
    → times_of terms r ≡ (get_or terms m no_term).times
times_of-at [] r m l e h = absurd (omega arith)
times_of-at (t ∷ ts) r zero l e h =
    let later = times_of-none ts r (λ i k. h (suc i) (omega arith) (λ z. absurd (omega arith))) in
    rw e (omega (arith, ints, later))
times_of-at (t ∷ ts) r (suc m) l e h =
    let later = times_of-at ts r m (omega arith) e (λ i k ne. h (suc i) (omega arith) (λ z. ne (omega arith))) in
    rw (h 0 (omega arith) (λ z. absurd (omega arith))) (omega (arith, ints, later))

-- ---- loops over a list

pub total-drop : {A : Type 0} (f : A → ℤ) (xs : List A) (i : ℕ) (d : A) → i < length xs → total f (drop i xs) ≡ f (get_or xs i d) +ℤ total f (drop (i + 1) xs)
total-drop f [] i d l = absurd (omega arith)
total-drop f (x ∷ xs) zero d l = refl
total-drop f (x ∷ xs) (suc i) d l = let e : suc i + 1 ≡ suc (i + 1) = omega arith in rw e (total-drop f xs i d (omega arith))

pub total-end : {A : Type 0} (f : A → ℤ) (xs : List A) (i : ℕ) → length xs ≤ i → total f (drop i xs) ≡ pos 0
total-end f [] zero l = refl
total-end f [] (suc i) l = refl
total-end f (x ∷ xs) zero l = absurd (omega arith)
total-end f (x ∷ xs) (suc i) l = total-end f xs i (omega arith)

pub all_at : {A : Type 0} (test : A → Bool) (xs : List A) (i : ℕ) (d : A) → list_all test xs ≡ true → i < length xs → test (get_or xs i d) ≡ true
all_at test [] i d h l = absurd (omega arith)
all_at test (x ∷ xs) zero d h l = (and_parts (test x) (list_all test xs) h).0
all_at test (x ∷ xs) (suc i) d h l = all_at test xs i d (and_parts (test x) (list_all test xs) h).1 (omega arith)

-- ---- the sums as computed are those of the definition

total-none : {A : Type 0} (f : A → ℤ) (xs : List A) → ((x : A) → f x ≡ pos 0) → total f xs ≡ pos 0
total-none f [] h = refl
total-none f (x ∷ xs) h = omega (arith, ints, h x, total-none f xs h)

total-two : {A : Type 0} (f g h : A → ℤ) (xs : List A) → ((x : A) → f x +ℤ g x ≡ h x) → total f xs +ℤ total g xs ≡ total h xs
total-two f g h [] e = refl
total-two f g h (x ∷ xs) e = omega (arith, ints, e x, total-two f g h xs e)

total-two_at : {A : Type 0} (test : A → Bool) (f g h : A → ℤ) (xs : List A) → list_all test xs ≡ true → ((x : A) → test x ≡ true → h x ≡ f x +ℤ g x) → total h xs ≡ total f xs +ℤ total g xs
total-two_at test f g h [] all e = refl
total-two_at test f g h (x ∷ xs) all e =
    let parts = and_parts (test x) (list_all test xs) all in
    omega (arith, ints, e x parts.0, total-two_at test f g h xs parts.1 e)

one_row : (here later : Bool) (z : ℤ) → (here ≡ true → later ≡ false) → picked here z +ℤ (z *ℤ picked later (pos 1)) ≡ z *ℤ picked (here || later) (pos 1)
one_row true later z h = rw (h refl) (omega (arith, ints, *ℤ-zero z, *ℤ-one z))
one_row false later z h = omega (arith, ints)

-- the sum over the rows of a pattern is the sum over the terms
rows_are_terms : (terms : List Term) (rows : List RowName) → distinct_rows rows ≡ true → total (times_of terms) rows ≡ total (λ t. t.times *ℤ as_number (member_row t.row rows)) terms
rows_are_terms terms [] d = sym (total-none (λ t. t.times *ℤ pos 0) terms (λ t. *ℤ-zero t.times))
rows_are_terms terms (r ∷ rows) d =
    let parts = and_parts (not (member_row r rows)) (distinct_rows rows) d in
    let here : (q : RowName) → same_row r q ≡ true → member_row q rows ≡ false = λ q e. ap (λ x. member_row x rows) (sym (same_row-is r q e)) ∙ not-true (member_row r rows) parts.0 in
    ap (λ x. times_of terms r +ℤ x) (rows_are_terms terms rows parts.1)
    ∙ total-two (λ t. picked (same_row r t.row) t.times) (λ t. t.times *ℤ as_number (member_row t.row rows)) (λ t. t.times *ℤ as_number (member_row t.row (r ∷ rows))) terms
    (λ t. one_row (same_row r t.row) (member_row t.row rows) t.times (here t.row))

abbrev level_part : (ℕ → ℤ) → RowName → ℤ
level_part f (Base r) = pos 0
level_part f (Cut c) = pos 0
level_part f (Level j) = f j

abbrev in_levels : ℕ → RowName → Bool
in_levels n (Base r) = true
in_levels n (Cut c) = true
in_levels n (Level j) = nat_lt 0 j && nat_le j n

level_here : (f : ℕ → ℤ) (times : ℤ) (q i : ℕ) → picked (i + 1 == suc q) times *ℤ f (i + 1) ≡ picked (q == i) (times *ℤ f (i + 1))
level_here f times q i = elim (cases_eq q i) [
  | inl same ↦ rw (eq-eqb (i + 1) (suc q) (omega arith), eq-eqb q i same) refl
  | inr ne ↦ rw (ne_eqb (i + 1) (suc q) (λ e. ne (omega arith)), ne_eqb q i ne) (zero-*ℤ (f (i + 1)))
]

level_one : (n : ℕ) (f : ℕ → ℤ) (times : ℤ) (row : RowName) → in_levels n row ≡ true → sum_below (λ i. picked (same_row (Level (i + 1)) row) times *ℤ f (i + 1)) n ≡ times *ℤ level_part f row
level_one n f times (Base r) h = sum_below-zero (λ i. pos 0 *ℤ f (i + 1)) n (λ i l. zero-*ℤ (f (i + 1))) ∙ sym (*ℤ-zero times)
level_one n f times (Cut r) h = sum_below-zero (λ i. pos 0 *ℤ f (i + 1)) n (λ i l. zero-*ℤ (f (i + 1))) ∙ sym (*ℤ-zero times)
level_one n f times (Level zero) h = absurd (true≢false (sym (and_parts (nat_lt 0 0) (nat_le 0 n) h).0))
level_one n f times (Level (suc q)) h =
    let l : q < n = omega (arith, leb-true (suc q) n (and_parts (nat_lt 0 (suc q)) (nat_le (suc q) n) h).1) in
    sum_below-same (λ i. picked (i + 1 == suc q) times *ℤ f (i + 1)) (λ i. picked (q == i) (times *ℤ f (i + 1))) n (λ i m. level_here f times q i)
    ∙ sum_below-one (λ i. times *ℤ f (i + 1)) q n l
    ∙ ap (λ j. times *ℤ f j) (add-one q)

levels_are_terms : (n : ℕ) (f : ℕ → ℤ) (terms : List Term) → list_all (λ t. in_levels n t.row) terms ≡ true → sum_below (λ i. times_of terms (Level (i + 1)) *ℤ f (i + 1)) n ≡ total (λ t. t.times *ℤ level_part f t.row) terms
levels_are_terms n f [] all = sum_below-zero (λ i. pos 0 *ℤ f (i + 1)) n (λ i l. zero-*ℤ (f (i + 1)))
levels_are_terms n f (t ∷ ts) all =
    let parts = and_parts (in_levels n t.row) (list_all (λ t. in_levels n t.row) ts) all in
    let here : ℕ → ℤ = λ i. picked (same_row (Level (i + 1)) t.row) t.times *ℤ f (i + 1) in
    let later : ℕ → ℤ = λ i. times_of ts (Level (i + 1)) *ℤ f (i + 1) in
    sum_below-same (λ i. times_of (t ∷ ts) (Level (i + 1)) *ℤ f (i + 1)) (λ i. here i +ℤ later i) n (λ i l. +ℤ-*ℤ (picked (same_row (Level (i + 1)) t.row) t.times) (times_of ts (Level (i + 1))) (f (i + 1)))
    ∙ sum_below-+ℤ here later n
    ∙ ap (λ x. x +ℤ sum_below later n) (level_one n f t.times t.row parts.0)
    ∙ ap (λ x. (t.times *ℤ level_part f t.row) +ℤ x) (levels_are_terms n f ts parts.1)

there_in_levels : (k : Packing) (w : Weights) (s : Stage) → s.level ≤ 7 → (row : RowName) → is_there k w s row ≡ true → in_levels 7 row ≡ true
there_in_levels k w s few (Base r) h = refl
there_in_levels k w s few (Cut c) h = refl
there_in_levels k w s few (Level j) h = elim (cases_eq j floor_level) [
  | inl same ↦ rw same refl
  | inr ne ↦
      let range : (nat_le 1 j && nat_lt j s.level) ≡ true = sym (ap (λ b. if b then is_some w.floor else nat_le 1 j && nat_lt j s.level) (ne_eqb j floor_level ne)) ∙ h in
      let parts = and_parts (nat_le 1 j) (nat_lt j s.level) range in
      let low = leb-true 1 j parts.0 in
      let high = ltb-true j s.level parts.1 in
      and_from (nat_lt 0 j) (nat_le j 7) (lt-ltb 0 j (omega arith)) (le-leb j 7 (omega arith))
]

there-levels : (k : Packing) (w : Weights) (s : Stage) → s.level ≤ 7 → (terms : List Term) → list_all (λ t. is_there k w s t.row) terms ≡ true → list_all (λ t. in_levels 7 t.row) terms ≡ true
there-levels k w s few [] all = refl
there-levels k w s few (t ∷ ts) all =
    let parts = and_parts (is_there k w s t.row) (list_all (λ t. is_there k w s t.row) ts) all in
    and_from (in_levels 7 t.row) (list_all (λ t. in_levels 7 t.row) ts) (there_in_levels k w s few t.row parts.0) (there-levels k w s few ts parts.1)

total-same_at : {A : Type 0} (test : A → Bool) (f g : A → ℤ) (xs : List A) → list_all test xs ≡ true → ((x : A) → test x ≡ true → f x ≡ g x) → total f xs ≡ total g xs
total-same_at test f g [] all e = refl
total-same_at test f g (x ∷ xs) all e =
    let parts = and_parts (test x) (list_all test xs) all in
    omega (arith, ints, e x parts.0, total-same_at test f g xs parts.1 e)

pub total-append : {A : Type 0} (f : A → ℤ) (xs ys : List A) → total f (xs ++ ys) ≡ total f xs +ℤ total f ys
total-append f [] ys = omega (arith, ints)
total-append f (x ∷ xs) ys = omega (arith, ints, total-append f xs ys)

member_priced : (k : Packing) (w : Weights) (s : Stage) (rows : List RowName) (p : ℕ) → AreRowsOf k s rows p → (times : ℤ) (row : RowName) → is_there k w s row ≡ true
    → times *ℤ as_number (member_row row rows) ≡ picked (is_clique row) (times *ℤ coefficient k w s row p)
member_priced k w s rows p are times (Base r) h = ap (λ b. times *ℤ as_number b) (are.base r (ltb-true r k.base_len h))
member_priced k w s rows p are times (Cut c) h = ap (λ b. times *ℤ as_number b) (are.cut c (ltb-true c (length s.cuts) h))
member_priced k w s rows p are times (Level j) h = ap (λ b. times *ℤ as_number b) (are.level j) ∙ *ℤ-zero times

-- the rows of a pattern tell what base rows and cuts cost it
pub cliques_split : (k : Packing) (w : Weights) (s : Stage) (terms : List Term) (rows : List RowName) (p : ℕ) → list_all (λ t. is_there k w s t.row) terms ≡ true → AreRowsOf k s rows p
    → total (times_of terms) rows ≡ clique_priced k w s terms p
cliques_split k w s terms rows p there are =
    rows_are_terms terms rows are.differ
    ∙ total-same_at (λ t. is_there k w s t.row) (λ t. t.times *ℤ as_number (member_row t.row rows)) (λ t. picked (is_clique t.row) (t.times *ℤ coefficient k w s t.row p)) terms there
    (λ t h. member_priced k w s rows p are t.times t.row h)

split_row : (k : Packing) (w : Weights) (s : Stage) (p : ℕ) (times : ℤ) (row : RowName)
    → times *ℤ coefficient k w s row p ≡ picked (is_clique row) (times *ℤ coefficient k w s row p) +ℤ (times *ℤ level_part (λ j. level_coefficient w j p) row)
split_row k w s p times (Base r) = omega (arith, ints, *ℤ-zero times)
split_row k w s p times (Cut c) = omega (arith, ints, *ℤ-zero times)
split_row k w s p times (Level j) = omega (arith, ints)

-- a price is that of base rows and cuts, and that of level rows
priced_parts : (k : Packing) (w : Weights) (s : Stage) (terms : List Term) (p : ℕ) → list_all (λ t. is_there k w s t.row) terms ≡ true → s.level ≤ 7
    → priced k w s terms p ≡ clique_priced k w s terms p +ℤ level_sum terms (λ j. level_coefficient w j p)
priced_parts k w s terms p there few =
    total-two_at (λ t. is_there k w s t.row) (λ t. picked (is_clique t.row) (t.times *ℤ coefficient k w s t.row p)) (λ t. t.times *ℤ level_part (λ j. level_coefficient w j p) t.row) (λ t. t.times *ℤ coefficient k w s t.row p) terms there
    (λ t h. split_row k w s p t.times t.row)
    ∙ ap (λ x. clique_priced k w s terms p +ℤ x) (sym (levels_are_terms 7 (λ j. level_coefficient w j p) terms (there-levels k w s few terms there)))

pub priced_split : (k : Packing) (w : Weights) (s : Stage) (terms : List Term) (rows : List RowName) (p : ℕ) → list_all (λ t. is_there k w s t.row) terms ≡ true → s.level ≤ 7 → AreRowsOf k s rows p
    → priced k w s terms p ≡ total (times_of terms) rows +ℤ level_sum terms (λ j. level_coefficient w j p)
priced_split k w s terms rows p there few are =
    priced_parts k w s terms p there few
    ∙ ap (λ x. x +ℤ level_sum terms (λ j. level_coefficient w j p)) (sym (cliques_split k w s terms rows p there are))

split_side : (w : Weights) (s : Stage) (times : ℤ) (row : RowName) → times *ℤ right_side w s row ≡ picked (is_clique row) times +ℤ (times *ℤ level_part (level_side w s.targets) row)
split_side w s times (Base r) = omega (arith, ints, *ℤ-one times, *ℤ-zero times)
split_side w s times (Cut c) = omega (arith, ints, *ℤ-one times, *ℤ-zero times)
split_side w s times (Level j) = omega (arith, ints)

pub worth_split : (k : Packing) (w : Weights) (s : Stage) (terms : List Term) → list_all (λ t. is_there k w s t.row) terms ≡ true → s.level ≤ 7
    → worth w s terms ≡ clique_worth terms +ℤ level_sum terms (level_side w s.targets)
worth_split k w s terms there few =
    total-two_at (λ t. is_there k w s t.row) (λ t. picked (is_clique t.row) t.times) (λ t. t.times *ℤ level_part (level_side w s.targets) t.row) (λ t. t.times *ℤ right_side w s t.row) terms there
    (λ t h. split_side w s t.times t.row)
    ∙ ap (λ x. clique_worth terms +ℤ x) (sym (levels_are_terms 7 (level_side w s.targets) terms (there-levels k w s few terms there)))

sum_of_two : (n : ℕ) (terms : List Term) (f g : ℕ → ℤ) → sum_below (λ i. times_of terms (Level (i + 1)) *ℤ (f (i + 1) +ℤ g (i + 1))) n
    ≡ sum_below (λ i. times_of terms (Level (i + 1)) *ℤ f (i + 1)) n +ℤ sum_below (λ i. times_of terms (Level (i + 1)) *ℤ g (i + 1)) n
sum_of_two n terms f g =
    sum_below-same (λ i. times_of terms (Level (i + 1)) *ℤ (f (i + 1) +ℤ g (i + 1))) (λ i. (times_of terms (Level (i + 1)) *ℤ f (i + 1)) +ℤ (times_of terms (Level (i + 1)) *ℤ g (i + 1))) n
    (λ i l. *ℤ-+ℤ (times_of terms (Level (i + 1))) (f (i + 1)) (g (i + 1)))
    ∙ sum_below-+ℤ (λ i. times_of terms (Level (i + 1)) *ℤ f (i + 1)) (λ i. times_of terms (Level (i + 1)) *ℤ g (i + 1)) n

regroup : (a w x r l rest_w rest_r rest_l both : ℤ) → x ≡ (a *ℤ w) -ℤ (r +ℤ l) → both ≡ l +ℤ rest_l
    → x +ℤ ((a *ℤ rest_w) -ℤ (rest_r +ℤ rest_l)) ≡ (a *ℤ (w +ℤ rest_w)) -ℤ ((r +ℤ rest_r) +ℤ both)
regroup a w x r l rest_w rest_r rest_l both e h = omega (arith, ints, e, h, *ℤ-+ℤ a w rest_w)

-- what the patterns that are taken sum to, with no sum over terms for each of them
pub taken_split : (k : Packing) (w : Weights) (s : Stage) (leaf : Leaf) → list_all (λ t. is_there k w s t.row) leaf.terms ≡ true → s.level ≤ 7
    → (ps : List ℕ) → total (reduced k w s leaf) ps ≡ (leaf.scale *ℤ total (w.weight s.level) ps) -ℤ (total (clique_priced k w s leaf.terms) ps +ℤ level_sum leaf.terms (λ j. total (level_coefficient w j) ps))
taken_split k w s leaf there few [] =
    let none : sum_below (λ i. times_of leaf.terms (Level (i + 1)) *ℤ pos 0) 7 ≡ pos 0 = sum_below-zero (λ i. times_of leaf.terms (Level (i + 1)) *ℤ pos 0) 7 (λ i l. *ℤ-zero (times_of leaf.terms (Level (i + 1)))) in
    ends leaf.scale _ none
  where
    ends : (a x : ℤ) → x ≡ pos 0 → pos 0 ≡ (a *ℤ pos 0) -ℤ (pos 0 +ℤ x)
    ends a x e = omega (arith, ints, e, *ℤ-zero a)
taken_split k w s leaf there few (p ∷ ps) =
    ap (λ x. reduced k w s leaf p +ℤ x) (taken_split k w s leaf there few ps)
    ∙ regroup leaf.scale (w.weight s.level p) (reduced k w s leaf p) (clique_priced k w s leaf.terms p) (level_sum leaf.terms (λ j. level_coefficient w j p))
    (total (w.weight s.level) ps) (total (clique_priced k w s leaf.terms) ps) (level_sum leaf.terms (λ j. total (level_coefficient w j) ps)) (level_sum leaf.terms (λ j. total (level_coefficient w j) (p ∷ ps)))
    (ap (λ x. (leaf.scale *ℤ w.weight s.level p) -ℤ x) (priced_parts k w s leaf.terms p there few))
    (sum_of_two 7 leaf.terms (λ j. level_coefficient w j p) (λ j. total (level_coefficient w j) ps))

-- a level row that is not there has no multiplier
pub absent_level : (k : Packing) (w : Weights) (s : Stage) (terms : List Term) (j : ℕ) → list_all (λ t. is_there k w s t.row) terms ≡ true → is_there k w s (Level j) ≡ false → times_of terms (Level j) ≡ pos 0
absent_level k w s [] j there absent = refl
absent_level k w s (t ∷ ts) j there absent =
    let parts = and_parts (is_there k w s t.row) (list_all (λ t. is_there k w s t.row) ts) there in
    let other : same_row (Level j) t.row ≡ false = elim (cases_Bool (same_row (Level j) t.row)) [
      | inl same ↦ absurd (true≢false (sym parts.0 ∙ ap (is_there k w s) (sym (same_row-is (Level j) t.row same)) ∙ absent))
      | inr other ↦ other
    ] in
    rw other (omega (arith, ints, absent_level k w s ts j parts.1 absent))

-- ---- numbers of the machine

pub plain_times : (z : ℤ) → IsWithin (10 ^ 24) z → to_z w128 (of_z w128 z) ≡ z
plain_times z h = omega (arith, ints, h.low, h.high)

pub plain_product : (z : ℤ) → IsWithin (4 * 10 ^ 36) z → to_z w128 (of_z w128 z) ≡ z
plain_product z h = omega (arith, ints, h.low, h.high)

pub plain_number : (z : ℤ) → IsWithin (4 * 10 ^ 12) z → to_z w64 (of_z w64 z) ≡ z
plain_number z h = omega (arith, ints, h.low, h.high)

pub record IsTimes (terms : List Term) (j : ℕ) (z : ℤ) : Type 0 where
  pub value : z ≡ times_of terms (Level j)
  pub small : IsWithin (10 ^ 24) z

pub as_times : (terms : List Term) (j : ℕ) (z : ℤ) → z ≡ times_of terms (Level j) → IsWithin (10 ^ 24) z → IsTimes terms j (to_z w128 (of_z w128 z))
as_times terms j z e h = rw (plain_times z h) (record { value = e; small = h })

pub seven_times : (terms : List Term) (a b c d e f g : ℤ) → IsTimes terms 1 a → IsTimes terms 2 b → IsTimes terms 3 c → IsTimes terms 4 d → IsTimes terms 5 e → IsTimes terms 6 f → IsTimes terms 7 g
    → AreLevelTimes terms (a ∷ (b ∷ (c ∷ (d ∷ (e ∷ (f ∷ (g ∷ [])))))))
seven_times terms a b c d e f g ha hb hc hd he hf hg = record { seven = refl; each = λ i l. (at i l).value; small = λ i l. (at i l).small }
  where
    at : (i : ℕ) → i < 7 → IsTimes terms (i + 1) (slice_index_or (a ∷ (b ∷ (c ∷ (d ∷ (e ∷ (f ∷ (g ∷ []))))))) i (pos 0))
    at zero l = ha
    at (suc zero) l = hb
    at (suc (suc zero)) l = hc
    at (suc (suc (suc zero))) l = hd
    at (suc (suc (suc (suc zero)))) l = he
    at (suc (suc (suc (suc (suc zero))))) l = hf
    at (suc (suc (suc (suc (suc (suc zero)))))) l = hg
    at (suc (suc (suc (suc (suc (suc (suc i))))))) l = absurd (omega arith)

-- a level row by its number, the floor's among them
pub level_total : (w : Weights) (j : ℕ) (ps : List ℕ) → total (weighed w (weighed_at j)) ps ≡ total (level_coefficient w j) ps
level_total w j ps = go (j == floor_level)
  where
    go : (b : Bool) → total (weighed w (if b then Floor else AtLevel j)) ps ≡ total (λ p. if b then pos 0 -ℤ floor_weight w.floor p else w.weight j p) ps
    go true = refl
    go false = refl

pub step_total : (f : ℕ → ℤ) (n : ℕ) (before x shown : ℤ) → before ≡ sum_below f n → x ≡ f n → shown ≡ before +ℤ x → shown ≡ sum_below f (n + 1)
step_total f n before x shown p q r = r ∙ ap (λ z. z +ℤ x) p ∙ sym (sum_below-more f n x q)

-- what one pattern costs on the level rows
pub one_pattern : (terms : List Term) (times : List ℤ) (w : Weights) (p : ℕ) → AreLevelTimes terms times
    → sum_below (λ i. slice_index_or times i (pos 0) *ℤ total (level_coefficient w (i + 1)) (p ∷ [])) 7 ≡ level_sum terms (λ j. level_coefficient w j p)
one_pattern terms times w p are =
    sum_below-same (λ i. slice_index_or times i (pos 0) *ℤ (level_coefficient w (i + 1) p +ℤ pos 0)) (λ i. times_of terms (Level (i + 1)) *ℤ level_coefficient w (i + 1) p) 7
    (λ i l. ap (λ x. x *ℤ (level_coefficient w (i + 1) p +ℤ pos 0)) (are.each i l) ∙ ap (λ x. times_of terms (Level (i + 1)) *ℤ x) (omega (arith, ints)))

pub many_patterns : (terms : List Term) (times : List ℤ) (f : ℕ → ℤ) → AreLevelTimes terms times → sum_below (λ i. slice_index_or times i (pos 0) *ℤ f (i + 1)) 7 ≡ level_sum terms f
many_patterns terms times f are =
    sum_below-same (λ i. slice_index_or times i (pos 0) *ℤ f (i + 1)) (λ i. times_of terms (Level (i + 1)) *ℤ f (i + 1)) 7 (λ i l. ap (λ x. x *ℤ f (i + 1)) (are.each i l))

pub plain_within : (a b : ℕ) (z : ℤ) → a ≤ b → b < 2 ^ 127 → IsWithin a z → IsWithin b (to_z w128 (of_z w128 z))
plain_within a b z l m h = record { low = omega (arith, ints, h.low, h.high); high = omega (arith, ints, h.low, h.high) }

pub plain_sum : (a b c : ℕ) (x y r : ℤ) → IsWithin a x → IsWithin b y → a + b ≤ c → c < 2 ^ 127 → r ≡ to_z w128 (of_z w128 x) +ℤ to_z w128 (of_z w128 y) → to_z w128 (of_z w128 r) ≡ x +ℤ y
plain_sum a b c x y r p q l m e = omega (arith, ints, p.low, p.high, q.low, q.high, e)

pub within_sum : (a b c : ℕ) (x y : ℤ) → IsWithin a x → IsWithin b y → a + b ≤ c → IsWithin c (x +ℤ y)
within_sum a b c x y p q l = record { low = omega (arith, ints, p.low, q.low); high = omega (arith, ints, p.high, q.high) }

pub plain_gain : (scale weight r : ℤ) → IsWithin (10 ^ 24) scale → IsWithin (4 * 10 ^ 12) weight → IsWithin (4 * 10 ^ 36) r → r ≡ to_z w128 (of_z w128 scale) *ℤ to_z w64 (of_z w64 weight)
    → to_z w128 (of_z w128 r) ≡ scale *ℤ weight
plain_gain scale weight r p q h e =
    plain_product r h ∙ e ∙ ap (λ z. z *ℤ to_z w64 (of_z w64 weight)) (plain_times scale p) ∙ ap (λ z. scale *ℤ z) (plain_number weight q)
