-- The base rows of a pattern, and where its runs lie.
use Rattle.std.proofs.Common.{ℕ, ◌≡◌, ◌+◌, ◌-◌, ◌<◌, ◌≤◌, zero, suc, inl, inr, Bool, true, false, ◌||◌, refl, arith, ap, ap₂, sym, ◌∙◌, List, [], ◌∷◌, ◌++◌, length, get_or, map, take, drop, append_assoc}
use Rattle.std.specs.Prelude.{◌==◌, slice_index}
use Rattle.std.specs.List.{list_any, flat_map}
use Rattle.std.proofs.lemmas.List.{append-nil, length-append, length-map, get_or-map, take_at, drop_at, get_or_past}
use Rattle.std.proofs.lemmas.Bool.{cases_Bool, cases_eq, cases_lt, or_left, or_right, eq-eqb, eqb-true, ne_eqb, true≢false, cond-true, cond-false}
use Rattle.numbers.specs.Sums.{member, distinct}
use Rattle.problem_core.specs.Facts.{Facts}
use Rattle.problem_core.specs.Courses.{passing}
use Rattle.problem_core.specs.Passing.{nth_is, at_place}
use Rattle.problem_core.specs.Valid.{IsProblem}
use Rattle.meeting_patterns.specs.Pattern.{ArePatterns, pattern_at}
use Rattle.meeting_patterns.specs.declared.pattern.Pattern.{Pattern}
use Rattle.duality.specs.declared.row.Run.{Run}
use Rattle.duality.specs.declared.row.RowName.TheVariants.{Base, Cut, Level}
use Rattle.duality.specs.Sums.{member_row, distinct_rows}
use Rattle.packing_model.specs.declared.row.Row.TheVariants.{Event}
use Rattle.packing_model.specs.Rows.{stands_in, base_rows, row_at, packing_of}
use Rattle.packing_model.specs.Built.{AreBaseRowsOf}
use Rattle.packing_model.specs.Keys.{key_end, row_of, keys_of, makes_row, number_in, AreNumbers, named, rows_of_keys, runs_of, runs_below, AreRuns, part_at}
use Rattle.packing_model.proofs.DistinctLemmas.{or_none, member-any, member-flat, flat_member, distinct-flat, few}
use Rattle.packing_model.proofs.KeyLemmas.{keys-row, keys_known, keys-distinct}
use Rattle.packing_model.proofs.BaseLemmas.{rows_listed}

-- ---- names and their numbers

member-base : (r : ℕ) (xs : List ℕ) → member_row (Base r) (map Base xs) ≡ member r xs
member-base r [] = refl
member-base r (x ∷ xs) = ap (λ b. (x == r) || b) (member-base r xs)

no_cut : (c : ℕ) (xs : List ℕ) → member_row (Cut c) (map Base xs) ≡ false
no_cut c [] = refl
no_cut c (x ∷ xs) = no_cut c xs

no_level : (j : ℕ) (xs : List ℕ) → member_row (Level j) (map Base xs) ≡ false
no_level j [] = refl
no_level j (x ∷ xs) = no_level j xs

distinct-base : (xs : List ℕ) → distinct_rows (map Base xs) ≡ distinct xs
distinct-base [] = refl
distinct-base (x ∷ xs) = rw (member-base x xs, distinct-base xs) refl

-- ---- the number of a key's row

number_in-more : (n : ℕ) → number_in (n + 1) ≡ n ∷ []
number_in-more n =
    let e : n + 1 - 1 ≡ n = omega arith in
    cond-false (n + 1 == 0) [] ((n + 1 - 1) ∷ []) (ne_eqb (n + 1) 0 (λ h. absurd (omega (arith, h)))) ∙ ap (λ m. m ∷ []) e

named-hit : (test : ℕ → Bool) (n : ℕ) (numbers : List ℕ) (k : ℕ) → AreNumbers test n numbers → k < n → test k ≡ true → named numbers k ≡ length (passing test k) ∷ []
named-hit test n numbers k are l hit = ap number_in (are.each k l ∙ cond-true (test k) (length (passing test k) + 1) 0 hit) ∙ number_in-more (length (passing test k))

named-miss : (test : ℕ → Bool) (n : ℕ) (numbers : List ℕ) (k : ℕ) → AreNumbers test n numbers → k < n → test k ≡ false → named numbers k ≡ []
named-miss test n numbers k are l miss = ap number_in (are.each k l ∙ cond-false (test k) (length (passing test k) + 1) 0 miss)

-- what a key names
record Names (test : ℕ → Bool) (n k r : ℕ) : Type 0 where
  below : r < length (passing test n)
  back : get_or (passing test n) r 0 ≡ k

named_key : (test : ℕ → Bool) (n : ℕ) (numbers : List ℕ) (k r : ℕ) → AreNumbers test n numbers → k < n → member r (named numbers k) ≡ true → Names test n k r
named_key test n numbers k r are l h = elim (cases_Bool (test k)) [
  | inr miss ↦ absurd (true≢false (sym h ∙ ap (member r) (named-miss test n numbers k are l miss)))
  | inl hit ↦
      let same : length (passing test k) ≡ r = eqb-true (length (passing test k)) r (sym (ap (member r) (named-hit test n numbers k are l hit) ∙ or_none (length (passing test k) == r)) ∙ h) in
      let place = at_place test n k l hit in
      record { below = omega (arith, place.0, same); back = ap (λ i. get_or (passing test n) i 0) (sym same) ∙ place.1 }
]

member-named : (test : ℕ → Bool) (n : ℕ) (numbers : List ℕ) (k r : ℕ) → AreNumbers test n numbers → k < n → r < length (passing test n) → member r (named numbers k) ≡ (k == get_or (passing test n) r 0)
member-named test n numbers k r are l m =
    let key = get_or (passing test n) r 0 in
    let nth = nth_is test n r m in
    elim (cases_eq k key) [
      | inl same ↦
          let hit : test k ≡ true = ap test same ∙ nth.passes in
          let place : length (passing test k) ≡ r = ap (λ i. length (passing test i)) same ∙ nth.place in
          ap (member r) (named-hit test n numbers k are l hit) ∙ or_left (length (passing test k) == r) false (eq-eqb (length (passing test k)) r place) ∙ sym (eq-eqb k key same)
      | inr differ ↦ elim (cases_Bool (member r (named numbers k))) [
        | inl hit ↦ absurd (differ (sym (named_key test n numbers k r are l hit).back))
        | inr miss ↦ miss ∙ sym (ne_eqb k key differ)
      ]
    ]

any_same : (f g : ℕ → Bool) (xs : List ℕ) → ((k : ℕ) → member k xs ≡ true → f k ≡ g k) → list_any f xs ≡ list_any g xs
any_same f g [] h = refl
any_same f g (x ∷ xs) h =
    ap₂ (λ a b. a || b) (h x (or_left (x == x) (member x xs) (eq-eqb x x refl))) (any_same f g xs (λ k m. h k (or_right (x == k) (member k xs) m)))

-- ---- the rows of a pattern

pub rows_are : (p : Facts) → IsProblem p → (s : List Pattern) (numbers : List ℕ) (i : ℕ) → ArePatterns p s → AreNumbers (makes_row p s) (key_end p) numbers → length (base_rows p s) ≤ 4000 → i < length s
    → AreBaseRowsOf (packing_of p s) (map Base (rows_of_keys p numbers (pattern_at s i))) i
rows_are p is s numbers i are numbered short l =
    let x = pattern_at s i in
    let pattern = are.each i l in
    let test = makes_row p s in
    let n = key_end p in
    let keys = keys_of p x in
    let known : (k : ℕ) → member k keys ≡ true → k < n = keys_known p is x pattern in
    let rows = rows_listed p is s are.each in
    let whole : length (passing test n) ≡ length (base_rows p s) = sym (length-map (passing test n) (row_of p)) ∙ ap length rows in
    let differ : distinct (flat_map (named numbers) keys) ≡ true =
    distinct-flat (named numbers) keys (keys-distinct p is x pattern) (λ e m. one_number e)
    (λ r e g he hg me mg. sym (named_key test n numbers e r numbered (known e he) me).back ∙ (named_key test n numbers g r numbered (known g hg) mg).back) in
    let below : (r : ℕ) → member r (flat_map (named numbers) keys) ≡ true → r < length (passing test n) = λ r h.
    let w = flat_member r (named numbers) keys h in (named_key test n numbers w.0 r numbered (known w.0 w.1) w.2).below in
    record {
      differ = distinct-base (flat_map (named numbers) keys) ∙ differ;
      base = λ r m.
          let there : r < length (passing test n) = omega (arith, m, whole) in
          let key = get_or (passing test n) r 0 in
          let nth = nth_is test n r there in
          member-base r (flat_map (named numbers) keys)
          ∙ member-flat r (named numbers) keys
          ∙ any_same (λ k. member r (named numbers k)) (λ k. k == key) keys (λ k h. member-named test n numbers k r numbered (known k h) there)
          ∙ sym (member-any key keys)
          ∙ keys-row p is x pattern key nth.below
          ∙ ap (λ row. stands_in p row x) (sym (get_or-map (row_of p) (passing test n) r 0 (Event 0) there) ∙ ap (λ rs. row_at rs r) rows);
      cut = λ c. no_cut c (flat_map (named numbers) keys);
      level = λ j. no_level j (flat_map (named numbers) keys);
      few = omega (arith, length-map (flat_map (named numbers) keys) Base, few (flat_map (named numbers) keys) (length (passing test n)) differ below, whole, short);
    }
  where
    one_number : (k : ℕ) → distinct (named numbers k) ≡ true
    one_number k = elim (cases_Bool (slice_index numbers k == 0)) [
      | inl none ↦ ap distinct (cond-true (slice_index numbers k == 0) [] ((slice_index numbers k - 1) ∷ []) none)
      | inr some ↦ ap distinct (cond-false (slice_index numbers k == 0) [] ((slice_index numbers k - 1) ∷ []) some)
    ]

-- each of them is a base row
pub rows_known : (p : Facts) → IsProblem p → (s : List Pattern) (numbers : List ℕ) (i r : ℕ) → ArePatterns p s → AreNumbers (makes_row p s) (key_end p) numbers → i < length s
    → member r (rows_of_keys p numbers (pattern_at s i)) ≡ true → r < length (base_rows p s)
rows_known p is s numbers i r are numbered l h =
    let x = pattern_at s i in
    let test = makes_row p s in
    let n = key_end p in
    let w = flat_member r (named numbers) (keys_of p x) h in
    let known = keys_known p is x (are.each i l) w.0 w.1 in
    omega (arith, (named_key test n numbers w.0 r numbered known w.2).below, length-map (passing test n) (row_of p), ap length (rows_listed p is s are.each))

numbers_low : (test : ℕ → Bool) (n : ℕ) (numbers : List ℕ) → AreNumbers test n numbers → length (passing test n) ≤ 4000 → (k : ℕ) → slice_index numbers k ≤ 4000
numbers_low test n numbers are few k = elim (cases_lt k n) [
  | inr more ↦ let none : slice_index numbers k ≡ 0 = get_or_past numbers k 0 (omega (arith, are.whole, more)) in omega (arith, none)
  | inl less ↦ elim (cases_Bool (test k)) [
    | inr miss ↦ omega (arith, are.each k less ∙ cond-false (test k) (length (passing test k) + 1) 0 miss)
    | inl hit ↦ omega (arith, are.each k less ∙ cond-true (test k) (length (passing test k) + 1) 0 hit, (at_place test n k less hit).0, few)
  ]
]

pub numbers_few : (p : Facts) → IsProblem p → (s : List Pattern) (numbers : List ℕ) → ArePatterns p s → AreNumbers (makes_row p s) (key_end p) numbers → length (base_rows p s) ≤ 4000 → (k : ℕ) → slice_index numbers k ≤ 4000
numbers_few p is s numbers are numbered short =
    numbers_low (makes_row p s) (key_end p) numbers numbered
    (omega (arith, length-map (passing (makes_row p s) (key_end p)) (row_of p), ap length (rows_listed p is s are.each), short))

-- ---- where the runs of each pattern lie

runs_split : (p : Facts) (numbers : List ℕ) (s : List Pattern) (i n : ℕ) → i < n → (rest : List Run) × (runs_below p numbers s n ≡ (runs_below p numbers s i ++ runs_of p numbers (pattern_at s i)) ++ rest)
runs_split p numbers s i zero l = absurd (omega (arith, l))
runs_split p numbers s i (suc n) l = elim (cases_eq i n) [
  | inl same ↦ ([], rw same (sym (append-nil (runs_below p numbers s n ++ runs_of p numbers (pattern_at s n)))))
  | inr other ↦
      let front = runs_split p numbers s i n (omega (arith, l, less i n l other)) in (
        front.0 ++ runs_of p numbers (pattern_at s n),
        ap (λ xs. xs ++ runs_of p numbers (pattern_at s n)) front.1 ∙ append_assoc (runs_below p numbers s i ++ runs_of p numbers (pattern_at s i)) front.0 (runs_of p numbers (pattern_at s n)),
      )
]
  where
    less : (i n : ℕ) → i < suc n → (i ≡ n → ⊥) → i < n
    less i n l other = omega arith

pub record ArePlaced (runs : List Run) (starts : List ℕ) (i : ℕ) (own : List Run) : Type 0 where
  pub order : slice_index starts i ≤ slice_index starts (i + 1)
  pub within : slice_index starts (i + 1) ≤ length runs
  pub part : part_at runs starts i ≡ own

placed : (a b rest : List Run) (runs : List Run) (x y : ℕ) → runs ≡ (a ++ b) ++ rest → x ≡ length a → y ≡ length (a ++ b) → (x ≤ y) × (y ≤ length runs) × (take (y - x) (drop x runs) ≡ b)
placed a b rest runs x y e f g =
    let all : length runs ≡ length a + length b + length rest = omega (arith, ap length e, length-append (a ++ b) rest, length-append a b) in
    let both = length-append a b in
    let wide : y - x ≡ length b = omega (arith, f, g, both) in (
      omega (arith, f, g, both),
      omega (arith, g, both, all),
      ap₂ (λ m xs. take m (drop x xs)) wide (e ∙ append_assoc a b rest)
          ∙ ap (take (length b)) (drop_at a (b ++ rest) x (sym f))
          ∙ take_at b rest (length b) refl,
    )

pub runs_placed : (p : Facts) (numbers : List ℕ) (s : List Pattern) (n : ℕ) (runs : List Run) (starts : List ℕ) (i : ℕ) → AreRuns p numbers s n (n + 1) runs starts → i < n → ArePlaced runs starts i (runs_of p numbers (pattern_at s i))
runs_placed p numbers s n runs starts i are l =
    let split = runs_split p numbers s i n l in
    let next : runs_below p numbers s (i + 1) ≡ runs_below p numbers s i ++ runs_of p numbers (pattern_at s i) = ap (runs_below p numbers s) (one_more i) in
    let at = placed (runs_below p numbers s i) (runs_of p numbers (pattern_at s i)) split.0 runs (slice_index starts i) (slice_index starts (i + 1)) (are.runs_are ∙ split.1) (are.each i (omega (arith, l))) (are.each (i + 1) (omega (arith, l)) ∙ ap length next) in
    record { order = at.0; within = at.1; part = at.2 }
  where
    one_more : (i : ℕ) → i + 1 ≡ suc i
    one_more i = omega arith
