-- Rows as runs, and the rows of runs.
use Rattle.std.proofs.Common.{ℕ, ◌≡◌, ◌+◌, ◌-◌, ◌<◌, ◌≤◌, inl, inr, zero, suc, true, false, ◌&&◌, ◌||◌, refl, arith, ap, sym, ◌∙◌, List, [], ◌∷◌, ◌++◌, length, get_or, drop, map, append_assoc}
use Rattle.std.specs.Prelude.{◌==◌, nat_le, nat_lt, slice_index}
use Rattle.std.specs.List.{flat_map, AllByRecursion}
use Rattle.std.proofs.lemmas.List.{append-nil, drop_more}
use Rattle.std.proofs.lemmas.Bool.{cases_Bool, cases_lt, eqb-true, eq-eqb, ne_eqb, lt-ltb, le-ltb, le-leb, lt-leb, or_left, or_right, cond-true, cond-false}
use Rattle.numbers.specs.Sums.{member}
use Rattle.duality.specs.declared.row.Run.{Run}
use Rattle.duality.specs.declared.row.RowName.TheVariants.{Base}
use Rattle.duality.specs.Runs.{rows_from, rows_in, AreBelow}
use Rattle.duality.specs.Sums.{member_row}
use Rattle.packing_model.specs.Keys.{named, number_in}
use Rattle.packing_model.specs.Runs.{as_list, with_row, ended, merged}
use Rattle.packing_model.proofs.CutLemmas.{member_row-append}

-- ---- the rows of merged runs

-- one row more at the end
from_last : (r n : ℕ) → rows_from r (n + 1) ≡ rows_from r n ++ Base (r + n) ∷ []
from_last r zero = let e : r + 0 ≡ r = omega arith in ap (λ k. Base k ∷ []) (sym e)
from_last r (suc n) =
    let e : suc n + 1 ≡ suc (n + 1) = omega arith in
    let f : r + 1 + n ≡ r + suc n = omega arith in
    ap (rows_from r) e ∙ ap (λ rs. Base r ∷ rs) (from_last (r + 1) n ∙ ap (λ k. rows_from (r + 1) n ++ Base k ∷ []) f)

rows_as_list : (run : Run) → rows_in (as_list run) ≡ rows_from run.first run.count
rows_as_list run = elim (cases_Bool (run.count == 0)) [
  | inl none ↦ ap rows_in (cond-true (run.count == 0) [] (run ∷ []) none) ∙ sym (ap (rows_from run.first) (eqb-true run.count 0 none))
  | inr some ↦ ap rows_in (cond-false (run.count == 0) [] (run ∷ []) some) ∙ append-nil (rows_from run.first run.count)
]

rows-append : (xs ys : List Run) → rows_in (xs ++ ys) ≡ rows_in xs ++ rows_in ys
rows-append [] ys = refl
rows-append (x ∷ xs) ys = ap (λ rs. rows_from x.first x.count ++ rs) (rows-append xs ys) ∙ sym (append_assoc (rows_from x.first x.count) (rows_in xs) (rows_in ys))

-- what a row ends and what it begins
rows_step : (run : Run) (row : ℕ) → rows_in (ended run row) ++ rows_from (with_row run row).first (with_row run row).count ≡ rows_from run.first run.count ++ Base row ∷ []
rows_step run row = elim (cases_Bool (run.first + run.count == row)) [
  | inl follows ↦ rw follows (from_last run.first run.count ∙ ap (λ k. rows_from run.first run.count ++ Base k ∷ []) (eqb-true (run.first + run.count) row follows))
  | inr apart ↦ rw apart (ap (λ rs. rs ++ Base row ∷ []) (rows_as_list run))
]

pub merged_rows : (run : Run) (rows : List ℕ) → rows_in (merged run rows) ≡ rows_from run.first run.count ++ map Base rows
merged_rows run [] = rows_as_list run ∙ sym (append-nil (rows_from run.first run.count))
merged_rows run (row ∷ rows) =
    let next = with_row run row in
    rows-append (ended run row) (merged next rows)
    ∙ ap (λ rs. rows_in (ended run row) ++ rs) (merged_rows next rows)
    ∙ sym (append_assoc (rows_in (ended run row)) (rows_from next.first next.count) (map Base rows))
    ∙ ap (λ rs. rs ++ map Base rows) (rows_step run row)
    ∙ append_assoc (rows_from run.first run.count) (Base row ∷ []) (map Base rows)

-- ---- the rows of merged runs are below a number

below-append : (n : ℕ) (xs ys : List Run) → AreBelow n xs → AreBelow n ys → AreBelow n (xs ++ ys)
below-append n [] ys h k = k
below-append n (x ∷ xs) ys h k = (h.0, below-append n xs ys h.1 k)

below-as_list : (n : ℕ) (run : Run) → run.first + run.count ≤ n → AreBelow n (as_list run)
below-as_list n run l = elim (cases_Bool (run.count == 0)) [
  | inl none ↦ rw none tt
  | inr some ↦ rw some (l, tt)
]

below-ended : (n : ℕ) (run : Run) (row : ℕ) → run.first + run.count ≤ n → AreBelow n (ended run row)
below-ended n run row l = elim (cases_Bool (run.first + run.count == row)) [
  | inl follows ↦ rw follows tt
  | inr apart ↦ rw apart (below-as_list n run l)
]

pub with_row_below : (n : ℕ) (run : Run) (row : ℕ) → row < n → (with_row run row).first + (with_row run row).count ≤ n
with_row_below n run row l = elim (cases_Bool (run.first + run.count == row)) [
  | inl follows ↦ rw follows (omega (arith, eqb-true (run.first + run.count) row follows, l))
  | inr apart ↦ rw apart (omega (arith, l))
]

pub merged_below : (n : ℕ) (run : Run) (rows : List ℕ) → run.first + run.count ≤ n → ((r : ℕ) → member r rows ≡ true → r < n) → AreBelow n (merged run rows)
merged_below n run [] l h = below-as_list n run l
merged_below n run (row ∷ rows) l h =
    below-append n (ended run row) (merged (with_row run row) rows) (below-ended n run row l)
    (merged_below n (with_row run row) rows (with_row_below n run row (h row (or_left (row == row) (member row rows) (eq-eqb row row refl)))) (λ r m. h r (or_right (row == r) (member r rows) m)))

-- ---- the rows of keys are low

low-append : (n : ℕ) (xs ys : List ℕ) → AllByRecursion (λ r. r < n) xs → AllByRecursion (λ r. r < n) ys → AllByRecursion (λ r. r < n) (xs ++ ys)
low-append n [] ys h k = k
low-append n (x ∷ xs) ys h k = (h.0, low-append n xs ys h.1 k)

low_number : (m : ℕ) → m ≤ 4000 → AllByRecursion (λ r. r < 4000) (number_in m)
low_number m l = elim (cases_Bool (m == 0)) [
  | inl none ↦ rw none tt
  | inr some ↦ rw some (omega (arith, l), tt)
]

pub rows_low : (numbers keys : List ℕ) → ((k : ℕ) → slice_index numbers k ≤ 4000) → AllByRecursion (λ r. r < 4000) (flat_map (named numbers) keys)
rows_low numbers [] few = tt
rows_low numbers (k ∷ keys) few = low-append 4000 (named numbers k) (flat_map (named numbers) keys) (low_number (slice_index numbers k) (few k)) (rows_low numbers keys few)

-- ---- whether a row is in a run

member_before : (r first n : ℕ) → r < first → member_row (Base r) (rows_from first n) ≡ false
member_before r first zero l = refl
member_before r first (suc n) l =
    ap (λ b. b || member_row (Base r) (rows_from (first + 1) n)) (ne_eqb first r (λ e. absurd (omega (arith, e, l)))) ∙ member_before r (first + 1) n (omega (arith, l))

lt_suc : (k n : ℕ) → nat_lt k n ≡ nat_lt (suc k) (suc n)
lt_suc k n = elim (cases_lt k n) [
  | inl less ↦ lt-ltb k n less ∙ sym (lt-ltb (suc k) (suc n) (omega (arith, less)))
  | inr more ↦ le-ltb k n more ∙ sym (le-ltb (suc k) (suc n) (omega (arith, more)))
]

member_after : (first k n : ℕ) → member_row (Base (first + k)) (rows_from first n) ≡ nat_lt k n
member_after first k zero = sym (le-ltb k 0 (omega arith))
member_after first zero (suc n) = or_left (first == first + 0) _ (eq-eqb first (first + 0) (omega arith)) ∙ sym (lt-ltb 0 (suc n) (omega arith))
member_after first (suc k) (suc n) =
    let e : first + suc k ≡ first + 1 + k = omega arith in
    ap (λ b. b || member_row (Base (first + suc k)) (rows_from (first + 1) n)) (ne_eqb first (first + suc k) (λ h. absurd (omega (arith, h))))
    ∙ ap (λ m. member_row (Base m) (rows_from (first + 1) n)) e
    ∙ member_after (first + 1) k n
    ∙ lt_suc k n

pub member_from : (r first n : ℕ) → member_row (Base r) (rows_from first n) ≡ (nat_le first r && nat_lt (r - first) n)
member_from r first n = elim (cases_lt r first) [
  | inl before ↦ member_before r first n before ∙ sym (ap (λ b. b && nat_lt (r - first) n) (lt-leb first r before))
  | inr after ↦
      let e : first + (r - first) ≡ r = omega (arith, after) in
      ap (λ m. member_row (Base m) (rows_from first n)) (sym e) ∙ member_after first (r - first) n ∙ sym (ap (λ b. b && nat_lt (r - first) n) (le-leb first r after))
]

pub member_more : (r : ℕ) (runs : List Run) (i : ℕ) (d : Run) → i < length runs
    → member_row (Base r) (rows_in (drop i runs)) ≡ (member_row (Base r) (rows_from (get_or runs i d).first (get_or runs i d).count) || member_row (Base r) (rows_in (drop (i + 1) runs)))
member_more r runs i d l =
    let run = get_or runs i d in
    ap (λ rs. member_row (Base r) (rows_in rs)) (drop_more runs i d l) ∙ member_row-append (Base r) (rows_from run.first run.count) (rows_in (drop (i + 1) runs))
