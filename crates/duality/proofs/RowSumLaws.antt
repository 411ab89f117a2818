-- What a run of base rows costs by the sums below its ends.
use Rattle.std.proofs.Common.{ℕ, ◌≡◌, ◌+◌, ◌*◌, ◌<◌, ◌≤◌, arith, refl, sym, ◌∙◌, ap, subst, zero, suc, List, length, drop, inl, inr}
use Rattle.std.specs.Prelude.{◌^◌, FitsSigned, ℤ, pos, ◌+ℤ◌, ◌-ℤ◌, slice_index_or, slice_set}
use Rattle.std.proofs.lemmas.Bool.{cases_eq}
use Rattle.std.proofs.lemmas.List.{drop_more, get_or-set_same, get_or-set_other}
use Rattle.std.proofs.lemmas.Int.{ints}
use mir.Syntax.{w128}
use mir.Val.{to_z, of_z}
use Rattle.numbers.specs.Sums.{sum_below, total, sum_below-more}
use Rattle.duality.specs.declared.row.RowName.{RowName}
use Rattle.duality.specs.declared.row.RowName.TheVariants.{Base}
use Rattle.duality.specs.declared.row.Run.{Run}
use Rattle.duality.specs.declared.row.Term.{Term}
use Rattle.duality.specs.Runs.{rows_from}
use Rattle.duality.proofs.RunLaws.{no_run}
use Rattle.duality.specs.Sums.{IsWithin, times_of, AreRowSums, AreInTable}

-- ---- sizes

within_more : (b n : ℕ) (x y : ℤ) → IsWithin (n * b) x → IsWithin b y → IsWithin (suc n * b) (x +ℤ y)
within_more b n x y p q =
    let e : suc n * b ≡ n * b + b = omega arith in
    record { low = omega (arith, ints, e, p.low, q.low); high = omega (arith, ints, e, p.high, q.high) }

pub sum_within : (f : ℕ → ℤ) (b n : ℕ) → ((r : ℕ) → r < n → IsWithin b (f r)) → IsWithin (n * b) (sum_below f n)
sum_within f b zero h = record { low = omega (arith, ints); high = omega (arith, ints) }
sum_within f b (suc n) h = within_more b n (sum_below f n) (f n) (sum_within f b n (λ r l. h r (omega arith))) (h n (omega arith))

within_first : (b n : ℕ) (x y : ℤ) → IsWithin b x → IsWithin (n * b) y → IsWithin (suc n * b) (x +ℤ y)
within_first b n x y p q =
    let e : suc n * b ≡ n * b + b = omega arith in
    record { low = omega (arith, ints, e, p.low, q.low); high = omega (arith, ints, e, p.high, q.high) }

pub run_within : (g : RowName → ℤ) (b first n : ℕ) → ((r : ℕ) → r < first + n → IsWithin b (g (Base r))) → IsWithin (n * b) (total g (rows_from first n))
run_within g b first zero h = record { low = omega (arith, ints); high = omega (arith, ints) }
run_within g b first (suc n) h = within_first b n (g (Base first)) (total g (rows_from (first + 1) n)) (h first (omega arith)) (run_within g b (first + 1) n (λ r l. h r (omega arith)))

-- ---- a run by the sums below its ends

pub run_is : (g : RowName → ℤ) (first n : ℕ) → total g (rows_from first n) ≡ sum_below (λ i. g (Base i)) (first + n) -ℤ sum_below (λ i. g (Base i)) first
run_is g first zero =
    let e : first + 0 ≡ first = omega arith in
    let same : sum_below (λ i. g (Base i)) (first + 0) ≡ sum_below (λ i. g (Base i)) first = ap (sum_below (λ i. g (Base i))) e in
    omega (arith, ints, same)
run_is g first (suc n) =
    let e : first + suc n ≡ first + 1 + n = omega arith in
    let rest : total g (rows_from (first + 1) n) ≡ sum_below (λ i. g (Base i)) (first + 1 + n) -ℤ sum_below (λ i. g (Base i)) (first + 1) = run_is g (first + 1) n in
    let ends : sum_below (λ i. g (Base i)) (first + suc n) ≡ sum_below (λ i. g (Base i)) (first + 1 + n) = ap (sum_below (λ i. g (Base i))) e in
    let more : sum_below (λ i. g (Base i)) (first + 1) ≡ sum_below (λ i. g (Base i)) first +ℤ g (Base first) = sum_below-more (λ i. g (Base i)) first (g (Base first)) refl in
    omega (arith, ints, rest, ends, more)

-- ---- numbers of the machine

smaller : (r : ℕ) → r ≤ 4001 → r * 10 ^ 24 ≤ 4001 * 10 ^ 24
smaller r l = omega arith

pub entry_within : (terms : List Term) (below : List ℤ) (r : ℕ) → AreRowSums terms below → length below ≤ 4001 → r < length below → IsWithin (4001 * 10 ^ 24) (slice_index_or below r (pos 0))
entry_within terms below r are few l =
    let f : ℕ → ℤ = λ i. times_of terms (Base i) in
    let sum : IsWithin (r * 10 ^ 24) (sum_below f r) = sum_within f (10 ^ 24) r (λ i m. are.small i (omega (arith, m, l))) in
    let less = smaller r (omega (arith, few, l)) in
    let is : slice_index_or below r (pos 0) ≡ sum_below f r = are.each r l in
    record { low = omega (arith, ints, is, less, sum.low); high = omega (arith, ints, is, less, sum.high) }

pub fits_difference : (a b : ℤ) → IsWithin (4001 * 10 ^ 24) a → IsWithin (4001 * 10 ^ 24) b → FitsSigned w128 (to_z w128 (of_z w128 a) -ℤ to_z w128 (of_z w128 b))
fits_difference a b p q = omega (arith, ints, p.low, p.high, q.low, q.high)

pub plain_difference : (a b x : ℤ) → IsWithin (4001 * 10 ^ 24) a → IsWithin (4001 * 10 ^ 24) b → x ≡ a -ℤ b → to_z w128 (of_z w128 (to_z w128 (of_z w128 a) -ℤ to_z w128 (of_z w128 b))) ≡ x
plain_difference a b x p q e = omega (arith, ints, p.low, p.high, q.low, q.high, e)

-- a run of the table
pub run_value : (terms : List Term) (below : List ℤ) (first n : ℕ) → AreRowSums terms below → first + n < length below
    → total (times_of terms) (rows_from first n) ≡ slice_index_or below (first + n) (pos 0) -ℤ slice_index_or below first (pos 0)
run_value terms below first n are l =
    let f : ℕ → ℤ = λ i. times_of terms (Base i) in
    let high : slice_index_or below (first + n) (pos 0) ≡ sum_below f (first + n) = are.each (first + n) l in
    let low : slice_index_or below first (pos 0) ≡ sum_below f first = are.each first (omega (arith, l)) in
    let run : total (times_of terms) (rows_from first n) ≡ sum_below f (first + n) -ℤ sum_below f first = run_is (times_of terms) first n in
    omega (arith, ints, high, low, run)

-- ---- loops

pub in_table_rest : (entries : ℕ) (runs : List Run) (i : ℕ) → i < length runs → AreInTable entries (drop i runs) → AreInTable entries (drop (i + 1) runs)
in_table_rest entries runs i l h = (subst (AreInTable entries) (drop_more runs i no_run l) h).1

-- one entry more
pub entry_set : (f : ℕ → ℤ) (below : List ℤ) (row : ℕ) (sum : ℤ) → row < length below → ((r : ℕ) → r < row → slice_index_or below r (pos 0) ≡ sum_below f r) → sum ≡ sum_below f row
    → (r : ℕ) → r < row + 1 → slice_index_or (slice_set below row sum) r (pos 0) ≡ sum_below f r
entry_set f below row sum l each is r m = elim (cases_eq r row) [
  | inl here ↦ ap (λ i. slice_index_or (slice_set below row sum) i (pos 0)) here ∙ get_or-set_same below row sum (pos 0) l ∙ is ∙ ap (sum_below f) (sym here)
  | inr other ↦ get_or-set_other below row r sum (pos 0) other ∙ each r (omega (arith, m, other))
]

pub small_more : (f : ℕ → ℤ) (row : ℕ) (x : ℤ) → ((r : ℕ) → r < row → IsWithin (10 ^ 24) (f r)) → x ≡ f row → IsWithin (10 ^ 24) x → (r : ℕ) → r < row + 1 → IsWithin (10 ^ 24) (f r)
small_more f row x each is small r m = elim (cases_eq r row) [
  | inl here ↦ subst (IsWithin (10 ^ 24)) (is ∙ ap f (sym here)) small
  | inr other ↦ each r (omega (arith, m, other))
]
