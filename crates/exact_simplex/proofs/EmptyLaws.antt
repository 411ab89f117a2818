-- Laws of specs/Empty.
use Rattle.std.proofs.Common.{ℕ, ◌≡◌, ◌+◌, ◌<◌, ◌^◌, sym, ◌∙◌, ap, subst, inl, inr, List, ◌∷◌, length, arith, Bool, ℤ, pos, ◌≤ℤ◌, ◌<ℤ◌}
use Rattle.std.specs.List.{list_all}
use Rattle.std.proofs.lemmas.Int.{ints, by_lt_z}
use Rattle.std.proofs.lemmas.Bool.{and_parts}
use Rattle.std.proofs.lemmas.List.{length-map}
use Rattle.exact_num.specs.Q.{ℚ}
use Rattle.exact_num.specs.Ops.{zero_ℚ, ◌*ℚ◌, zero-*ℚ, *ℚ_comm}
use Rattle.exact_num.specs.Order.{◌≤ℚ◌, ◌<ℚ◌, *ℚ-<ℚ, <ℚ-not-≤ℚ, <ℚ_or_≤ℚ}
use Rattle.exact_num.specs.Sums.{sum_ℚ, entry_ℚ}
use Rattle.exact_num.specs.Whole.{int_ℚ, int_ℚ-zero, int_ℚ-≤ℤ, int_ℚ-≤ℚ}
use Rattle.exact_num.specs.Multiples.{least_den, least_den-positive}
use Rattle.exact_num.specs.Denominators.{num_over, nums_over, common_fits, IsCommon}
use Rattle.exact_num.specs.Work.{below}
use Rattle.exact_simplex.specs.Task.{int_at, cell, row_at, column_sum, side_sum, ShowsEmpty}
use Rattle.exact_simplex.specs.Scaled.{StandFor}
use Rattle.exact_simplex.proofs.ScaledLaws.{nums_stand, sum_stands, stands_nonneg, sign_stands, small}
use Rattle.exact_simplex.specs.declared.task.Lp.{Lp}
use Rattle.exact_simplex.specs.Empty.{ShowsEmptyFraction}

-- a number that stands for a negative one is negative
pub stands_negative : (d : ℕ) (z : ℤ) (q : ℚ) → 0 < d → int_ℚ z ≡ int_ℚ (pos d) *ℚ q → q <ℚ zero_ℚ → z <ℤ pos 0
stands_negative d z q some e h = by_lt_z z (pos 0) (λ l. l) (λ l. absurd (bad l))
  where
    d_positive : zero_ℚ <ℚ int_ℚ (pos d)
    d_positive = elim (<ℚ_or_≤ℚ zero_ℚ (int_ℚ (pos d))) [
      | inl l ↦ l
      | inr l ↦ let k : pos d ≤ℤ pos 0 = int_ℚ-≤ℚ (pos d) (pos 0) (subst (λ u. int_ℚ (pos d) ≤ℚ u) (sym int_ℚ-zero) l) in absurd (omega (arith, ints))
    ]

    below_zero : int_ℚ z <ℚ zero_ℚ
    below_zero = subst (λ u. u <ℚ zero_ℚ) (*ℚ_comm q (int_ℚ (pos d)) ∙ sym e) (subst (λ u. q *ℚ int_ℚ (pos d) <ℚ u) (zero-*ℚ (int_ℚ (pos d))) (*ℚ-<ℚ q zero_ℚ (int_ℚ (pos d)) h d_positive))

    bad : pos 0 ≤ℤ z → ⊥
    bad l = <ℚ-not-≤ℚ (int_ℚ z) zero_ℚ below_zero (subst (λ u. u ≤ℚ int_ℚ z) int_ℚ-zero (int_ℚ-≤ℤ (pos 0) z l))

pub empty_whole : (lp : Lp) (ys : List ℚ) (fits : ℤ → Bool) (y : List ℤ) (den : ℤ) (a b : ℕ) → length ys ≡ length lp.rows → IsCommon (common_fits fits ys) ys y den a b → ShowsEmptyFraction lp (entry_ℚ ys) → ShowsEmpty lp y
empty_whole lp ys fits y den a b same yc is =
    let D = least_den ys in
    let Y : StandFor D y (entry_ℚ ys) (length lp.rows) = λ j l. ap (λ zs. int_ℚ (int_at zs j)) yc.nums_are ∙ nums_stand ys j (omega arith) in
    let all = ap (λ zs. list_all (below (10 ^ 24 + 1)) (pos D ∷ zs)) yc.nums_are ∙ small fits (below (10 ^ 24 + 1)) (pos D ∷ nums_over (pos D) ys) yc.all_fit in
    record {
      one_each = ap length yc.nums_are ∙ length-map ys (num_over (pos D)) ∙ same;
      small = (and_parts (below (10 ^ 24 + 1) (pos D)) (list_all (below (10 ^ 24 + 1)) y) all).1;
      sign = λ i l. sign_stands D (row_at lp i).kind (int_at y i) (entry_ℚ ys i) (Y i l) (is.sign i l);
      columns = λ j l. stands_nonneg D (column_sum lp j y) (sum_ℚ (λ i. entry_ℚ ys i *ℚ int_ℚ (cell lp i j)) (length lp.rows)) (sum_stands D y (entry_ℚ ys) (λ i. cell lp i j) (length lp.rows) Y) (is.columns j l);
      negative = stands_negative D (side_sum lp y) (sum_ℚ (λ i. entry_ℚ ys i *ℚ int_ℚ (row_at lp i).side) (length lp.rows)) (least_den-positive ys) (sum_stands D y (entry_ℚ ys) (λ i. (row_at lp i).side) (length lp.rows) Y) is.negative;
    }
