use Rattle.std.proofs.Common.{ℕ, ◌≡◌, ◌<◌, ◌*◌, ◌^◌, length}
use Rattle.std.specs.Prelude.{pos, slice_index_or}
use Rattle.numbers.specs.Sums.{sum_below}
use Rattle.duality.specs.declared.row.RowName.TheVariants.{Base}
use Rattle.duality.specs.Sums.{times_of, IsWithin}
use Rattle.duality.proofs.row_sums.sum_rows.Given as goal

abbrev pub invariant-loop-row : goal.invariant-loop-row
invariant-loop-row l = record {
  whole : length l.below ≡ length l.initial.below;
  each : (r : ℕ) → r < l.row → slice_index_or l.below r (pos 0) ≡ sum_below (λ i. times_of l.terms (Base i)) r;
  small : (r : ℕ) → r < l.row → IsWithin (10 ^ 24) (times_of l.terms (Base r));
  sum : l.sum ≡ sum_below (λ i. times_of l.terms (Base i)) l.row;
  within : IsWithin (l.row * 10 ^ 24) l.sum;
}
