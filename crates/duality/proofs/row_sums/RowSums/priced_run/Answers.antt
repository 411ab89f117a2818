use Rattle.std.proofs.Common.{◌≡◌, ◌+◌, ◌*◌, ◌^◌, arith, sym, subst}
use Rattle.std.specs.Prelude.{pos, ◌-ℤ◌, slice_index_or}
use mir.Syntax.{w128}
use mir.Val.{to_z, of_z}
use Rattle.numbers.specs.Sums.{total}
use Rattle.duality.specs.Runs.{rows_from}
use Rattle.duality.specs.Sums.{IsWithin, times_of}
use Rattle.duality.proofs.RowSumLaws.{entry_within, fits_difference, plain_difference, run_value, run_within}
use Rattle.duality.proofs.row_sums.RowSums.priced_run.Goals as goal

pub overflow_sub-result : goal.overflow_sub-result
overflow_sub-result c =
    let terms = c.args.self.now.terms.now in
    let below = c.args.self.now.below.now in
    let first = c.args.run.first in
    let end = c.args.run.first + c.args.run.count in
    fits_difference (slice_index_or below end (pos 0)) (slice_index_or below first (pos 0))
    (entry_within terms below end c.requires.sums c.requires.few c.requires.low) (entry_within terms below first c.requires.sums c.requires.few (omega (arith, c.requires.low)))

pub returns-clause-value : goal.returns-clause-value
returns-clause-value c =
    let terms = c.args.self.now.terms.now in
    let below = c.args.self.now.below.now in
    let first = c.args.run.first in
    let end = c.args.run.first + c.args.run.count in
    plain_difference (slice_index_or below end (pos 0)) (slice_index_or below first (pos 0)) (total (times_of terms) (rows_from first c.args.run.count))
    (entry_within terms below end c.requires.sums c.requires.few c.requires.low) (entry_within terms below first c.requires.sums c.requires.few (omega (arith, c.requires.low)))
    (run_value terms below first c.args.run.count c.requires.sums c.requires.low)

pub returns-clause-small : goal.returns-clause-small
returns-clause-small c =
    let terms = c.args.self.now.terms.now in
    let below = c.args.self.now.below.now in
    let first = c.args.run.first in
    let end = c.args.run.first + c.args.run.count in
    let value : to_z w128 (of_z w128 (to_z w128 (of_z w128 (slice_index_or below end (pos 0))) -ℤ to_z w128 (of_z w128 (slice_index_or below first (pos 0))))) ≡ total (times_of terms) (rows_from first c.args.run.count) =
    plain_difference (slice_index_or below end (pos 0)) (slice_index_or below first (pos 0)) (total (times_of terms) (rows_from first c.args.run.count))
    (entry_within terms below end c.requires.sums c.requires.few c.requires.low) (entry_within terms below first c.requires.sums c.requires.few (omega (arith, c.requires.low)))
    (run_value terms below first c.args.run.count c.requires.sums c.requires.low) in
    subst (IsWithin (c.args.run.count * 10 ^ 24)) (sym value)
    (run_within (times_of terms) (10 ^ 24) first c.args.run.count (λ r l. c.requires.sums.small r (omega (arith, l, c.requires.low))))
