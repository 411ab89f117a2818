use Rattle.std.proofs.Common.{◌≡◌, drop}
use Rattle.duality.specs.Runs.{rows_in}
use Rattle.duality.specs.Sums.{member_row}
use Rattle.duality.specs.declared.row.RowName.TheVariants.{Base}
use Rattle.packing_model.proofs.free.covers.Given as goal

abbrev pub invariant-loop-run : goal.invariant-loop-run
invariant-loop-run l = member_row (Base l.row) (rows_in (drop l.run-index l.runs)) ≡ member_row (Base l.row) (rows_in l.runs)
