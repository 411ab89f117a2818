use Rattle.std.proofs.Common.{◌≡◌, drop}
use Rattle.duality.specs.Sums.{member_row}
use Rattle.packing_model.proofs.free.names.Given as goal

abbrev pub invariant-loop-other : goal.invariant-loop-other
invariant-loop-other l = member_row l.row (drop l.other-index l.rows) ≡ member_row l.row l.rows
