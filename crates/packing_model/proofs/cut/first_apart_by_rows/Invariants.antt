use Rattle.std.proofs.Common.{◌≡◌, drop}
use Rattle.packing_model.specs.Built.{packing}
use Rattle.packing_model.specs.Cuts.{first_apart}
use Rattle.packing_model.proofs.cut.first_apart_by_rows.Given as goal

abbrev pub invariant-loop-i : goal.invariant-loop-i
invariant-loop-i l = first_apart (packing l.m).clash (drop l.i l.patterns) ≡ first_apart (packing l.m).clash l.patterns
