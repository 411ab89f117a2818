use Rattle.std.proofs.Common.{◌≡◌, drop}
use Rattle.packing_model.specs.Built.{packing}
use Rattle.packing_model.specs.Cuts.{first_clear_of}
use Rattle.packing_model.proofs.cut.first_clear_of.Given as goal

abbrev pub invariant-loop-other : goal.invariant-loop-other
invariant-loop-other l = first_clear_of (packing l.m).clash l.pattern (drop l.other-index l.others) ≡ first_clear_of (packing l.m).clash l.pattern l.others
