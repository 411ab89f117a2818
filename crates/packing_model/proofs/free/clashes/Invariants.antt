use Rattle.std.proofs.Common.{◌≡◌, drop}
use Rattle.std.specs.List.{list_any}
use Rattle.packing_model.specs.Built.{packing}
use Rattle.packing_model.proofs.free.clashes.Given as goal

abbrev pub invariant-loop-other : goal.invariant-loop-other
invariant-loop-other l = list_any ((packing l.m).clash l.pattern) (drop l.other-index l.others) ≡ list_any ((packing l.m).clash l.pattern) l.others
