use Rattle.std.proofs.Common.{◌≡◌, ◌+◌, drop}
use Rattle.std.specs.Prelude.{slice_index}
use Rattle.packing_model.specs.Built.{packing}
use Rattle.packing_model.specs.Cuts.{first_clear_of}
use Rattle.packing_model.proofs.cut.first_unmet.Given as goal

abbrev pub invariant-loop-other : goal.invariant-loop-other
invariant-loop-other l = first_clear_of (packing l.m).clash (slice_index l.patterns l.at) (drop l.other l.patterns) ≡ first_clear_of (packing l.m).clash (slice_index l.patterns l.at) (drop (l.at + 1) l.patterns)
