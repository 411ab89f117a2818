use Rattle.std.proofs.Common.{◌≡◌, drop}
use Rattle.std.specs.List.{list_any}
use Rattle.packing_model.specs.Built.{packing}
use Rattle.clique_cuts.specs.Search.{breaks_with}
use Rattle.clique_cuts.proofs.broken.broken_from.Given as goal

abbrev pub invariant-loop-second : goal.invariant-loop-second
invariant-loop-second l = list_any (breaks_with (packing l.m) l.point.den l.group l.first) (drop l.second-index l.group) ≡ list_any (breaks_with (packing l.m) l.point.den l.group l.first) l.group
