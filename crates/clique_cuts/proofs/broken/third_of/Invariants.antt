use Rattle.std.proofs.Common.{◌≡◌, drop}
use Rattle.std.specs.List.{list_any}
use Rattle.packing_model.specs.Built.{packing}
use Rattle.clique_cuts.specs.Search.{can_end}
use Rattle.clique_cuts.proofs.broken.third_of.Given as goal

abbrev pub invariant-loop-third : goal.invariant-loop-third
invariant-loop-third l = list_any (can_end (packing l.m) l.point.den l.first l.second) (drop l.third-index l.group) ≡ list_any (can_end (packing l.m) l.point.den l.first l.second) l.group
