use Rattle.std.proofs.Common.{◌≡◌, drop}
use Rattle.std.specs.List.{list_any}
use Rattle.packing_model.specs.Built.{packing}
use Rattle.clique_cuts.specs.Search.{breaks_from}
use Rattle.clique_cuts.proofs.broken.broken_in.Given as goal

abbrev pub invariant-loop-first : goal.invariant-loop-first
invariant-loop-first l = list_any (breaks_from (packing l.m) l.point.den l.group) (drop l.first-index l.group) ≡ list_any (breaks_from (packing l.m) l.point.den l.group) l.group
