use Rattle.std.proofs.Common.{ℕ, ◌≡◌, ◌<◌, false, [], get_or}
use Rattle.packing_model.specs.Built.{packing}
use Rattle.clique_cuts.specs.Search.{breaks_in}
use Rattle.clique_cuts.proofs.broken.broken_among.Given as goal

abbrev pub invariant-loop-group : goal.invariant-loop-group
invariant-loop-group l = (g : ℕ) → g < l.group-index → breaks_in (packing l.m) l.point.den (get_or l.groups g []) ≡ false
