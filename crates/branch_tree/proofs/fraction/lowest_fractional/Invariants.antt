use Rattle.std.proofs.Common.{◌≡◌, drop}
use Rattle.branch_tree.specs.Fractions.{lowest_fractional}
use Rattle.branch_tree.proofs.fraction.lowest_fractional.Given as goal

abbrev pub invariant-loop-entry : goal.invariant-loop-entry
invariant-loop-entry l = lowest_fractional l.point.den l.point.entries ≡ lowest_fractional l.point.den (drop l.entry-index l.entry-items)
