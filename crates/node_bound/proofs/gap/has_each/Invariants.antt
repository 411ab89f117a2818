use Rattle.std.proofs.Common.{◌≡◌, drop}
use Rattle.std.specs.List.{list_all}
use Rattle.node_bound.specs.Guessed.{has_all}
use Rattle.node_bound.proofs.gap.has_each.Given as goal

abbrev pub invariant-loop-pattern : goal.invariant-loop-pattern
invariant-loop-pattern l = list_all (has_all l.point) (drop l.pattern-index l.patterns) ≡ list_all (has_all l.point) l.patterns
