use Rattle.std.proofs.Common.{ℕ, ◌≡◌, ◌≤◌, ◌<◌}
use Rattle.numbers.specs.Sums.{total}
use Rattle.duality.specs.Packing.{target_of}
use Rattle.clique_cuts.proofs.rounding.has_targets.Given as goal

abbrev pub invariant-loop-level : goal.invariant-loop-level
invariant-loop-level g l = (j : ℕ) → 1 ≤ j → j < l.level → total (g.O.Objective.weight l.at.objective.now j) l.list ≡ target_of l.at.targets.now j
