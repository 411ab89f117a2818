use Rattle.std.proofs.Common.{ℕ, ◌≡◌, ◌≤◌, ◌<◌}
use Rattle.std.specs.Prelude.{◌*ℤ◌}
use Rattle.duality.specs.Packing.{target_of}
use Rattle.node_bound.specs.Guessed.{entry_sum}
use Rattle.node_bound.proofs.gap.has_targets.Given as goal

abbrev pub invariant-loop-level : goal.invariant-loop-level
invariant-loop-level g l = (j : ℕ) → 1 ≤ j → j < l.level → entry_sum (g.O.Objective.weight l.at.objective.now j) l.point.entries ≡ l.point.den *ℤ target_of l.at.targets.now j
