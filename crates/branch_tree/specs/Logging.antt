-- What a step of the search adds to the log.
use Rattle.std.specs.Prelude.{ℕ, ℤ, ◌≤◌, ◌+◌, List, length}
use Rattle.problem_core.specs.Facts.{Facts}
use Rattle.duality.specs.Packing.{Packing, Weights, Stage, Fixing}
use Rattle.duality.specs.Walk.{fixing_of}
use Rattle.packing_model.specs.Nodes.{stage_at}
use Rattle.exact_num.specs.Arith.{Rose}
use Rattle.search_nodes.specs.Paths.{path_of}
use Rattle.node_bound.specs.Bounds.{Bounds, limit_of}
use Rattle.node_bound.specs.declared.bounded.Bounded.{Bounded}
use Rattle.branch_tree.specs.Growths.{value_of}
use Rattle.branch_tree.specs.Logs.{Beginning, IsLogged, IsStopped, moment, moment_after}
use Rattle.branch_tree.specs.declared.log.Cause.{Cause}
use Rattle.branch_tree.specs.declared.log.Cause.TheVariants.{Gap, Wide, Stalled}
use Rattle.branch_tree.specs.declared.log.Log.{Log}
use Rattle.branch_tree.specs.declared.state.Growth.{Growth}
use Rattle.branch_tree.specs.declared.state.Step.{Step}
use Rattle.branch_tree.specs.declared.state.Step.TheVariants.{On, Proved, Spent}

-- the bound at a node, whatever was counted
pub record IsBounded (p : Facts) (w : Weights) (s : Stage) (f : Fixing) (bounded : Bounded) : Type 0 where
  pub wides : ℕ
  pub wides' : ℕ
  pub steps : ℕ
  pub steps' : ℕ
  pub bounds : Bounds p w s f wides wides' steps steps' bounded

-- why the lowest free pattern is branched
abbrev pub IsLowestCause : Packing → Weights → Stage → Fixing → Cause → Type 0
IsLowestCause k w s f (Gap x) = ⊥
IsLowestCause k w s f (Wide before after) = Rose before after
IsLowestCause k w s f (Stalled pivots) = limit_of k w s f ≤ pivots

-- what a cause took of the counts
abbrev pub Took : Cause → ℕ → ℕ → ℕ → ℕ → Type 0
Took (Gap x) wides wides' steps steps' = Unit {0}
Took (Wide before after) wides wides' steps steps' = (wides ≤ before) × (after ≤ wides')
Took (Stalled pivots) wides wides' steps steps' = steps + pivots ≤ steps'

-- the log behind a step; where the budget is spent it says why
abbrev pub LogsOn : Packing → Weights → ℕ → List ℤ → Beginning → Growth → List (List ℕ) → Log → ℕ → ℕ → Step → Type 0
LogsOn k w level targets b g pool log wides steps On = IsLogged k w level targets b g.nodes pool (value_of g.held) log.units log.cuts (moment wides steps (length pool))
LogsOn k w level targets b g pool log wides steps Proved = IsLogged k w level targets b g.nodes pool (value_of g.held) log.units log.cuts (moment wides steps (length pool))
LogsOn k w level targets b g pool log wides steps Spent =
    (h : IsLogged k w level targets b g.nodes pool (value_of g.held) log.units log.cuts (moment wides steps (length pool)))
    × IsStopped k w (stage_at level targets (value_of g.held) pool) (fixing_of (path_of g.walk.path)) (moment_after b.moment h.mine) (moment wides steps (length pool))

-- whatever it was begun from
pub record Logs (k : Packing) (w : Weights) (level : ℕ) (targets : List ℤ) (g g' : Growth) (pool pool' : List (List ℕ)) (log log' : Log) (wides wides' steps steps' : ℕ) (step : Step) : Type 0 where
  pub on : (b : Beginning) → IsLogged k w level targets b g.nodes pool (value_of g.held) log.units log.cuts (moment wides steps (length pool)) → LogsOn k w level targets b g' pool' log' wides' steps' step
