-- What decides a node bounds it.
use Rattle.std.proofs.Common.{ℕ}
use Rattle.problem_core.specs.Facts.{Facts}
use Rattle.duality.specs.Packing.{Weights, Stage, Fixing}
use Rattle.node_bound.specs.Bounds.{Decides, Bounds}
use Rattle.node_bound.specs.declared.bounded.Bounded.{Bounded}
use Rattle.node_bound.specs.declared.bounded.Bounded.TheVariants.{Closed, Better, Gap, Wide, Stalled}

pub decided_bounds : (p : Facts) (w : Weights) (s : Stage) (f : Fixing) (wides wides' steps steps' : ℕ) (bounded : Bounded) → Decides p w s f bounded → Bounds p w s f wides wides' steps steps' bounded
decided_bounds p w s f wides wides' steps steps' (Closed leaf) h = h
decided_bounds p w s f wides wides' steps steps' (Better a) h = h
decided_bounds p w s f wides wides' steps steps' (Gap x) h = absurd h
decided_bounds p w s f wides wides' steps steps' (Wide before after) h = absurd h
decided_bounds p w s f wides wides' steps steps' (Stalled pivots) h = absurd h
