-- What is known at a node without hints, where a call that stalls spends exactly the pivots of its limit.
use Rattle.std.specs.Prelude.{ℕ, ◌≡◌, ◌+◌, true}
use Rattle.problem_core.specs.Facts.{Facts}
use Rattle.duality.specs.Packing.{Weights, Stage, Fixing}
use Rattle.packing_model.specs.Built.{packing}
use Rattle.search_nodes.specs.Points.{IsGapPoint}
use Rattle.node_bound.specs.Bounds.{Bounds, Decides, has_free, limit_of}
use Rattle.node_bound.specs.declared.bounded.Bounded.{Bounded}
use Rattle.node_bound.specs.declared.bounded.Bounded.TheVariants.{Closed, Better, Gap, Wide, Stalled}

-- it is decided, or a point meets every row
abbrev pub Shows : Facts → Weights → Stage → Fixing → Bounded → Type 0
Shows p w s f (Closed leaf) = Decides p w s f (Closed leaf)
Shows p w s f (Better a) = Decides p w s f (Better a)
Shows p w s f (Gap x) = IsGapPoint (packing p) w s f x
Shows p w s f (Wide before after) = ⊥
Shows p w s f (Stalled pivots) = ⊥

-- where the pivots were spent they are the limit, and the count of steps rose by them
abbrev pub BoundsExactly : Facts → Weights → Stage → Fixing → ℕ → ℕ → ℕ → ℕ → Bounded → Type 0
BoundsExactly p w s f wides wides' steps steps' (Closed leaf) = Bounds p w s f wides wides' steps steps' (Closed leaf)
BoundsExactly p w s f wides wides' steps steps' (Better a) = Bounds p w s f wides wides' steps steps' (Better a)
BoundsExactly p w s f wides wides' steps steps' (Gap x) = Bounds p w s f wides wides' steps steps' (Gap x)
BoundsExactly p w s f wides wides' steps steps' (Wide before after) = Bounds p w s f wides wides' steps steps' (Wide before after)
BoundsExactly p w s f wides wides' steps steps' (Stalled pivots) = (pivots ≡ limit_of (packing p) w s f) × (steps' ≡ steps + pivots) × (has_free (packing p) f ≡ true)

-- the answer, with an earlier count of numbers that did not fit
abbrev pub since : ℕ → Bounded → Bounded
since wides (Closed leaf) = Closed leaf
since wides (Better a) = Better a
since wides (Gap x) = Gap x
since wides (Wide before after) = Wide wides after
since wides (Stalled pivots) = Stalled pivots
