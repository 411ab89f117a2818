-- What is known at a node of a search.
use Rattle.std.specs.Prelude.{ℕ, ℤ, ◌≡◌, ◌≤◌, ◌<ℤ◌, ◌+◌, ◌-◌, ◌*◌, ◌^◌, Bool, true, Option, is_some, if◌then◌else◌, List, length}
use Rattle.numbers.specs.Below.{any_below}
use Rattle.problem_core.specs.Facts.{Facts}
use Rattle.problem_core.specs.Choice.{IsLegal}
use Rattle.problem_core.specs.Measures.{measure}
use Rattle.exact_num.specs.Arith.{Rose}
use Rattle.meeting_patterns.specs.Pattern.{patterns_of}
use Rattle.duality.specs.Sums.{IsWithin}
use Rattle.packing_model.specs.Nodes.{AreTargets}
use Rattle.duality.specs.Packing.{Packing, Weights, Stage, Fixing, is_free}
use Rattle.duality.specs.Tree.{ends_at}
use Rattle.duality.specs.Units.{free_count}
use Rattle.packing_model.specs.Built.{packing}
use Rattle.packing_model.specs.Closing.{HasTargets}
use Rattle.search_nodes.specs.Points.{IsGapPoint}
use Rattle.search_nodes.specs.Leaves.{IsFineLeaf}
use Rattle.search_nodes.specs.Choices.{IsHeld, IsMore, weighs}
use Rattle.node_bound.specs.declared.bounded.Bounded.{Bounded}
use Rattle.node_bound.specs.declared.bounded.Bounded.TheVariants.{Closed, Better, Gap, Wide, Stalled}

abbrev pub has_free : Packing → Fixing → Bool
has_free k f = any_below (is_free k f) k.count

-- a leaf inside the bounds of certificates that closes, or a better choice
abbrev pub Decides : Facts → Weights → Stage → Fixing → Bounded → Type 0
Decides p w s f (Closed leaf) = (ends_at (packing p) w s f leaf ≡ true) × IsFineLeaf leaf
Decides p w s f (Better a) = IsHeld p w s.level s.targets a.entries × IsMore s.best (weighs p w s.level a.entries)
Decides p w s f bounded = ⊥

-- a better choice in words of the measures
abbrev pub IsBetterChoice : Facts → ℕ → List ℤ → ℤ → Bounded → Type 0
IsBetterChoice p level targets best (Better a) = IsLegal p a.entries × HasTargets p level targets a.entries × (best <ℤ measure p level a.entries)
IsBetterChoice p level targets best bounded = Unit {0}

-- A node's level with its targets, over an objective of so many patterns and levels at which a legal choice
-- weighs at most 10^12 in size.
pub record IsLevelAt (p : Facts) (w : Weights) (count levels level : ℕ) (targets : List ℤ) : Type 0 where
  pub counted : count ≡ length (patterns_of p)
  pub high : level ≤ levels
  pub targets_are : AreTargets level targets
  pub small : (a : List ℕ) → IsLegal p a → IsWithin (10 ^ 12) (weighs p w level a)

-- ---- where patterns are free

abbrev pub floor_rows : Option ((ℕ → ℤ) × ℤ) → ℕ
floor_rows floor = if is_some floor then 1 else 0

-- the pivots that may be spent on the linear program of a node: its rows, and its free patterns as columns
abbrev pub limit_of : Packing → Weights → Stage → Fixing → ℕ
limit_of k w s f = 20 * (k.base_len + length s.cuts + (s.level - 1) + floor_rows w.floor + free_count k f) + 1000

-- Either it is decided; or a point meets every row, or a number did not fit, or the pivots were spent. The
-- counts of numbers that did not fit and of steps are those before and after.
abbrev pub Bounds : Facts → Weights → Stage → Fixing → ℕ → ℕ → ℕ → ℕ → Bounded → Type 0
Bounds p w s f wides wides' steps steps' (Closed leaf) = Decides p w s f (Closed leaf)
Bounds p w s f wides wides' steps steps' (Better a) = Decides p w s f (Better a)
Bounds p w s f wides wides' steps steps' (Gap x) = IsGapPoint (packing p) w s f x
Bounds p w s f wides wides' steps steps' (Wide before after) = (before ≡ wides) × (after ≡ wides') × Rose before after × (has_free (packing p) f ≡ true)
Bounds p w s f wides wides' steps steps' (Stalled pivots) = (limit_of (packing p) w s f ≤ pivots) × (steps + pivots ≤ steps') × (has_free (packing p) f ≡ true)
