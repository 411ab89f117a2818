-- The log of a tree's branches and cuts: each with its cause, in order.
use Rattle.std.specs.Prelude.{ℕ, ℤ, ◌≡◌, ◌≤◌, ◌<◌, ◌+◌, ◌<ℤ◌, ◌⊎◌, suc, true, Option, Some, List, [], ◌∷◌, ◌++◌, map, length, take, slice_index_or}
use Rattle.std.specs.List.{All}
use Rattle.numbers.specs.Below.{first_from}
use Rattle.duality.specs.declared.leaf.Node.{Node}
use Rattle.duality.specs.declared.leaf.Node.TheVariants.{Branch, Leaf as Closing, OpenEnd, Same}
use Rattle.duality.specs.Packing.{Packing, Weights, Stage, Fixing, is_free}
use Rattle.duality.specs.Tree.{can_branch}
use Rattle.packing_model.specs.declared.point.Point.{Point}
use Rattle.packing_model.specs.Nodes.{stage_at}
use Rattle.exact_num.specs.Arith.{Rose}
use Rattle.duality.specs.Stages.{IsUp}
use Rattle.duality.specs.After.{fixing_at}
use Rattle.search_nodes.specs.Points.{IsGapPoint}
use Rattle.clique_cuts.specs.Separation.{KeepsTriples, given}
use Rattle.node_bound.specs.Bounds.{limit_of}
use Rattle.branch_tree.specs.Fractions.{lowest_fractional}
use Rattle.branch_tree.specs.declared.log.Cause.{Cause}
use Rattle.branch_tree.specs.declared.log.Cause.TheVariants.{Gap, Wide, Stalled}
use Rattle.branch_tree.specs.declared.log.Unit.{Unit as BranchUnit}
use Rattle.branch_tree.specs.declared.log.CutNote.{CutNote}

-- ---- one branch, one cut

-- why the pattern was branched at a node of the stage
abbrev pub IsCaused : Packing → Weights → Stage → Fixing → ℕ → Cause → Type 0
IsCaused k w s f p (Gap x) = IsGapPoint k w s f x × (KeepsTriples k x ⊎ (length s.cuts ≡ 1000)) × (lowest_fractional x.den x.entries ≡ Some p)
IsCaused k w s f p (Wide before after) = Rose before after × (first_from (is_free k f) 0 k.count ≡ p + 1)
IsCaused k w s f p (Stalled pivots) = (limit_of k w s f ≤ pivots) × (first_from (is_free k f) 0 k.count ≡ p + 1)

-- the branch is lawful in the tree, with the first cuts of the pool
pub record IsLawfulUnit (k : Packing) (w : Weights) (level : ℕ) (targets : List ℤ) (nodes : List Node) (pool : List (List ℕ)) (u : BranchUnit) : Type 0 where
  pub level_is : u.level ≡ level
  pub inside : u.node ≤ length nodes
  pub few : u.cuts ≤ length pool
  pub fixing : Fixing
  pub at : fixing_at nodes u.node ≡ Some fixing
  pub free : can_branch k fixing u.pattern ≡ true
  pub cause : IsCaused k w (stage_at level targets u.value (take u.cuts pool)) fixing u.pattern u.cause

-- the point of the note is one at its node, with the cuts before, and the cut is one that it breaks
pub record IsLawfulNote (k : Packing) (w : Weights) (level : ℕ) (targets : List ℤ) (nodes : List Node) (pool : List (List ℕ)) (i : ℕ) (note : CutNote) : Type 0 where
  pub level_is : note.level ≡ level
  pub inside : note.node ≤ length nodes
  pub few : i < length pool
  pub fixing : Fixing
  pub at : fixing_at nodes note.node ≡ Some fixing
  pub gap : IsGapPoint k w (stage_at level targets note.value (take i pool)) fixing note.point
  pub broken : note.point.den <ℤ given note.point (slice_index_or pool i [])

-- ---- all of them, in order

-- the places and patterns of the branches, from place i on
abbrev pub branches_from : ℕ → List Node → List (ℕ × ℕ)
branches_from i [] = []
branches_from i (Branch p ∷ ns) = (i, p) ∷ branches_from (suc i) ns
branches_from i (Closing leaf ∷ ns) = branches_from (suc i) ns
branches_from i (OpenEnd ∷ ns) = branches_from (suc i) ns
branches_from i (Same leaf ∷ ns) = branches_from (suc i) ns

abbrev pub place_of : BranchUnit → ℕ × ℕ
place_of u = (u.node, u.pattern)

-- counts at one moment: refusals of the arithmetic, steps of the ledger, cuts of the pool
pub record Moment : Type 0 where
  pub wides : ℕ
  pub steps : ℕ
  pub cuts : ℕ

pub record IsLater (m n : Moment) : Type 0 where
  pub wides : m.wides ≤ n.wides
  pub steps : m.steps ≤ n.steps
  pub cuts : m.cuts ≤ n.cuts

abbrev pub wides_at : ℕ → Cause → ℕ
wides_at n (Wide before after) = before
wides_at n (Gap x) = n
wides_at n (Stalled pivots) = n

abbrev pub wides_past : ℕ → Cause → ℕ
wides_past n (Wide before after) = after
wides_past n (Gap x) = n
wides_past n (Stalled pivots) = n

abbrev pub pivots_of : Cause → ℕ
pivots_of (Stalled pivots) = pivots
pivots_of (Wide before after) = 0
pivots_of (Gap x) = 0

-- the moment before and behind a branch, where what it doesn't tell is as it was
abbrev pub start_of : Moment → BranchUnit → Moment
start_of m u = record { wides = wides_at m.wides u.cause; steps = m.steps; cuts = u.cuts }

abbrev pub end_of : Moment → BranchUnit → Moment
end_of m u = record { wides = wides_past m.wides u.cause; steps = m.steps + pivots_of u.cause; cuts = u.cuts }

abbrev pub moment_after : Moment → List BranchUnit → Moment
moment_after m [] = m
moment_after m (u ∷ us) = moment_after (end_of m u) us

-- the branches lie one after the other between two moments
abbrev pub Passes : Moment → List BranchUnit → Moment → Type 0
Passes m [] n = IsLater m n
Passes m (u ∷ us) n = IsLater m (start_of m u) × Passes (end_of m u) us n

-- the values don't fall
abbrev pub Climbs : Option ℤ → List (Option ℤ) → Option ℤ → Type 0
Climbs v [] x = IsUp v x
Climbs v (y ∷ ys) x = IsUp v y × Climbs y ys x

abbrev pub value_at_unit : BranchUnit → Option ℤ
value_at_unit u = u.value

abbrev pub value_at_note : CutNote → Option ℤ
value_at_note n = n.value

-- where a log was begun: the counts, the value held, and what stood in it
pub record Beginning : Type 0 where
  pub moment : Moment
  pub value : Option ℤ
  pub units : List BranchUnit
  pub notes : List CutNote

-- what the log says of the nodes and cuts since then
pub record IsLogged (k : Packing) (w : Weights) (level : ℕ) (targets : List ℤ) (b : Beginning) (nodes : List Node) (pool : List (List ℕ)) (value : Option ℤ) (units : List BranchUnit) (notes : List CutNote) (m : Moment) : Type 0 where
  pub mine : List BranchUnit
  pub units_are : units ≡ b.units ++ mine
  pub places : map place_of mine ≡ branches_from 0 nodes
  pub lawful : All (IsLawfulUnit k w level targets nodes pool) mine
  pub passes : Passes b.moment mine m
  pub climbs : Climbs b.value (map value_at_unit mine) value
  pub cuts_are : m.cuts ≡ length pool
  pub noted : List CutNote
  pub notes_are : notes ≡ b.notes ++ noted
  pub each_cut : length noted + b.moment.cuts ≡ length pool
  pub lawful_notes : (i : ℕ) (d : CutNote) → i < length noted → IsLawfulNote k w level targets nodes pool (b.moment.cuts + i) (slice_index_or noted i d)
  pub notes_climb : Climbs b.value (map value_at_note noted) value

-- why the search stopped at a node: a point that no leaf passes by, or the count of refusals rose since the last
-- branch that it made, or the ledger rose by the limit of the node beyond what the branches took
abbrev pub IsStopped : Packing → Weights → Stage → Fixing → Moment → Moment → Type 0
IsStopped k w s f last now =
    ((x : Point) × IsGapPoint k w s f x × (KeepsTriples k x ⊎ (length s.cuts ≡ 1000)))
    ⊎ (Rose last.wides now.wides ⊎ (last.steps + limit_of k w s f ≤ now.steps))

abbrev pub moment : ℕ → ℕ → ℕ → Moment
moment wides steps cuts = record { wides = wides; steps = steps; cuts = cuts }
