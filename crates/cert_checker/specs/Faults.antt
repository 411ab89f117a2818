-- The first fault of a certificate, in the order of its lines.
use Rattle.std.specs.Prelude.{ℕ, ℤ, pos, ◌+◌, ◌-◌, ◌==◌, ◌&&◌, ◌||◌, nat_lt, Bool, not, if◌then◌else◌, Option, Some, None, List, [], ◌∷◌, length, take, slice_index_or}
use Rattle.std.specs.Option.{option_or}
use Rattle.numbers.specs.Below.{any_below}
use Rattle.problem_core.specs.Facts.{Facts, suits}
use Rattle.problem_core.specs.Choice.{entry, holds}
use Rattle.problem_core.specs.Measures.{measures, differ_at}
use Rattle.meeting_patterns.specs.Pattern.{patterns_of}
use Rattle.duality.specs.declared.leaf.Node.{Node as SearchNode}
use Rattle.duality.specs.declared.leaf.Node.TheVariants.{Branch, Leaf as Closing, OpenEnd, Same}
use Rattle.duality.specs.declared.leaf.LeafFault.{LeafFault}
use Rattle.duality.specs.declared.leaf.LeafFault.TheVariants as faults
use Rattle.duality.specs.Packing.{Packing, Weights, Stage, Fixing, is_free}
use Rattle.duality.specs.Leaf.{leaf_fault}
use Rattle.duality.specs.Tree.{nothing_fixed}
use Rattle.duality.specs.After.{after_node}
use Rattle.packing_model.specs.Built.{rows_of, packing, measured}
use Rattle.packing_model.specs.Cuts.{first_apart}
use Rattle.packing_model.specs.Nodes.{stage_at}
use Rattle.cert_text.specs.declared.lines.Tree.{Tree}
use Rattle.cert_text.specs.declared.lines.Certificate.{Certificate}
use Rattle.cert_text.specs.Grammar.{Opening, opening_of}
use Rattle.cert_checker.specs.declared.verdict.Reason.{Reason}
use Rattle.cert_checker.specs.declared.verdict.Reason.TheVariants as reasons
use Rattle.cert_checker.specs.declared.verdict.Found.{Found}

abbrev pub at_line : ℕ → Option Reason → Option Found
at_line line None = None
at_line line (Some reason) = Some (record { line = line; reason = reason })

-- ---- the lines before the levels

abbrev pub sizes_reason : Facts → ℕ → ℕ → Option Reason
sizes_reason f patterns rows = if (patterns == length (patterns_of f)) && (rows == length (rows_of f)) then None else Some reasons.Model

-- the event has no room, or one that suits it and that no earlier event with a slot in common has
abbrev pub entry_fits : Facts → List ℕ → ℕ → Bool
entry_fits f a e = (entry a e == 0)
    || (nat_lt (entry a e - 1) (length f.capacity) && (suits f e (entry a e - 1) && not (any_below (holds f a e (entry a e)) e)))

abbrev pub is_legal : Facts → List ℕ → Bool
is_legal f a = (length a == length f.events) && not (any_below (λ e. not (entry_fits f a e)) (length a))

abbrev pub choice_reason : Facts → List ℕ → Option Reason
choice_reason f a = if is_legal f a then None else Some reasons.Choice

abbrev pub values_reason : List ℤ → List ℤ → Option Reason
values_reason measures values = if any_below (differ_at values measures) 6 then Some reasons.Values else None

-- the first number that is no pattern
abbrev pub unknown_reason : ℕ → List ℕ → Option Reason
unknown_reason count [] = None
unknown_reason count (p ∷ ps) = if nat_lt p count then unknown_reason count ps else Some (reasons.Pattern p)

abbrev pub apart_reason : Option (ℕ × ℕ) → Option Reason
apart_reason None = None
apart_reason (Some pair) = Some (reasons.Cut pair.0 pair.1)

-- every pattern first, then every pair
abbrev pub cut_reason : Packing → List ℕ → Option Reason
cut_reason k ps = option_or (unknown_reason k.count ps) (apart_reason (first_apart k.clash ps))

abbrev pub cuts_fault : Packing → ℕ → List (List ℕ) → Option Found
cuts_fault k line [] = None
cuts_fault k line (ps ∷ cuts) = option_or (at_line line (cut_reason k ps)) (cuts_fault k (line + 1) cuts)

-- ---- a tree, over the fixings that are still to be proved

abbrev pub branch_reason : Packing → Fixing → ℕ → Option Reason
branch_reason k f p = if nat_lt p k.count then (if is_free k f p then None else Some (reasons.NotFree p)) else Some (reasons.Pattern p)

abbrev pub leaf_reason : Option LeafFault → Option Reason
leaf_reason None = None
leaf_reason (Some (faults.Row at)) = Some reasons.Row
leaf_reason (Some (faults.Sign at)) = Some reasons.Sign
leaf_reason (Some (faults.Cost p)) = Some (reasons.Cost p)
leaf_reason (Some faults.Bound) = Some reasons.Bound

-- a finished tree has no open end; a node that names an earlier leaf is looked at as the leaf
abbrev pub node_reason : Packing → Weights → Stage → Fixing → SearchNode → Option Reason
node_reason k w s f (Branch p) = branch_reason k f p
node_reason k w s f (Closing leaf) = leaf_reason (leaf_fault k w s f leaf)
node_reason k w s f OpenEnd = None
node_reason k w s f (Same leaf) = None

-- the reason at the next node; a whole tree has no node behind its end
abbrev pub next_reason : Packing → Weights → Stage → List Fixing → SearchNode → Option Reason
next_reason k w s [] n = None
next_reason k w s (f ∷ fs) n = node_reason k w s f n

abbrev pub tree_fault : Packing → Weights → Stage → ℕ → List Fixing → List SearchNode → Option Found
tree_fault k w s line fs [] = None
tree_fault k w s line [] (n ∷ ns) = None
tree_fault k w s line (f ∷ fs) (n ∷ ns) = option_or (at_line line (node_reason k w s f n)) (tree_fault k w s (line + 1) (after_node f fs n) ns)

-- ---- the whole

abbrev pub sized_fault : Facts → ℕ → ℕ → Option Found
sized_fault f patterns rows = at_line 2 (sizes_reason f patterns rows)

abbrev pub chosen_fault : Facts → ℕ → ℕ → List ℕ → Option Found
chosen_fault f patterns rows a = option_or (sized_fault f patterns rows) (at_line 3 (choice_reason f a))

abbrev pub valued_fault : Facts → ℕ → ℕ → List ℕ → List ℤ → Option Found
valued_fault f patterns rows a values = option_or (chosen_fault f patterns rows a) (at_line 4 (values_reason (measures f a) values))

abbrev pub opening_fault : Facts → Opening → Option Found
opening_fault f o = option_or (valued_fault f o.patterns o.rows o.choice o.values) (cuts_fault (packing f) 6 o.cuts)

abbrev pub value_at : List ℤ → ℕ → ℤ
value_at values level = slice_index_or values (level - 1) (pos 0)

-- the values below a level are its targets, its own value is what its tree proves
abbrev pub stage_for : Opening → ℕ → Stage
stage_for o level = stage_at level (take (level - 1) o.values) (Some (value_at o.values level)) o.cuts

abbrev pub block_fault : Facts → Opening → ℕ → ℕ → List SearchNode → Option Found
block_fault f o line level nodes = tree_fault (packing f) (measured f) (stage_for o level) line (nothing_fixed ∷ []) nodes

-- line is the number of the line `level`
abbrev pub levels_fault : Facts → Opening → ℕ → ℕ → List Tree → Option Found
levels_fault f o line level [] = None
levels_fault f o line level (t ∷ ts) = option_or (block_fault f o (line + 1) level t.nodes) (levels_fault f o (line + 1 + length t.nodes) (level + 1) ts)

abbrev pub first_level_line : Opening → ℕ
first_level_line o = length o.cuts + 6

abbrev pub between_fault : Facts → Opening → List Tree → Option Found
between_fault f o ts = option_or (opening_fault f o) (levels_fault f o (first_level_line o) 1 ts)

-- the first fault of a certificate without named leaves; what is unfinished has none
abbrev pub fault_of : Facts → Certificate → Option Found
fault_of f c = between_fault f (opening_of c) c.levels
