-- A certificate has no fault exactly where it is valid.
use Rattle.std.proofs.Common.{ℕ, ◌≡◌, ◌<◌, ◌+◌, arith, refl, sym, ◌∙◌, ap, zero, suc, Bool, true, false, not, ◌&&◌, List, [], ◌∷◌, length, inl, inr}
use Rattle.std.specs.Prelude.{pos, Option, Some, None, if◌then◌else◌, nat_lt, int_le, ◌↔◌}
use Rattle.std.specs.Option.{option_or}
use Rattle.std.specs.List.{list_all, list_any}
use Rattle.std.proofs.lemmas.Bool.{true≢false, cases_Bool, and_parts, and_from, not-true}
use Rattle.std.proofs.lemmas.Option.{none-some}
use Rattle.duality.specs.declared.leaf.Leaf.{Leaf}
use Rattle.duality.specs.declared.leaf.LeafFault.{LeafFault}
use Rattle.duality.specs.declared.leaf.LeafFault.TheVariants as faults
use Rattle.duality.specs.declared.leaf.Node.{Node as SearchNode}
use Rattle.duality.specs.declared.leaf.Node.TheVariants.{Branch, Leaf as Closing, OpenEnd, Same}
use Rattle.duality.specs.Packing.{Packing, Weights, Stage, Fixing, is_free}
use Rattle.duality.specs.Leaf.{closes, leaf_fault}
use Rattle.duality.specs.Tree.{can_branch, ends_at, proves_all, proves_level, with_zero, with_one, nothing_fixed}
use Rattle.problem_core.specs.Facts.{Facts}
use Rattle.cert_text.specs.declared.lines.Tree.{Tree}
use Rattle.duality.specs.After.{is_open}
use Rattle.cert_text.specs.Grammar.{Opening, fills, is_closed_tree}
use Rattle.packing_model.specs.Built.{packing, measured}
use Rattle.cert_checker.specs.declared.verdict.Reason.{Reason}
use Rattle.cert_checker.specs.declared.verdict.Reason.TheVariants as reasons
use Rattle.cert_checker.specs.Faults.{at_line, branch_reason, leaf_reason, tree_fault, block_fault, levels_fault, stage_for}
use Rattle.cert_checker.specs.Verdicts.{tree_at}

-- ---- no fault, as a test

abbrev pub clean : {A : Type 0} → Option A → Bool
clean None = true
clean (Some x) = false

pub clean-is : {A : Type 0} (o : Option A) → clean o ≡ true → o ≡ None
clean-is None h = refl
clean-is (Some x) h = absurd (true≢false (sym h))

pub clean-or : {A : Type 0} (a b : Option A) → clean (option_or a b) ≡ (clean a && clean b)
clean-or None b = refl
clean-or (Some x) b = refl

pub clean-at : (line : ℕ) (r : Option Reason) → clean (at_line line r) ≡ clean r
clean-at line None = refl
clean-at line (Some r) = refl

-- what a leaf's law gives
abbrev pub Faultless : Type 0
Faultless = (k : Packing) (w : Weights) (s : Stage) (f : Fixing) (leaf : Leaf) → leaf_fault k w s f leaf ≡ None ↔ closes k w s f leaf ≡ true

reason_some : (x : LeafFault) → clean (leaf_reason (Some x)) ≡ false
reason_some (faults.Row at) = refl
reason_some (faults.Sign at) = refl
reason_some (faults.Cost p) = refl
reason_some faults.Bound = refl

pub leaf_clean : Faultless → (k : Packing) (w : Weights) (s : Stage) (f : Fixing) (leaf : Leaf) → clean (leaf_reason (leaf_fault k w s f leaf)) ≡ closes k w s f leaf
leaf_clean law k w s f leaf = go (leaf_fault k w s f leaf) (closes k w s f leaf) (law k w s f leaf)
  where
    go : (o : Option LeafFault) (b : Bool) → (o ≡ None ↔ b ≡ true) → clean (leaf_reason o) ≡ b
    go None b h = sym (h.0 refl)
    go (Some x) b h = elim (cases_Bool b) [
      | inl t ↦ absurd (none-some x (sym (h.1 t)))
      | inr t ↦ reason_some x ∙ sym t
    ]

pub branch_clean : (k : Packing) (f : Fixing) (p : ℕ) → clean (branch_reason k f p) ≡ can_branch k f p
branch_clean k f p = go (nat_lt p k.count) (is_free k f p)
  where
    go : (a b : Bool) → clean (if a then (if b then None else Some (reasons.NotFree p)) else Some (reasons.Pattern p)) ≡ (a && b)
    go true true = refl
    go true false = refl
    go false b = refl

-- ---- a tree

abbrev pub is_natural : SearchNode → Bool
is_natural (Branch p) = true
is_natural (Closing leaf) = int_le (pos 0) leaf.scale
is_natural OpenEnd = true
is_natural (Same leaf) = false

-- over a whole tree without an open end
tree_clean : Faultless → (k : Packing) (w : Weights) (s : Stage) (ns : List SearchNode) (line : ℕ) (f : Fixing) (fs : List Fixing)
    → fills (length fs) ns ≡ true → list_any is_open ns ≡ false → list_all is_natural ns ≡ true → clean (tree_fault k w s line (f ∷ fs) ns) ≡ proves_all k w s (f ∷ fs) ns
tree_clean law k w s [] line f fs h o n = absurd (true≢false (sym h))
tree_clean law k w s (Branch p ∷ ns) line f fs h o n =
    clean-or (at_line line (branch_reason k f p)) _
    ∙ ap (λ b. b && clean (tree_fault k w s (line + 1) (with_zero p f ∷ (with_one p f ∷ fs)) ns)) (clean-at line (branch_reason k f p) ∙ branch_clean k f p)
    ∙ ap (λ b. can_branch k f p && b) (tree_clean law k w s ns (line + 1) (with_zero p f) (with_one p f ∷ fs) h o n)
tree_clean law k w s (Closing leaf ∷ []) line f [] h o n =
    let parts = and_parts (int_le (pos 0) leaf.scale) true n in
    clean-or (at_line line (leaf_reason (leaf_fault k w s f leaf))) None
    ∙ ap (λ b. b && true) (clean-at line (leaf_reason (leaf_fault k w s f leaf)) ∙ leaf_clean law k w s f leaf)
    ∙ ap (λ b. (b && closes k w s f leaf) && true) (sym parts.0)
tree_clean law k w s (Closing leaf ∷ (m ∷ ns)) line f [] h o n = absurd (true≢false (sym h))
tree_clean law k w s (Closing leaf ∷ ns) line f (g ∷ fs) h o n =
    let parts = and_parts (int_le (pos 0) leaf.scale) (list_all is_natural ns) n in
    clean-or (at_line line (leaf_reason (leaf_fault k w s f leaf))) _
    ∙ ap (λ b. b && clean (tree_fault k w s (line + 1) (g ∷ fs) ns)) (clean-at line (leaf_reason (leaf_fault k w s f leaf)) ∙ leaf_clean law k w s f leaf)
    ∙ ap (λ b. (b && closes k w s f leaf) && clean (tree_fault k w s (line + 1) (g ∷ fs) ns)) (sym parts.0)
    ∙ ap (λ b. ends_at k w s f leaf && b) (tree_clean law k w s ns (line + 1) g fs h o parts.1)
tree_clean law k w s (OpenEnd ∷ ns) line f fs h o n = absurd (true≢false o)
tree_clean law k w s (Same leaf ∷ ns) line f fs h o n = absurd (true≢false (sym n))

-- ---- the levels

-- the trees are whole, closed, and their leaves' scales natural
abbrev pub is_sound_tree : Tree → Bool
is_sound_tree t = is_closed_tree t && list_all is_natural t.nodes

block_clean : Faultless → (f : Facts) (o : Opening) (line level : ℕ) (t : Tree) → is_sound_tree t ≡ true
    → clean (block_fault f o line level t.nodes) ≡ proves_level (packing f) (measured f) (stage_for o level) t.nodes
block_clean law f o line level t h =
    let sound = and_parts (is_closed_tree t) (list_all is_natural t.nodes) h in
    let tree = and_parts (fills 0 t.nodes) (not (list_any is_open t.nodes)) sound.0 in
    tree_clean law (packing f) (measured f) (stage_for o level) t.nodes line nothing_fixed [] tree.0 (not-true (list_any is_open t.nodes) tree.1) sound.1

-- every tree proves its level, the first of them the level that is given
abbrev pub all_prove : Facts → Opening → ℕ → List Tree → Bool
all_prove f o level [] = true
all_prove f o level (t ∷ ts) = proves_level (packing f) (measured f) (stage_for o level) t.nodes && all_prove f o (level + 1) ts

pub levels_clean : Faultless → (f : Facts) (o : Opening) (ts : List Tree) (line level : ℕ) → list_all is_sound_tree ts ≡ true → clean (levels_fault f o line level ts) ≡ all_prove f o level ts
levels_clean law f o [] line level h = refl
levels_clean law f o (t ∷ ts) line level h =
    let parts = and_parts (is_sound_tree t) (list_all is_sound_tree ts) h in
    clean-or (block_fault f o (line + 1) level t.nodes) _
    ∙ ap (λ b. b && clean (levels_fault f o (line + 1 + length t.nodes) (level + 1) ts)) (block_clean law f o (line + 1) level t parts.0)
    ∙ ap (λ b. proves_level (packing f) (measured f) (stage_for o level) t.nodes && b) (levels_clean law f o ts (line + 1 + length t.nodes) (level + 1) parts.1)

pub prove_at : (f : Facts) (o : Opening) (ts : List Tree) (level i : ℕ) → all_prove f o level ts ≡ true → i < length ts → proves_level (packing f) (measured f) (stage_for o (level + i)) (tree_at ts i).nodes ≡ true
prove_at f o [] level i h l = absurd (omega arith)
prove_at f o (t ∷ ts) level zero h l =
    let same : level + 0 ≡ level = omega arith in
    ap (λ j. proves_level (packing f) (measured f) (stage_for o j) t.nodes) same ∙ (and_parts _ (all_prove f o (level + 1) ts) h).0
prove_at f o (t ∷ ts) level (suc i) h l =
    let same : level + suc i ≡ level + 1 + i = omega arith in
    ap (λ j. proves_level (packing f) (measured f) (stage_for o j) (tree_at ts i).nodes) same
    ∙ prove_at f o ts (level + 1) i (and_parts (proves_level (packing f) (measured f) (stage_for o level) t.nodes) (all_prove f o (level + 1) ts) h).1 (omega arith)

pub from_each : (f : Facts) (o : Opening) (ts : List Tree) (level : ℕ) → ((i : ℕ) → i < length ts → proves_level (packing f) (measured f) (stage_for o (level + i)) (tree_at ts i).nodes ≡ true) → all_prove f o level ts ≡ true
from_each f o [] level h = refl
from_each f o (t ∷ ts) level h =
    let same : level + 0 ≡ level = omega arith in
    and_from (proves_level (packing f) (measured f) (stage_for o level) t.nodes) (all_prove f o (level + 1) ts)
    (ap (λ j. proves_level (packing f) (measured f) (stage_for o j) t.nodes) (sym same) ∙ h 0 (omega arith))
    (from_each f o ts (level + 1) (λ i l. let next : level + 1 + i ≡ level + suc i = omega arith in ap (λ j. proves_level (packing f) (measured f) (stage_for o j) (tree_at ts i).nodes) next ∙ h (suc i) (omega arith)))
