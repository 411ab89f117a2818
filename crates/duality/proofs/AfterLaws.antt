-- Nodes one after the other.
use Rattle.std.proofs.Common.{◌≡◌, ◌+◌, ◌*◌, arith, refl, sym, ◌∙◌, ap, Bool, true, false, ◌&&◌, List, [], ◌∷◌, ◌++◌, length}
use Rattle.std.specs.List.{list_any}
use Rattle.std.proofs.lemmas.Bool.{and_parts, and_from, true≢false}
use Rattle.duality.specs.declared.leaf.Node.{Node}
use Rattle.duality.specs.declared.leaf.Node.TheVariants.{Branch, Leaf as Closing, OpenEnd, Same}
use Rattle.duality.specs.Packing.{Packing, Weights, Stage, Fixing}
use Rattle.duality.specs.Tree.{with_zero, with_one, nothing_fixed, can_branch, ends_at, proves_all, proves_level}
use Rattle.duality.specs.Stages.{Rises}
use Rattle.duality.specs.After.{after_node, after, is_right, are_right, is_open}
use Rattle.duality.specs.Units.{branch_count}
use Rattle.duality.proofs.StageLaws.{ends_rise}

nothing_left : (ns : List Node) → after [] ns ≡ []
nothing_left [] = refl
nothing_left (n ∷ ns) = refl

pub after_append : (fs : List Fixing) (ns ms : List Node) → after fs (ns ++ ms) ≡ after (after fs ns) ms
after_append fs [] ms = refl
after_append [] (n ∷ ns) ms = sym (nothing_left ms)
after_append (f ∷ fs) (n ∷ ns) ms = after_append (after_node f fs n) ns ms

and_assoc : (a b c : Bool) → (a && (b && c)) ≡ ((a && b) && c)
and_assoc true b c = refl
and_assoc false b c = refl

pub right_append : (k : Packing) (w : Weights) (s : Stage) (fs : List Fixing) (ns ms : List Node) → are_right k w s fs (ns ++ ms) ≡ (are_right k w s fs ns && are_right k w s (after fs ns) ms)
right_append k w s fs [] ms = refl
right_append k w s [] (n ∷ ns) ms = refl
right_append k w s (f ∷ fs) (n ∷ ns) ms =
    ap (λ b. is_right k w s f n && b) (right_append k w s (after_node f fs n) ns ms)
    ∙ and_assoc (is_right k w s f n) (are_right k w s (after_node f fs n) ns) (are_right k w s (after (after_node f fs n) ns) ms)

right_rises : (k : Packing) (w : Weights) (s t : Stage) → Rises s t → (f : Fixing) (n : Node) → is_right k w s f n ≡ true → is_right k w t f n ≡ true
right_rises k w s t h f (Branch p) e = e
right_rises k w s t h f (Closing leaf) e = ends_rise k w s t h f leaf e
right_rises k w s t h f OpenEnd e = refl
right_rises k w s t h f (Same leaf) e = e

pub all_right_rise : (k : Packing) (w : Weights) (s t : Stage) (fs : List Fixing) (ns : List Node) → Rises s t → are_right k w s fs ns ≡ true → are_right k w t fs ns ≡ true
all_right_rise k w s t fs [] h e = refl
all_right_rise k w s t [] (n ∷ ns) h e = e
all_right_rise k w s t (f ∷ fs) (n ∷ ns) h e =
    let parts = and_parts (is_right k w s f n) (are_right k w s (after_node f fs n) ns) e in
    and_from (is_right k w t f n) (are_right k w t (after_node f fs n) ns) (right_rises k w s t h f n parts.0) (all_right_rise k w s t (after_node f fs n) ns h parts.1)

pub right_proves : (k : Packing) (w : Weights) (s : Stage) (fs : List Fixing) (ns : List Node) → are_right k w s fs ns ≡ true → list_any is_open ns ≡ false → after fs ns ≡ [] → proves_all k w s fs ns ≡ true
right_proves k w s [] [] e o l = refl
right_proves k w s (f ∷ fs) [] e o l = absurd (cc)
right_proves k w s [] (n ∷ ns) e o l = e
right_proves k w s (f ∷ fs) (Branch p ∷ ns) e o l =
    let parts = and_parts (can_branch k f p) (are_right k w s (with_zero p f ∷ with_one p f ∷ fs) ns) e in
    and_from (can_branch k f p) (proves_all k w s (with_zero p f ∷ with_one p f ∷ fs) ns) parts.0 (right_proves k w s (with_zero p f ∷ with_one p f ∷ fs) ns parts.1 o l)
right_proves k w s (f ∷ fs) (Closing leaf ∷ ns) e o l =
    let parts = and_parts (ends_at k w s f leaf) (are_right k w s fs ns) e in
    and_from (ends_at k w s f leaf) (proves_all k w s fs ns) parts.0 (right_proves k w s fs ns parts.1 o l)
right_proves k w s (f ∷ fs) (OpenEnd ∷ ns) e o l = absurd (true≢false o)
right_proves k w s (f ∷ fs) (Same leaf ∷ ns) e o l = e

pub right_sizes : (k : Packing) (w : Weights) (s : Stage) (fs : List Fixing) (ns : List Node) → are_right k w s fs ns ≡ true → length ns + length (after fs ns) ≡ 2 * branch_count ns + length fs
right_sizes k w s fs [] e = refl
right_sizes k w s [] (n ∷ ns) e = absurd (true≢false (sym e))
right_sizes k w s (f ∷ fs) (Branch p ∷ ns) e =
    let parts = and_parts (can_branch k f p) (are_right k w s (with_zero p f ∷ with_one p f ∷ fs) ns) e in
    omega (arith, right_sizes k w s (with_zero p f ∷ with_one p f ∷ fs) ns parts.1)
right_sizes k w s (f ∷ fs) (Closing leaf ∷ ns) e =
    let parts = and_parts (ends_at k w s f leaf) (are_right k w s fs ns) e in
    omega (arith, right_sizes k w s fs ns parts.1)
right_sizes k w s (f ∷ fs) (OpenEnd ∷ ns) e = omega (arith, right_sizes k w s fs ns e)
right_sizes k w s (f ∷ fs) (Same leaf ∷ ns) e = absurd (true≢false (sym e))

-- nodes that prove are right, leave nothing and have no open end
record AreWhole (k : Packing) (w : Weights) (s : Stage) (fs : List Fixing) (ns : List Node) : Type 0 where
  pub right : are_right k w s fs ns ≡ true
  pub closed : list_any is_open ns ≡ false
  pub nothing : after fs ns ≡ []

proving_whole : (k : Packing) (w : Weights) (s : Stage) (fs : List Fixing) (ns : List Node) → proves_all k w s fs ns ≡ true → AreWhole k w s fs ns
proving_whole k w s [] [] e = record { right = refl; closed = refl; nothing = refl }
proving_whole k w s (f ∷ fs) [] e = absurd (true≢false (sym e))
proving_whole k w s [] (n ∷ ns) e = absurd (true≢false (sym e))
proving_whole k w s (f ∷ fs) (Branch p ∷ ns) e =
    let parts = and_parts (can_branch k f p) (proves_all k w s (with_zero p f ∷ with_one p f ∷ fs) ns) e in
    let rest = proving_whole k w s (with_zero p f ∷ with_one p f ∷ fs) ns parts.1 in
    record { right = and_from (can_branch k f p) (are_right k w s (with_zero p f ∷ with_one p f ∷ fs) ns) parts.0 rest.right; closed = rest.closed; nothing = rest.nothing }
proving_whole k w s (f ∷ fs) (Closing leaf ∷ ns) e =
    let parts = and_parts (ends_at k w s f leaf) (proves_all k w s fs ns) e in
    let rest = proving_whole k w s fs ns parts.1 in
    record { right = and_from (ends_at k w s f leaf) (are_right k w s fs ns) parts.0 rest.right; closed = rest.closed; nothing = rest.nothing }
proving_whole k w s (f ∷ fs) (OpenEnd ∷ ns) e = absurd (true≢false (sym e))
proving_whole k w s (f ∷ fs) (Same leaf ∷ ns) e = absurd (true≢false (sym e))

-- a tree that proves its level still proves it where the value rises and cuts are added
pub proves_rise : (k : Packing) (w : Weights) (s t : Stage) (ns : List Node) → Rises s t → proves_level k w s ns ≡ true → proves_level k w t ns ≡ true
proves_rise k w s t ns h e =
    let whole = proving_whole k w s (nothing_fixed ∷ []) ns e in
    right_proves k w t (nothing_fixed ∷ []) ns (all_right_rise k w s t (nothing_fixed ∷ []) ns h whole.right) whole.closed whole.nothing
