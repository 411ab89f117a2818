-- Nodes that are right one after the other and leave nothing to be proved fill their part.
use Rattle.std.proofs.Common.{◌≡◌, arith, sym, refl, ap, true, List, [], ◌∷◌, length}
use Rattle.std.proofs.lemmas.Bool.{and_parts, true≢false}
use Rattle.duality.specs.declared.leaf.Node.{Node}
use Rattle.duality.specs.declared.leaf.Node.TheVariants.{Branch, Leaf as Closing, OpenEnd, Same}
use Rattle.duality.specs.Packing.{Packing, Weights, Stage, Fixing}
use Rattle.duality.specs.Tree.{with_zero, with_one, can_branch, ends_at}
use Rattle.duality.specs.After.{after, are_right}
use Rattle.cert_text.specs.Grammar.{fills}

nothing_right : (k : Packing) (w : Weights) (s : Stage) (ns : List Node) → are_right k w s [] ns ≡ true → ns ≡ []
nothing_right k w s [] h = refl
nothing_right k w s (n ∷ ns) h = absurd (true≢false (sym h))

pub tree_fills : (k : Packing) (w : Weights) (s : Stage) (f : Fixing) (fs : List Fixing) (ns : List Node) → are_right k w s (f ∷ fs) ns ≡ true → after (f ∷ fs) ns ≡ [] → fills (length fs) ns ≡ true
tree_fills k w s f fs [] h e = absurd (let n : length (f ∷ fs) ≡ 0 = ap length e in omega arith)
tree_fills k w s f fs (Branch p ∷ ns) h e = tree_fills k w s (with_zero p f) (with_one p f ∷ fs) ns (and_parts (can_branch k f p) (are_right k w s (with_zero p f ∷ with_one p f ∷ fs) ns) h).1 e
tree_fills k w s f [] (Closing leaf ∷ ns) h e = let none = nothing_right k w s ns (and_parts (ends_at k w s f leaf) (are_right k w s [] ns) h).1 in rw none refl
tree_fills k w s f (g ∷ fs) (Closing leaf ∷ ns) h e = tree_fills k w s g fs ns (and_parts (ends_at k w s f leaf) (are_right k w s (g ∷ fs) ns) h).1 e
tree_fills k w s f [] (OpenEnd ∷ ns) h e = let none = nothing_right k w s ns h in rw none refl
tree_fills k w s f (g ∷ fs) (OpenEnd ∷ ns) h e = tree_fills k w s g fs ns h e
tree_fills k w s f fs (Same leaf ∷ ns) h e = absurd (true≢false (sym h))
