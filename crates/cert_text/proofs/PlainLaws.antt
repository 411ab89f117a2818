-- What the lines of a certificate mean are the lines of its plain form.
use Rattle.std.proofs.Common.{ℕ, ◌≡◌, ◌<◌, arith, refl, sym, ◌∙◌, ap, Bool, true, cond, List, [], ◌∷◌, ◌++◌, append_assoc, map, length, ◌+◌, inl, inr, zero, suc, false}
use Rattle.std.specs.Prelude.{◌==◌, nat_lt, Option, Some, None, is_some, slice_get}
use Rattle.std.specs.Option.{unwrap_or}
use Rattle.std.specs.List.{list_all}
use Rattle.std.proofs.lemmas.Bool.{and_parts, and_from, true≢false, ltb-true}
use Rattle.std.proofs.lemmas.Option.{same_Some, none-some, cond_some, slice_get-map}
use Rattle.std.proofs.lemmas.List.{map-append, length-map}
use Rattle.std.proofs.lemmas.List.Folds.{list_all-append}
use Rattle.duality.specs.declared.leaf.Leaf.{Leaf}
use Rattle.duality.specs.declared.leaf.Node.{Node as SearchNode}
use Rattle.duality.specs.declared.leaf.Node.TheVariants.{Branch, Leaf as Closing, OpenEnd, Same}
use Rattle.cert_text.specs.declared.lines.Tree.{Tree}
use Rattle.cert_text.specs.declared.lines.Certificate.{Certificate}
use Rattle.cert_text.specs.declared.lines.CertLine.{CertLine}
use Rattle.cert_text.specs.declared.lines.CertLine.TheVariants.{Head, Sizes, Choice, Values, Cuts, Cut, Level, Unfinished, Node, End}
use Rattle.cert_text.specs.declared.named.Named.{Named}
use Rattle.cert_text.specs.Spelling.{in_bounds, line_of, leaf_in_bounds}
use Rattle.cert_text.specs.Grammar.{lines_of, blocks, open_block, is_shaped, is_writable}
use Rattle.cert_text.specs.Sharing.{leaf_text, has_line, none_named, named, all_named, leaf_in, leaf_node, named_node, meant_node, meant, is_plain, named_behind, plain_lines, is_leaf_line, are_leaf_lines, plain_node, plain_same, leaves_after, plain_nodes, leaves_behind, plain_trees, plain_last}
use Rattle.cert_text.proofs.SpellingLaws.{line_of-reads, line_of-is}
use Rattle.cert_text.proofs.TextLaws.{writable_is}
use Rattle.cert_text.proofs.ShareLaws.{one_is, none_last, last_named, plain_same_trees, plain_same_last, plain_trees_right, one_or_two, names_of, bounds_are, blocks_bounded, open_bounded, at_bounds, named_two, no_names, none_in, nodes_named, trees_named, nodes_bounded, trees_bounded, last_bounded, plain_right, plain_shaped, plain_count, then_is, some_at}

-- ---- leaf lines

leaf_line : (leaf : Leaf) → leaf_in_bounds leaf ≡ true → leaf_in (line_of (leaf_text leaf)) ≡ Some leaf
leaf_line leaf h = ap leaf_in (line_of-reads (Node (Closing leaf)) h)

-- what a leaf line spells is in its bounds
pub leaf_line_bounds : (line : List ℕ) (leaf : Leaf) → leaf_in (line_of line) ≡ Some leaf → leaf_in_bounds leaf ≡ true
leaf_line_bounds line leaf h = go (line_of line) refl h
  where
    go : (o : Option CertLine) → line_of line ≡ o → leaf_in o ≡ Some leaf → leaf_in_bounds leaf ≡ true
    go None e h = absurd (none-some leaf h)
    go (Some (Node (Closing other))) e h = ap leaf_in_bounds (sym (same_Some other leaf h)) ∙ (line_of-is line (Node (Closing other)) e).1
    go (Some l) e h = absurd (none-some leaf h)

pub leaf_lines_behind : (k m : Named) (l : CertLine) → named k l ≡ Some m → in_bounds l ≡ true → are_leaf_lines k.lines ≡ true → are_leaf_lines m.lines ≡ true
leaf_lines_behind k m (Head v) h b e = ap (λ n. are_leaf_lines n.lines) (sym (same_Some (none_named v) m h))
leaf_lines_behind k m (Node (Branch p)) h b e = ap (λ n. are_leaf_lines n.lines) (sym (same_Some k m h)) ∙ e
leaf_lines_behind k m (Node OpenEnd) h b e = ap (λ n. are_leaf_lines n.lines) (sym (same_Some k m h)) ∙ e
leaf_lines_behind k m (Node (Same q)) h b e = ap (λ n. are_leaf_lines n.lines) (sym (cond_some (nat_lt q (length k.lines)) k m h).1) ∙ e
leaf_lines_behind k m (Node (Closing leaf)) h b e = go (k.version == 2) (has_line (leaf_text leaf) k.lines) h
  where
    next : Named
    next = record { version = k.version; lines = k.lines ++ (leaf_text leaf ∷ []) }

    more : are_leaf_lines next.lines ≡ true
    more = list_all-append is_leaf_line k.lines (leaf_text leaf ∷ []) ∙ and_from (are_leaf_lines k.lines) (are_leaf_lines (leaf_text leaf ∷ [])) e (and_from (is_leaf_line (leaf_text leaf)) true (ap is_some (leaf_line leaf b)) refl)

    go : (two there : Bool) → cond two (cond there None (Some next)) (Some k) ≡ Some m → are_leaf_lines m.lines ≡ true
    go true true h = absurd (none-some m h)
    go true false h = ap (λ n. are_leaf_lines n.lines) (sym (same_Some next m h)) ∙ more
    go false there h = ap (λ n. are_leaf_lines n.lines) (sym (same_Some k m h)) ∙ e
leaf_lines_behind k m l h b e = ap (λ n. are_leaf_lines n.lines) (sym (same_Some k m h)) ∙ e

line_at : (lines : List (List ℕ)) (q : ℕ) → q < length lines → are_leaf_lines lines ≡ true → (line : List ℕ) × (leaf : Leaf) × (slice_get lines q ≡ Some line) × (leaf_in (line_of line) ≡ Some leaf)
line_at [] q l h = absurd (omega arith)
line_at (x ∷ xs) zero l h = go (leaf_in (line_of x)) refl (and_parts (is_leaf_line x) (are_leaf_lines xs) h).0
  where
    go : (o : Option Leaf) → leaf_in (line_of x) ≡ o → is_some o ≡ true → (line : List ℕ) × (leaf : Leaf) × (Some x ≡ Some line) × (leaf_in (line_of line) ≡ Some leaf)
    go None e s = absurd (true≢false (sym s))
    go (Some leaf) e s = (x, leaf, refl, e)
line_at (x ∷ xs) (suc q) l h = line_at xs q (omega arith) (and_parts (is_leaf_line x) (are_leaf_lines xs) h).1

-- a line that names another means a leaf
pub record MeansPlain (k : Named) (l : CertLine) : Type 0 where
  pub bounded : in_bounds (meant k.lines l) ≡ true
  pub names_none : is_plain (meant k.lines l) ≡ true

pub meant_plain : (k m : Named) (l : CertLine) → named k l ≡ Some m → in_bounds l ≡ true → are_leaf_lines k.lines ≡ true → MeansPlain k l
meant_plain k m (Node (Same q)) h b e =
    let within : q < length k.lines = ltb-true q (length k.lines) (cond_some (nat_lt q (length k.lines)) k m h).0 in
    let at = line_at k.lines q within e in
    let line = at.0 in
    let leaf = at.1 in
    let same : meant k.lines (Node (Same q)) ≡ Node (Closing leaf) = ap (λ o. Node (named_node q o)) at.2 ∙ ap (λ o. Node (leaf_node q o)) at.3 in
    record { bounded = ap in_bounds same ∙ leaf_line_bounds line leaf at.3; names_none = ap is_plain same }
meant_plain k m (Node (Branch p)) h b e = record { bounded = b; names_none = refl }
meant_plain k m (Node (Closing leaf)) h b e = record { bounded = b; names_none = refl }
meant_plain k m (Node OpenEnd) h b e = record { bounded = b; names_none = refl }
meant_plain k m l h b e = record { bounded = b; names_none = refl }

-- ---- one line more

pub plain_lines-more : (ls : List CertLine) (k m : Named) (l : CertLine) → all_named k ls ≡ Some m → plain_lines k (ls ++ (l ∷ [])) ≡ plain_lines k ls ++ (meant m.lines l ∷ [])
plain_lines-more [] k m l h = ap (λ n. meant n.lines l ∷ []) (same_Some k m h)
plain_lines-more (x ∷ ls) k m l h =
    let first = then_is (named k x) (λ next. all_named next ls) m h in
    let same : named_behind k x ≡ first.0 = ap (λ o. unwrap_or o k) first.1 in
    ap (λ xs. meant k.lines x ∷ xs) (plain_lines-more ls (named_behind k x) m l (ap (λ n. all_named n ls) same ∙ first.2))

-- ---- the whole certificate

-- the plain form, but of the same version
abbrev pub flat : Certificate → Certificate
flat c = record c { levels = plain_trees [] c.levels; unfinished = plain_last (leaves_behind [] c.levels) c.unfinished }

cuts_plain : (cuts : List (List ℕ)) (k : Named) (rest : List CertLine) → plain_lines k (map Cut cuts ++ rest) ≡ map Cut cuts ++ plain_lines k rest
cuts_plain [] k rest = refl
cuts_plain (ps ∷ cuts) k rest = ap (λ xs. Cut ps ∷ xs) (cuts_plain cuts k rest)

-- in version 2, over a tree
two_plain : (ns : List SearchNode) (ls : List Leaf) (m : Named) (rest : List CertLine) → nodes_named (named_two (map leaf_text ls)) ns ≡ Some m → nodes_bounded ns ≡ true → list_all leaf_in_bounds ls ≡ true
    → plain_lines (named_two (map leaf_text ls)) (map Node ns ++ rest) ≡ map Node (plain_nodes ls ns) ++ plain_lines m rest
two_plain [] ls m rest h b l = ap (λ k. plain_lines k rest) (same_Some (named_two (map leaf_text ls)) m h)
two_plain (Branch p ∷ ns) ls m rest h b l = ap (λ xs. Node (Branch p) ∷ xs) (two_plain ns ls m rest h (and_parts (in_bounds (Node (Branch p))) (nodes_bounded ns) b).1 l)
two_plain (OpenEnd ∷ ns) ls m rest h b l = ap (λ xs. Node OpenEnd ∷ xs) (two_plain ns ls m rest h (and_parts (in_bounds (Node OpenEnd)) (nodes_bounded ns) b).1 l)
two_plain (Same q ∷ ns) ls m rest h b l =
    let ks = map leaf_text ls in
    let first = then_is (cond (nat_lt q (length ks)) (Some (named_two ks)) None) (λ next. all_named next (map Node ns)) m h in
    let both = cond_some (nat_lt q (length ks)) (named_two ks) first.0 first.1 in
    let at = some_at ls q (omega (arith, ltb-true q (length ks) both.0, length-map ls leaf_text)) in
    let here : meant_node ks (Same q) ≡ plain_node ls (Same q) =
    ap (named_node q) (slice_get-map leaf_text ls q ∙ ap (λ o. elim o [ None ↦ None | Some x ↦ Some (leaf_text x) ]) at.1)
    ∙ ap (leaf_node q) (leaf_line at.0 (at_bounds ls q at.0 l at.1)) ∙ ap (plain_same q) (sym at.1) in
    let behind : named_behind (named_two ks) (Node (Same q)) ≡ named_two ks = ap (λ t. unwrap_or (cond t (Some (named_two ks)) None) (named_two ks)) both.0 in
    ap (λ n. Node n ∷ plain_lines (named_behind (named_two ks) (Node (Same q))) (map Node ns ++ rest)) here
    ∙ ap (λ k. Node (plain_node ls (Same q)) ∷ plain_lines k (map Node ns ++ rest)) behind
    ∙ ap (λ xs. Node (plain_node ls (Same q)) ∷ xs) (two_plain ns ls m rest (ap (λ k. all_named k (map Node ns)) both.1 ∙ first.2) (and_parts (in_bounds (Node (Same q))) (nodes_bounded ns) b).1 l)
two_plain (Closing leaf ∷ ns) ls m rest h b l =
    let ks = map leaf_text ls in
    let parts = and_parts (leaf_in_bounds leaf) (nodes_bounded ns) b in
    let next = ks ++ (leaf_text leaf ∷ []) in
    let first = then_is (cond (has_line (leaf_text leaf) ks) None (Some (named_two next))) (λ k. all_named k (map Node ns)) m h in
    let same = fresh (has_line (leaf_text leaf) ks) (named_two next) first.0 first.1 in
    let texts : map leaf_text (ls ++ (leaf ∷ [])) ≡ next = map-append leaf_text ls (leaf ∷ []) in
    let behind : named_behind (named_two ks) (Node (Closing leaf)) ≡ named_two (map leaf_text (ls ++ (leaf ∷ []))) = ap (λ o. unwrap_or o (named_two ks)) first.1 ∙ sym same ∙ ap named_two (sym texts) in
    let more : list_all leaf_in_bounds (ls ++ (leaf ∷ [])) ≡ true = list_all-append leaf_in_bounds ls (leaf ∷ []) ∙ and_from (list_all leaf_in_bounds ls) (list_all leaf_in_bounds (leaf ∷ [])) l (and_from (leaf_in_bounds leaf) true parts.0 refl) in
    ap (λ k. Node (Closing leaf) ∷ plain_lines k (map Node ns ++ rest)) behind
    ∙ ap (λ xs. Node (Closing leaf) ∷ xs) (two_plain ns (ls ++ (leaf ∷ [])) m rest (ap (λ xs. all_named (named_two xs) (map Node ns)) texts ∙ ap (λ k. all_named k (map Node ns)) same ∙ first.2) parts.1 more)
  where
    fresh : (c : Bool) (x y : Named) → cond c None (Some x) ≡ Some y → x ≡ y
    fresh true x y e = absurd (none-some y e)
    fresh false x y e = same_Some x y e

two_plain_trees : (ts : List Tree) (n : ℕ) (ls : List Leaf) (m : Named) (rest : List CertLine) → trees_named (named_two (map leaf_text ls)) ts ≡ Some m → trees_bounded ts ≡ true → list_all leaf_in_bounds ls ≡ true
    → plain_lines (named_two (map leaf_text ls)) (blocks n ts ++ rest) ≡ blocks n (plain_trees ls ts) ++ plain_lines m rest
two_plain_trees [] n ls m rest h b l = ap (λ k. plain_lines k rest) (same_Some (named_two (map leaf_text ls)) m h)
two_plain_trees (t ∷ ts) n ls m rest h b l =
    let ks = map leaf_text ls in
    let parts = and_parts (nodes_bounded t.nodes) (trees_bounded ts) b in
    let first = then_is (nodes_named (named_two ks) t.nodes) (λ next. trees_named next ts) m h in
    let here = plain_right t.nodes ls first.0 first.1 parts.0 l in
    let after = leaves_after ls t.nodes in
    ap (λ xs. Level (n + 1) ∷ plain_lines (named_two ks) xs) (append_assoc (map Node t.nodes) (blocks (n + 1) ts) rest)
    ∙ ap (λ xs. Level (n + 1) ∷ xs) (two_plain t.nodes ls first.0 (blocks (n + 1) ts ++ rest) first.1 parts.0 l)
    ∙ ap (λ k. Level (n + 1) ∷ (map Node (plain_nodes ls t.nodes) ++ plain_lines k (blocks (n + 1) ts ++ rest))) here.lines
    ∙ ap (λ xs. Level (n + 1) ∷ (map Node (plain_nodes ls t.nodes) ++ xs)) (two_plain_trees ts (n + 1) after m rest (ap (λ k. trees_named k ts) (sym here.lines) ∙ first.2) parts.1 here.leaves)
    ∙ ap (λ xs. Level (n + 1) ∷ xs) (sym (append_assoc (map Node (plain_nodes ls t.nodes)) (blocks (n + 1) (plain_trees after ts)) (plain_lines m rest)))

-- in version 1 a line means itself
one_plain : (ns : List SearchNode) (rest : List CertLine) → no_names ns ≡ true → plain_lines (none_named 1) (map Node ns ++ rest) ≡ map Node ns ++ plain_lines (none_named 1) rest
one_plain [] rest h = refl
one_plain (Branch p ∷ ns) rest h = ap (λ xs. Node (Branch p) ∷ xs) (one_plain ns rest h)
one_plain (Closing leaf ∷ ns) rest h = ap (λ xs. Node (Closing leaf) ∷ xs) (one_plain ns rest h)
one_plain (OpenEnd ∷ ns) rest h = ap (λ xs. Node OpenEnd ∷ xs) (one_plain ns rest h)
one_plain (Same q ∷ ns) rest h = absurd (true≢false (sym h))

one_plain_trees : (ts : List Tree) (n : ℕ) (rest : List CertLine) → none_in ts ≡ true → plain_lines (none_named 1) (blocks n ts ++ rest) ≡ blocks n ts ++ plain_lines (none_named 1) rest
one_plain_trees [] n rest h = refl
one_plain_trees (t ∷ ts) n rest h =
    let parts = and_parts (no_names t.nodes) (none_in ts) h in
    ap (λ xs. Level (n + 1) ∷ plain_lines (none_named 1) xs) (append_assoc (map Node t.nodes) (blocks (n + 1) ts) rest)
    ∙ ap (λ xs. Level (n + 1) ∷ xs) (one_plain t.nodes (blocks (n + 1) ts ++ rest) parts.0)
    ∙ ap (λ xs. Level (n + 1) ∷ (map Node t.nodes ++ xs)) (one_plain_trees ts (n + 1) rest parts.1)
    ∙ ap (λ xs. Level (n + 1) ∷ xs) (sym (append_assoc (map Node t.nodes) (blocks (n + 1) ts) (plain_lines (none_named 1) rest)))

abbrev body : Certificate → ℕ → List CertLine
body c n = blocks 0 c.levels ++ (open_block n c.unfinished ++ (End n ∷ []))

abbrev framed : Certificate → List CertLine → List CertLine
framed c rest = Head c.version ∷ (Sizes c.patterns c.rows ∷ (Choice c.choice ∷ (Values c.values ∷ (Cuts (length c.cuts) ∷ (map Cut c.cuts ++ rest)))))

two_plain_last : (u : Option Tree) (n : ℕ) (ls : List Leaf) (end : Named) → last_named (named_two (map leaf_text ls)) u ≡ Some end → last_bounded u ≡ true → list_all leaf_in_bounds ls ≡ true
    → plain_lines (named_two (map leaf_text ls)) (open_block n u ++ (End n ∷ [])) ≡ open_block n (plain_last ls u) ++ (End n ∷ [])
two_plain_last None n ls end h b l = refl
two_plain_last (Some t) n ls end h b l = ap (λ xs. Unfinished (n + 1) ∷ xs) (two_plain t.nodes ls end (End n ∷ []) h b l)

one_plain_last : (u : Option Tree) (n : ℕ) → none_last u ≡ true → plain_lines (none_named 1) (open_block n u ++ (End n ∷ [])) ≡ open_block n u ++ (End n ∷ [])
one_plain_last None n h = refl
one_plain_last (Some t) n h = ap (λ xs. Unfinished (n + 1) ∷ xs) (one_plain t.nodes (End n ∷ []) h)

body_plain : (c : Certificate) → is_writable c ≡ true → plain_lines (none_named c.version) (body c (length c.levels)) ≡ body (flat c) (length c.levels)
body_plain c h =
    let w = writable_is c h in
    let b = bounds_are c w.bounded in
    let n = names_of c w.end w.named in
    let count = length c.levels in
    elim (one_or_two c.version b.version) [
      | inl one ↦
          let is = one_is c one n in
          ap (λ v. plain_lines (none_named v) (body c count)) one
          ∙ one_plain_trees c.levels 0 (open_block count c.unfinished ++ (End count ∷ [])) is.trees
          ∙ ap (λ xs. blocks 0 c.levels ++ xs) (one_plain_last c.unfinished count is.last)
          ∙ ap (λ ts. blocks 0 ts ++ (open_block count c.unfinished ++ (End count ∷ []))) (sym (plain_same_trees c.levels [] is.trees))
          ∙ ap (λ u. blocks 0 (plain_trees [] c.levels) ++ (open_block count u ++ (End count ∷ []))) (sym (plain_same_last c.unfinished (leaves_behind [] c.levels) is.last))
      | inr two ↦
          let start = ap (λ v. trees_named (none_named v) c.levels) (sym two) ∙ n.trees in
          let trees = plain_trees_right c.levels [] n.middle start (blocks_bounded c.levels 0 b.blocks) refl in
          let ls = leaves_behind [] c.levels in
          ap (λ v. plain_lines (none_named v) (body c count)) two
          ∙ two_plain_trees c.levels 0 [] n.middle (open_block count c.unfinished ++ (End count ∷ [])) start (blocks_bounded c.levels 0 b.blocks) refl
          ∙ ap (λ k. blocks 0 (plain_trees [] c.levels) ++ plain_lines k (open_block count c.unfinished ++ (End count ∷ []))) trees.lines
          ∙ ap (λ xs. blocks 0 (plain_trees [] c.levels) ++ xs)
          (two_plain_last c.unfinished count ls n.end (ap (λ k. last_named k c.unfinished) (sym trees.lines) ∙ n.last) (open_bounded c.unfinished count b.last) trees.leaves)
    ]

-- what the lines of a certificate mean
pub flat_lines : (c : Certificate) → is_writable c ≡ true → plain_lines (none_named 0) (lines_of c) ≡ lines_of (flat c)
flat_lines c h =
    ap (λ xs. Head c.version ∷ (Sizes c.patterns c.rows ∷ (Choice c.choice ∷ (Values c.values ∷ (Cuts (length c.cuts) ∷ xs))))) (cuts_plain c.cuts (none_named c.version) (body c (length c.levels)))
    ∙ ap (framed c) (body_plain c h)
    ∙ ap (λ k. framed c (body (flat c) k)) (sym (plain_count c.levels []))

-- the plain form of a certificate that is read is whole, and names no leaf
pub flat_shaped : (c : Certificate) → is_shaped c ≡ true → is_shaped (flat c) ≡ true
flat_shaped c h = plain_shaped c h

pub no_names_of : (c : Certificate) → is_writable c ≡ true → c.version ≡ 1 → none_in c.levels ≡ true
no_names_of c h v = let w = writable_is c h in (one_is c v (names_of c w.end w.named)).trees
