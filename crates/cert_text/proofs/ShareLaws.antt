-- Leaves written once, and each leaf where it stands, are two forms of one certificate.
use Rattle.std.proofs.Common.{ℕ, ◌≡◌, ◌<◌, ◌≤◌, ◌+◌, arith, refl, sym, ◌∙◌, ap, subst, zero, suc, Bool, true, false, cond, not, ◌&&◌, ◌||◌, List, [], ◌∷◌, ◌++◌, append_assoc, map, length, length-append, inl, inr, get_or}
use Rattle.std.specs.Prelude.{◌⊎◌, nat_lt, nat_le, Option, Some, None, option_map, position, slice_get, bytes_eq}
use Rattle.std.specs.List.{list_all, list_any, prefix_len}
use Rattle.std.proofs.lemmas.Bool.{and_parts, and_from, true≢false, cases_Bool, lt-ltb, ltb-true, leb-true, le-leb, cases_eq}
use Rattle.std.proofs.lemmas.Option.{same_Some, none-some, cond_some, slice_get-map, slice_get-get_or}
use Rattle.std.proofs.lemmas.List.{map-append, length-map}
use Rattle.std.proofs.lemmas.List.Quantifiers.{position-Some}
use Rattle.std.proofs.lemmas.List.Folds.{list_all-append, list_any_at}
use Rattle.duality.specs.declared.leaf.Leaf.{Leaf}
use Rattle.duality.specs.declared.leaf.Node.{Node as SearchNode}
use Rattle.duality.specs.declared.leaf.Node.TheVariants.{Branch, Leaf as Closing, OpenEnd, Same}
use Rattle.cert_text.specs.declared.lines.Tree.{Tree}
use Rattle.cert_text.specs.declared.lines.Certificate.{Certificate}
use Rattle.cert_text.specs.declared.lines.CertLine.{CertLine}
use Rattle.cert_text.specs.declared.lines.CertLine.TheVariants.{Sizes, Choice, Values, Cuts, Cut, Node, End}
use Rattle.cert_text.specs.declared.named.Named.{Named}
use Rattle.cert_text.specs.Spelling.{in_bounds, is_version, line_of, leaf_in_bounds}
use Rattle.cert_text.specs.Grammar.{lines_of, blocks, open_block, fills, is_closed_tree, is_open_tree, fits_count, is_shaped, is_writable}
use Rattle.duality.specs.After.{is_open}
use Rattle.cert_text.specs.Sharing.{leaf_text, has_line, place_of_line, with_line, none_named, names, named, names_then, all_named, shared_leaf, lines_after, shared_nodes, tree_with, lines_behind, shared_trees, shared_last, last_lines, kept_lines, share, plain_same, plain_node, leaves_with, leaves_after, plain_nodes, leaves_behind, plain_trees, plain_last, plain}
use Rattle.cert_text.proofs.NumberLaws.{bytes_are}
use Rattle.cert_text.proofs.SpellingLaws.{line_of-reads}
use Rattle.cert_text.proofs.GrammarLaws.{all_named-append}
use Rattle.cert_text.proofs.TextLaws.{writable_is, writable_from}

-- ---- lines and their places

any_within : {X : Type 0} (p : X → Bool) (xs : List X) → list_any p xs ≡ true → prefix_len (λ x. not (p x)) xs < length xs
any_within p [] h = absurd (true≢false (sym h))
any_within p (x ∷ xs) h = go (p x) h (any_within p xs)
  where
    go : (b : Bool) → (b || list_any p xs) ≡ true → (list_any p xs ≡ true → prefix_len (λ x. not (p x)) xs < length xs) → cond (not b) (1 + prefix_len (λ x. not (p x)) xs) 0 < length (x ∷ xs)
    go true e rest = omega arith
    go false e rest = omega (arith, rest e)

any_place : {X : Type 0} (p : X → Bool) (xs : List X) → list_any p xs ≡ true → position p xs ≡ Some (prefix_len (λ x. not (p x)) xs)
any_place p xs h = ap (λ b. cond b (Some (prefix_len (λ x. not (p x)) xs)) None) (lt-ltb _ (length xs) (any_within p xs h))

no_place : {X : Type 0} (p : X → Bool) (xs : List X) → list_any p xs ≡ false → position p xs ≡ None
no_place p xs h = go (position p xs) refl
  where
    found : {X : Type 0} (p : X → Bool) (xs : List X) (i : ℕ) → position p xs ≡ Some i → list_any p xs ≡ true
    found p [] i e = absurd (none-some i e)
    found p (x ∷ xs) i e = let at = position-Some p (x ∷ xs) i x e in list_any_at p (x ∷ xs) i x at.0 at.1

    go : (o : Option ℕ) → position p xs ≡ o → position p xs ≡ None
    go None e = e
    go (Some i) e = absurd (true≢false (sym (found p xs i e) ∙ h))

-- a line is new, or it has a place
data Placed (line : List ℕ) (lines : List (List ℕ)) : Type 0 where
  Fresh : has_line line lines ≡ false → place_of_line line lines ≡ None → Placed line lines
  Known : (q : ℕ) → has_line line lines ≡ true → place_of_line line lines ≡ Some q → q < length lines → bytes_eq line (get_or lines q []) ≡ true → Placed line lines

placed : (line : List ℕ) (lines : List (List ℕ)) → Placed line lines
placed line lines = elim (cases_Bool (has_line line lines)) [
  | inl there ↦
      let place = any_place (bytes_eq line) lines there in
      let at = position-Some (bytes_eq line) lines _ [] place in
      Known _ there place at.0 at.1
  | inr none ↦ Fresh none (no_place (bytes_eq line) lines none)
]

-- a line that has a place is there
pub there_already : (line : List ℕ) (lines : List (List ℕ)) (q : ℕ) → Some q ≡ place_of_line line lines → lines ≡ with_line lines line
there_already line lines q e = go (placed line lines)
  where
    go : Placed line lines → lines ≡ with_line lines line
    go (Fresh none place) = absurd (none-some q (sym place ∙ sym e))
    go (Known p there place within same) = sym (ap (λ c. cond c lines (lines ++ (line ∷ []))) there)

-- ---- leaves and their lines

abbrev leaf_or : Leaf → Option CertLine → Leaf
leaf_or d (Some (Node (Closing leaf))) = leaf
leaf_or d l = d

leaf_is : (a b : Leaf) → leaf_in_bounds a ≡ true → leaf_in_bounds b ≡ true → leaf_text a ≡ leaf_text b → a ≡ b
leaf_is a b ha hb e = ap (leaf_or a) (sym (line_of-reads (Node (Closing a)) ha) ∙ ap line_of e ∙ line_of-reads (Node (Closing b)) hb)

pub at_bounds : (ls : List Leaf) (q : ℕ) (leaf : Leaf) → list_all leaf_in_bounds ls ≡ true → slice_get ls q ≡ Some leaf → leaf_in_bounds leaf ≡ true
at_bounds [] q leaf h e = absurd (none-some leaf e)
at_bounds (l ∷ ls) zero leaf h e = ap leaf_in_bounds (sym (same_Some l leaf e)) ∙ (and_parts (leaf_in_bounds l) (list_all leaf_in_bounds ls) h).0
at_bounds (l ∷ ls) (suc q) leaf h e = at_bounds ls q leaf (and_parts (leaf_in_bounds l) (list_all leaf_in_bounds ls) h).1 e

-- the leaf whose line has the place
named_leaf : (ls : List Leaf) (leaf : Leaf) (q : ℕ) → list_all leaf_in_bounds ls ≡ true → leaf_in_bounds leaf ≡ true → q < length (map leaf_text ls) → bytes_eq (leaf_text leaf) (get_or (map leaf_text ls) q []) ≡ true → slice_get ls q ≡ Some leaf
named_leaf ls leaf q all b l e = go (slice_get ls q) refl (sym (slice_get-map leaf_text ls q) ∙ slice_get-get_or (map leaf_text ls) q [] l)
  where
    go : (o : Option Leaf) → slice_get ls q ≡ o → option_map leaf_text o ≡ Some (get_or (map leaf_text ls) q []) → slice_get ls q ≡ Some leaf
    go None is h = absurd (none-some (get_or (map leaf_text ls) q []) h)
    go (Some other) is h =
        let same : leaf_text leaf ≡ leaf_text other = bytes_are _ _ e ∙ sym (same_Some (leaf_text other) (get_or (map leaf_text ls) q []) h) in
        is ∙ ap Some (sym (leaf_is leaf other b (at_bounds ls q other all is) same))

all_more : (ls : List Leaf) (leaf : Leaf) → list_all leaf_in_bounds ls ≡ true → leaf_in_bounds leaf ≡ true → list_all leaf_in_bounds (ls ++ (leaf ∷ [])) ≡ true
all_more ls leaf h b = list_all-append leaf_in_bounds ls (leaf ∷ []) ∙ and_from (list_all leaf_in_bounds ls) (list_all leaf_in_bounds (leaf ∷ [])) h (and_from (leaf_in_bounds leaf) true b refl)

texts_more : (ls : List Leaf) (leaf : Leaf) (lines : List (List ℕ)) → lines ≡ map leaf_text ls → lines ++ (leaf_text leaf ∷ []) ≡ map leaf_text (ls ++ (leaf ∷ []))
texts_more ls leaf lines e = ap (λ xs. xs ++ (leaf_text leaf ∷ [])) e ∙ sym (map-append leaf_text ls (leaf ∷ []))

-- ---- the names of a certificate

abbrev pub nodes_named : Named → List SearchNode → Option Named
nodes_named k ns = all_named k (map Node ns)

abbrev pub trees_named : Named → List Tree → Option Named
trees_named k [] = Some k
trees_named k (t ∷ ts) = names_then (nodes_named k t.nodes) (λ next. trees_named next ts)

abbrev pub last_named : Named → Option Tree → Option Named
last_named k None = Some k
last_named k (Some t) = nodes_named k t.nodes

then_assoc : (o : Option Named) (f g : Named → Option Named) → names_then (names_then o f) g ≡ names_then o (λ k. names_then (f k) g)
then_assoc None f g = refl
then_assoc (Some k) f g = refl

then_some : (o : Option Named) → names_then o (λ k. Some k) ≡ o
then_some None = refl
then_some (Some k) = refl

then_same : (o : Option Named) (f g : Named → Option Named) → ((k : Named) → f k ≡ g k) → names_then o f ≡ names_then o g
then_same None f g h = refl
then_same (Some k) f g h = h k

cuts_name : (cuts : List (List ℕ)) (k : Named) (rest : List CertLine) → all_named k (map Cut cuts ++ rest) ≡ all_named k rest
cuts_name [] k rest = refl
cuts_name (ps ∷ cuts) k rest = cuts_name cuts k rest

blocks_name : (ts : List Tree) (n : ℕ) (k : Named) (rest : List CertLine) → all_named k (blocks n ts ++ rest) ≡ names_then (trees_named k ts) (λ m. all_named m rest)
blocks_name [] n k rest = refl
blocks_name (t ∷ ts) n k rest =
    ap (all_named k) (append_assoc (map Node t.nodes) (blocks (n + 1) ts) rest)
    ∙ all_named-append (map Node t.nodes) (blocks (n + 1) ts ++ rest) k
    ∙ then_same (nodes_named k t.nodes) _ _ (λ m. blocks_name ts (n + 1) m rest)
    ∙ sym (then_assoc (nodes_named k t.nodes) (λ next. trees_named next ts) (λ m. all_named m rest))

last_name : (u : Option Tree) (n : ℕ) (k : Named) → all_named k (open_block n u ++ (End n ∷ [])) ≡ last_named k u
last_name None n k = refl
last_name (Some t) n k = all_named-append (map Node t.nodes) (End n ∷ []) k ∙ then_some (nodes_named k t.nodes)

-- the names of a certificate's lines are those of its trees
names_are : (c : Certificate) → all_named (none_named 0) (lines_of c) ≡ names_then (trees_named (none_named c.version) c.levels) (λ m. last_named m c.unfinished)
names_are c =
    cuts_name c.cuts (none_named c.version) (blocks 0 c.levels ++ (open_block (length c.levels) c.unfinished ++ (End (length c.levels) ∷ [])))
    ∙ blocks_name c.levels 0 (none_named c.version) (open_block (length c.levels) c.unfinished ++ (End (length c.levels) ∷ []))
    ∙ then_same (trees_named (none_named c.version) c.levels) _ _ (λ m. last_name c.unfinished (length c.levels) m)

pub then_is : (o : Option Named) (f : Named → Option Named) (t : Named) → names_then o f ≡ Some t → (u : Named) × (o ≡ Some u) × (f u ≡ Some t)
then_is None f t h = absurd (none-some t h)
then_is (Some u) f t h = (u, refl, h)

-- ---- the bounds of a certificate's nodes

abbrev pub nodes_bounded : List SearchNode → Bool
nodes_bounded ns = list_all in_bounds (map Node ns)

abbrev pub trees_bounded : List Tree → Bool
trees_bounded ts = list_all (λ t. nodes_bounded t.nodes) ts

abbrev pub last_bounded : Option Tree → Bool
last_bounded None = true
last_bounded (Some t) = nodes_bounded t.nodes

blocks_same : (ts us : List Tree) (n : ℕ) → length us ≡ length ts → trees_bounded us ≡ true → list_all in_bounds (blocks n ts) ≡ true → list_all in_bounds (blocks n us) ≡ true
blocks_same ts [] n l b h = refl
blocks_same [] (u ∷ us) n l b h = absurd (omega arith)
blocks_same (t ∷ ts) (u ∷ us) n l b h =
    let parts = and_parts (nodes_bounded u.nodes) (trees_bounded us) b in
    let line = and_parts (nat_le (n + 1) 6) (list_all in_bounds (map Node t.nodes ++ blocks (n + 1) ts)) h in
    let rest = and_parts (nodes_bounded t.nodes) (list_all in_bounds (blocks (n + 1) ts)) (sym (list_all-append in_bounds (map Node t.nodes) (blocks (n + 1) ts)) ∙ line.1) in
    and_from (nat_le (n + 1) 6) (list_all in_bounds (map Node u.nodes ++ blocks (n + 1) us)) line.0
    (list_all-append in_bounds (map Node u.nodes) (blocks (n + 1) us) ∙ and_from (nodes_bounded u.nodes) (list_all in_bounds (blocks (n + 1) us)) parts.0 (blocks_same ts us (n + 1) (omega arith) parts.1 rest.1))

pub blocks_bounded : (ts : List Tree) (n : ℕ) → list_all in_bounds (blocks n ts) ≡ true → trees_bounded ts ≡ true
blocks_bounded [] n h = refl
blocks_bounded (t ∷ ts) n h =
    let line = and_parts (nat_le (n + 1) 6) (list_all in_bounds (map Node t.nodes ++ blocks (n + 1) ts)) h in
    let rest = and_parts (nodes_bounded t.nodes) (list_all in_bounds (blocks (n + 1) ts)) (sym (list_all-append in_bounds (map Node t.nodes) (blocks (n + 1) ts)) ∙ line.1) in
    and_from (nodes_bounded t.nodes) (trees_bounded ts) rest.0 (blocks_bounded ts (n + 1) rest.1)

-- an unfinished tree has the same bounds around it
abbrev pub SameLast : Option Tree → Option Tree → Type 0
SameLast None None = Unit {0}
SameLast None (Some u) = ⊥
SameLast (Some t) None = ⊥
SameLast (Some t) (Some u) = Unit {0}

open_same : (o p : Option Tree) (n : ℕ) → SameLast o p → last_bounded p ≡ true → list_all in_bounds (open_block n o) ≡ true → list_all in_bounds (open_block n p) ≡ true
open_same None None n same b h = refl
open_same None (Some u) n same b h = absurd same
open_same (Some t) None n same b h = absurd same
open_same (Some t) (Some u) n same b h =
    and_from (nat_le (n + 1) 6) (nodes_bounded u.nodes) (and_parts (nat_le (n + 1) 6) (nodes_bounded t.nodes) h).0 b

pub open_bounded : (o : Option Tree) (n : ℕ) → list_all in_bounds (open_block n o) ≡ true → last_bounded o ≡ true
open_bounded None n h = refl
open_bounded (Some t) n h = (and_parts (nat_le (n + 1) 6) (nodes_bounded t.nodes) h).1

pub record Bounds (c : Certificate) : Type 0 where
  pub version : is_version c.version ≡ true
  pub opening : list_all in_bounds (Sizes c.patterns c.rows ∷ (Choice c.choice ∷ (Values c.values ∷ (Cuts (length c.cuts) ∷ [])))) ≡ true
  pub cuts : list_all in_bounds (map Cut c.cuts) ≡ true
  pub blocks : list_all in_bounds (blocks 0 c.levels) ≡ true
  pub last : list_all in_bounds (open_block (length c.levels) c.unfinished) ≡ true
  pub end : list_all in_bounds (End (length c.levels) ∷ []) ≡ true

all_append : (xs ys : List CertLine) → list_all in_bounds (xs ++ ys) ≡ true → (list_all in_bounds xs ≡ true) × (list_all in_bounds ys ≡ true)
all_append xs ys h = and_parts (list_all in_bounds xs) (list_all in_bounds ys) (sym (list_all-append in_bounds xs ys) ∙ h)

append_all : (xs ys : List CertLine) → list_all in_bounds xs ≡ true → list_all in_bounds ys ≡ true → list_all in_bounds (xs ++ ys) ≡ true
append_all xs ys h k = list_all-append in_bounds xs ys ∙ and_from (list_all in_bounds xs) (list_all in_bounds ys) h k

abbrev first_lines : Certificate → List CertLine
first_lines c = Sizes c.patterns c.rows ∷ (Choice c.choice ∷ (Values c.values ∷ (Cuts (length c.cuts) ∷ [])))

pub bounds_are : (c : Certificate) → list_all in_bounds (lines_of c) ≡ true → Bounds c
bounds_are c h =
    let tail = open_block (length c.levels) c.unfinished ++ (End (length c.levels) ∷ []) in
    let head = and_parts (is_version c.version) (list_all in_bounds (first_lines c ++ (map Cut c.cuts ++ (blocks 0 c.levels ++ tail)))) h in
    let a = all_append (first_lines c) (map Cut c.cuts ++ (blocks 0 c.levels ++ tail)) head.1 in
    let b = all_append (map Cut c.cuts) (blocks 0 c.levels ++ tail) a.1 in
    let d = all_append (blocks 0 c.levels) tail b.1 in
    let e = all_append (open_block (length c.levels) c.unfinished) (End (length c.levels) ∷ []) d.1 in
    record { version = head.0; opening = a.0; cuts = b.0; blocks = d.0; last = e.0; end = e.1 }

-- other trees of the same number
bounds_from : (c d : Certificate) → Bounds c → is_version d.version ≡ true → first_lines d ≡ first_lines c → map Cut d.cuts ≡ map Cut c.cuts → length d.levels ≡ length c.levels → trees_bounded d.levels ≡ true → SameLast c.unfinished d.unfinished → last_bounded d.unfinished ≡ true
    → list_all in_bounds (lines_of d) ≡ true
bounds_from c d b version first cuts count trees both last =
    let tail = open_block (length d.levels) d.unfinished ++ (End (length d.levels) ∷ []) in
    let at = ap (λ n. list_all in_bounds (open_block n d.unfinished)) count in
    and_from (is_version d.version) (list_all in_bounds (first_lines d ++ (map Cut d.cuts ++ (blocks 0 d.levels ++ tail)))) version
    (append_all (first_lines d) (map Cut d.cuts ++ (blocks 0 d.levels ++ tail)) (ap (list_all in_bounds) first ∙ b.opening)
    (append_all (map Cut d.cuts) (blocks 0 d.levels ++ tail) (ap (list_all in_bounds) cuts ∙ b.cuts)
    (append_all (blocks 0 d.levels) tail (blocks_same c.levels d.levels 0 count trees b.blocks)
    (append_all (open_block (length d.levels) d.unfinished) (End (length d.levels) ∷ []) (at ∙ open_same c.unfinished d.unfinished (length c.levels) both last b.last) (ap (λ n. list_all in_bounds (End n ∷ [])) count ∙ b.end)))))

-- ---- the shape stays

same_fills : (q : ℕ) (o : Option Leaf) (ns : List SearchNode) (k : ℕ) → fills k (plain_same q o ∷ ns) ≡ fills k (Same q ∷ ns)
same_fills q None ns k = refl
same_fills q (Some leaf) [] zero = refl
same_fills q (Some leaf) (n ∷ ns) zero = refl
same_fills q (Some leaf) ns (suc k) = refl

plain_fills : (ns : List SearchNode) (ls : List Leaf) (k : ℕ) → fills k (plain_nodes ls ns) ≡ fills k ns
plain_fills [] ls k = refl
plain_fills (Branch p ∷ ns) ls k = plain_fills ns ls (suc k)
plain_fills (Closing leaf ∷ []) ls zero = refl
plain_fills (Closing leaf ∷ (n ∷ ns)) ls zero = refl
plain_fills (Closing leaf ∷ ns) ls (suc k) = plain_fills ns (ls ++ (leaf ∷ [])) k
plain_fills (OpenEnd ∷ []) ls zero = refl
plain_fills (OpenEnd ∷ (n ∷ ns)) ls zero = refl
plain_fills (OpenEnd ∷ ns) ls (suc k) = plain_fills ns ls k
plain_fills (Same q ∷ []) ls zero = same_fills q (slice_get ls q) [] zero
plain_fills (Same q ∷ (n ∷ ns)) ls zero = same_fills q (slice_get ls q) (plain_nodes ls (n ∷ ns)) zero
plain_fills (Same q ∷ ns) ls (suc k) = same_fills q (slice_get ls q) (plain_nodes ls ns) (suc k) ∙ plain_fills ns ls k

same_open : (q : ℕ) (o : Option Leaf) → is_open (plain_same q o) ≡ false
same_open q None = refl
same_open q (Some leaf) = refl

plain_open : (ns : List SearchNode) (ls : List Leaf) → list_any is_open (plain_nodes ls ns) ≡ list_any is_open ns
plain_open [] ls = refl
plain_open (Branch p ∷ ns) ls = plain_open ns ls
plain_open (Closing leaf ∷ ns) ls = plain_open ns (ls ++ (leaf ∷ []))
plain_open (OpenEnd ∷ ns) ls = refl
plain_open (Same q ∷ ns) ls = ap (λ b. b || list_any is_open (plain_nodes ls ns)) (same_open q (slice_get ls q)) ∙ plain_open ns ls

plain_closed : (ts : List Tree) (ls : List Leaf) → list_all is_closed_tree (plain_trees ls ts) ≡ list_all is_closed_tree ts
plain_closed [] ls = refl
plain_closed (t ∷ ts) ls =
    ap (λ b. (b && not (list_any is_open (plain_nodes ls t.nodes))) && list_all is_closed_tree (plain_trees (leaves_after ls t.nodes) ts)) (plain_fills t.nodes ls 0)
    ∙ ap (λ b. (fills 0 t.nodes && not b) && list_all is_closed_tree (plain_trees (leaves_after ls t.nodes) ts)) (plain_open t.nodes ls)
    ∙ ap (λ b. is_closed_tree t && b) (plain_closed ts (leaves_after ls t.nodes))

pub plain_count : (ts : List Tree) (ls : List Leaf) → length (plain_trees ls ts) ≡ length ts
plain_count [] ls = refl
plain_count (t ∷ ts) ls = omega (arith, plain_count ts (leaves_after ls t.nodes))

plain_last_open : (u : Option Tree) (ls : List Leaf) → is_open_tree (plain_last ls u) ≡ is_open_tree u
plain_last_open None ls = refl
plain_last_open (Some t) ls = ap (λ b. b && list_any is_open (plain_nodes ls t.nodes)) (plain_fills t.nodes ls 0) ∙ ap (λ b. fills 0 t.nodes && b) (plain_open t.nodes ls)

plain_last_same : (u : Option Tree) (ls : List Leaf) → SameLast u (plain_last ls u)
plain_last_same None ls = tt
plain_last_same (Some t) ls = tt

last_fits : (u v : Option Tree) (n : ℕ) → SameLast u v → fits_count n v ≡ fits_count n u
last_fits None None n same = refl
last_fits None (Some u) n same = absurd same
last_fits (Some t) None n same = absurd same
last_fits (Some t) (Some u) n same = refl

pub plain_shaped : (c : Certificate) → is_shaped c ≡ true → is_shaped (plain c) ≡ true
plain_shaped c h =
    let ls = leaves_behind [] c.levels in
    let same = plain_last_same c.unfinished ls in
    ap (λ n. fits_count n (plain_last ls c.unfinished) && (list_all is_closed_tree (plain_trees [] c.levels) && is_open_tree (plain_last ls c.unfinished))) (plain_count c.levels [])
    ∙ ap (λ b. b && (list_all is_closed_tree (plain_trees [] c.levels) && is_open_tree (plain_last ls c.unfinished))) (last_fits c.unfinished (plain_last ls c.unfinished) (length c.levels) same)
    ∙ ap (λ b. fits_count (length c.levels) c.unfinished && (b && is_open_tree (plain_last ls c.unfinished))) (plain_closed c.levels [])
    ∙ ap (λ b. fits_count (length c.levels) c.unfinished && (list_all is_closed_tree c.levels && b)) (plain_last_open c.unfinished ls)
    ∙ h

leaf_fills : (leaf : Leaf) (o : Option ℕ) (ns : List SearchNode) (k : ℕ) → fills k (shared_leaf leaf o ∷ ns) ≡ fills k (Closing leaf ∷ ns)
leaf_fills leaf None ns k = refl
leaf_fills leaf (Some q) [] zero = refl
leaf_fills leaf (Some q) (n ∷ ns) zero = refl
leaf_fills leaf (Some q) ns (suc k) = refl

share_fills : (ns : List SearchNode) (ks : List (List ℕ)) (k : ℕ) → fills k (shared_nodes ks ns) ≡ fills k ns
share_fills [] ks k = refl
share_fills (Branch p ∷ ns) ks k = share_fills ns ks (suc k)
share_fills (Same q ∷ []) ks zero = refl
share_fills (Same q ∷ (n ∷ ns)) ks zero = refl
share_fills (Same q ∷ ns) ks (suc k) = share_fills ns ks k
share_fills (OpenEnd ∷ []) ks zero = refl
share_fills (OpenEnd ∷ (n ∷ ns)) ks zero = refl
share_fills (OpenEnd ∷ ns) ks (suc k) = share_fills ns ks k
share_fills (Closing leaf ∷ []) ks zero = leaf_fills leaf (place_of_line (leaf_text leaf) ks) [] zero
share_fills (Closing leaf ∷ (n ∷ ns)) ks zero = leaf_fills leaf (place_of_line (leaf_text leaf) ks) (shared_nodes (with_line ks (leaf_text leaf)) (n ∷ ns)) zero
share_fills (Closing leaf ∷ ns) ks (suc k) = leaf_fills leaf (place_of_line (leaf_text leaf) ks) (shared_nodes (with_line ks (leaf_text leaf)) ns) (suc k) ∙ share_fills ns (with_line ks (leaf_text leaf)) k

leaf_open : (leaf : Leaf) (o : Option ℕ) → is_open (shared_leaf leaf o) ≡ false
leaf_open leaf None = refl
leaf_open leaf (Some q) = refl

share_open : (ns : List SearchNode) (ks : List (List ℕ)) → list_any is_open (shared_nodes ks ns) ≡ list_any is_open ns
share_open [] ks = refl
share_open (Branch p ∷ ns) ks = share_open ns ks
share_open (Same q ∷ ns) ks = share_open ns ks
share_open (OpenEnd ∷ ns) ks = refl
share_open (Closing leaf ∷ ns) ks =
    ap (λ b. b || list_any is_open (shared_nodes (with_line ks (leaf_text leaf)) ns)) (leaf_open leaf (place_of_line (leaf_text leaf) ks)) ∙ share_open ns (with_line ks (leaf_text leaf))

share_closed : (ts : List Tree) (ks : List (List ℕ)) → list_all is_closed_tree (shared_trees ks ts) ≡ list_all is_closed_tree ts
share_closed [] ks = refl
share_closed (t ∷ ts) ks =
    ap (λ b. (b && not (list_any is_open (shared_nodes ks t.nodes))) && list_all is_closed_tree (shared_trees (lines_after ks t.nodes) ts)) (share_fills t.nodes ks 0)
    ∙ ap (λ b. (fills 0 t.nodes && not b) && list_all is_closed_tree (shared_trees (lines_after ks t.nodes) ts)) (share_open t.nodes ks)
    ∙ ap (λ b. is_closed_tree t && b) (share_closed ts (lines_after ks t.nodes))

share_count : (ts : List Tree) (ks : List (List ℕ)) → length (shared_trees ks ts) ≡ length ts
share_count [] ks = refl
share_count (t ∷ ts) ks = omega (arith, share_count ts (lines_after ks t.nodes))

share_last_open : (u : Option Tree) (ks : List (List ℕ)) → is_open_tree (shared_last ks u) ≡ is_open_tree u
share_last_open None ks = refl
share_last_open (Some t) ks = ap (λ b. b && list_any is_open (shared_nodes ks t.nodes)) (share_fills t.nodes ks 0) ∙ ap (λ b. fills 0 t.nodes && b) (share_open t.nodes ks)

share_last_same : (u : Option Tree) (ks : List (List ℕ)) → SameLast u (shared_last ks u)
share_last_same None ks = tt
share_last_same (Some t) ks = tt

share_shaped : (c : Certificate) → is_shaped c ≡ true → is_shaped (share c) ≡ true
share_shaped c h =
    let ks = lines_behind [] c.levels in
    let same = share_last_same c.unfinished ks in
    ap (λ n. fits_count n (shared_last ks c.unfinished) && (list_all is_closed_tree (shared_trees [] c.levels) && is_open_tree (shared_last ks c.unfinished))) (share_count c.levels [])
    ∙ ap (λ b. b && (list_all is_closed_tree (shared_trees [] c.levels) && is_open_tree (shared_last ks c.unfinished))) (last_fits c.unfinished (shared_last ks c.unfinished) (length c.levels) same)
    ∙ ap (λ b. fits_count (length c.levels) c.unfinished && (b && is_open_tree (shared_last ks c.unfinished))) (share_closed c.levels [])
    ∙ ap (λ b. fits_count (length c.levels) c.unfinished && (list_all is_closed_tree c.levels && b)) (share_last_open c.unfinished ks)
    ∙ h

-- ---- version 1: no node names a leaf

abbrev pub is_name : SearchNode → Bool
is_name (Branch p) = false
is_name (Closing leaf) = false
is_name OpenEnd = false
is_name (Same q) = true

abbrev pub no_names : List SearchNode → Bool
no_names ns = list_all (λ n. not (is_name n)) ns

abbrev pub none_in : List Tree → Bool
none_in ts = list_all (λ t. no_names t.nodes) ts

abbrev pub none_last : Option Tree → Bool
none_last None = true
none_last (Some t) = no_names t.nodes

abbrev pub named_two : List (List ℕ) → Named
named_two ks = record { version = 2; lines = ks }

one_nodes : (ns : List SearchNode) (m : Named) → nodes_named (none_named 1) ns ≡ Some m → (no_names ns ≡ true) × (m ≡ none_named 1)
one_nodes [] m h = (refl, sym (same_Some (none_named 1) m h))
one_nodes (Branch p ∷ ns) m h = one_nodes ns m h
one_nodes (Closing leaf ∷ ns) m h = one_nodes ns m h
one_nodes (OpenEnd ∷ ns) m h = one_nodes ns m h
one_nodes (Same q ∷ ns) m h =
    let first = then_is (cond (nat_lt q 0) (Some (none_named 1)) None) (λ next. all_named next (map Node ns)) m h in
    absurd (let l = ltb-true q 0 (cond_some (nat_lt q 0) (none_named 1) first.0 first.1).0 in omega arith)

one_trees : (ts : List Tree) (m : Named) → trees_named (none_named 1) ts ≡ Some m → (none_in ts ≡ true) × (m ≡ none_named 1)
one_trees [] m h = (refl, sym (same_Some (none_named 1) m h))
one_trees (t ∷ ts) m h =
    let first = then_is (nodes_named (none_named 1) t.nodes) (λ next. trees_named next ts) m h in
    let here = one_nodes t.nodes first.0 first.1 in
    let rest = one_trees ts m (ap (λ k. trees_named k ts) (sym here.1) ∙ first.2) in
    (and_from (no_names t.nodes) (none_in ts) here.0 rest.0, rest.1)

one_last : (u : Option Tree) (m : Named) → last_named (none_named 1) u ≡ Some m → none_last u ≡ true
one_last None m h = refl
one_last (Some t) m h = (one_nodes t.nodes m h).0

nodes_one : (ns : List SearchNode) → no_names ns ≡ true → nodes_named (none_named 1) ns ≡ Some (none_named 1)
nodes_one [] h = refl
nodes_one (Branch p ∷ ns) h = nodes_one ns h
nodes_one (Closing leaf ∷ ns) h = nodes_one ns h
nodes_one (OpenEnd ∷ ns) h = nodes_one ns h
nodes_one (Same q ∷ ns) h = absurd (true≢false (sym h))

plain_same_nodes : (ns : List SearchNode) (ls : List Leaf) → no_names ns ≡ true → plain_nodes ls ns ≡ ns
plain_same_nodes [] ls h = refl
plain_same_nodes (Branch p ∷ ns) ls h = ap (λ x. Branch p ∷ x) (plain_same_nodes ns ls h)
plain_same_nodes (Closing leaf ∷ ns) ls h = ap (λ x. Closing leaf ∷ x) (plain_same_nodes ns (ls ++ (leaf ∷ [])) h)
plain_same_nodes (OpenEnd ∷ ns) ls h = ap (λ x. OpenEnd ∷ x) (plain_same_nodes ns ls h)
plain_same_nodes (Same q ∷ ns) ls h = absurd (true≢false (sym h))

pub plain_same_trees : (ts : List Tree) (ls : List Leaf) → none_in ts ≡ true → plain_trees ls ts ≡ ts
plain_same_trees [] ls h = refl
plain_same_trees (t ∷ ts) ls h =
    let parts = and_parts (no_names t.nodes) (none_in ts) h in
    ap (λ ns. tree_with ns ∷ plain_trees (leaves_after ls t.nodes) ts) (plain_same_nodes t.nodes ls parts.0) ∙ ap (λ us. t ∷ us) (plain_same_trees ts (leaves_after ls t.nodes) parts.1)

pub plain_same_last : (u : Option Tree) (ls : List Leaf) → none_last u ≡ true → plain_last ls u ≡ u
plain_same_last None ls h = refl
plain_same_last (Some t) ls h = ap (λ ns. Some (tree_with ns)) (plain_same_nodes t.nodes ls h)

-- ---- version 1: each leaf once

abbrev most : ℕ
most = 9223372036854775807

record Right (ks : List (List ℕ)) (ls : List Leaf) (ns shared : List SearchNode) (behind : List (List ℕ)) : Type 0 where
  pub same : plain_nodes ls shared ≡ ns
  pub texts : behind ≡ map leaf_text (leaves_after ls shared)
  pub leaves : list_all leaf_in_bounds (leaves_after ls shared) ≡ true
  pub named : nodes_named (named_two ks) shared ≡ Some (named_two behind)

right_more : (n : SearchNode) (ks : List (List ℕ)) (ls : List Leaf) (ns shared : List SearchNode) (behind : List (List ℕ)) → plain_node ls n ≡ n → leaves_with ls n ≡ ls → names (named_two ks) n ≡ Some (named_two ks) → Right ks ls ns shared behind → Right ks ls (n ∷ ns) (n ∷ shared) behind
right_more n ks ls ns shared behind same leaves named r = record {
  same = ap (λ x. x ∷ plain_nodes (leaves_with ls n) shared) same ∙ ap (λ x. n ∷ plain_nodes x shared) leaves ∙ ap (λ x. n ∷ x) r.same;
  texts = r.texts ∙ ap (λ x. map leaf_text (leaves_after x shared)) (sym leaves);
  leaves = ap (λ x. list_all leaf_in_bounds (leaves_after x shared)) leaves ∙ r.leaves;
  named = ap (λ o. names_then o (λ next. all_named next (map Node shared))) named ∙ r.named;
}

abbrev RightLeaf : List (List ℕ) → List Leaf → Leaf → List SearchNode → Option ℕ → List (List ℕ) → Type 0
RightLeaf ks ls leaf ns o next = Right ks ls (Closing leaf ∷ ns) (shared_leaf leaf o ∷ shared_nodes next ns) (lines_after next ns)

right_leaf : (leaf : Leaf) (ns : List SearchNode) (ks : List (List ℕ)) (ls : List Leaf) → Placed (leaf_text leaf) ks → leaf_in_bounds leaf ≡ true → ks ≡ map leaf_text ls → list_all leaf_in_bounds ls ≡ true
    → ((ks : List (List ℕ)) (ls : List Leaf) → ks ≡ map leaf_text ls → list_all leaf_in_bounds ls ≡ true → Right ks ls ns (shared_nodes ks ns) (lines_after ks ns))
    → RightLeaf ks ls leaf ns (place_of_line (leaf_text leaf) ks) (with_line ks (leaf_text leaf))
right_leaf leaf ns ks ls (Fresh none place) b e l later =
    let next = ks ++ (leaf_text leaf ∷ []) in
    let rest = later next (ls ++ (leaf ∷ [])) (texts_more ls leaf ks e) (all_more ls leaf l b) in
    let here : RightLeaf ks ls leaf ns None next = record {
      same = ap (λ x. Closing leaf ∷ x) rest.same;
      texts = rest.texts;
      leaves = rest.leaves;
      named = ap (λ c. names_then (cond c None (Some (named_two next))) (λ k. all_named k (map Node (shared_nodes next ns)))) none ∙ rest.named;
    } in
    subst (λ o. RightLeaf ks ls leaf ns o (with_line ks (leaf_text leaf))) (sym place) (subst (RightLeaf ks ls leaf ns None) (sym (ap (λ c. cond c ks next) none)) here)
right_leaf leaf ns ks ls (Known q there place within same) b e l later =
    let rest = later ks ls e l in
    let found : slice_get ls q ≡ Some leaf = named_leaf ls leaf q l b (subst (λ xs. q < length xs) e within) (subst (λ xs. bytes_eq (leaf_text leaf) (get_or xs q []) ≡ true) e same) in
    let here : RightLeaf ks ls leaf ns (Some q) ks = record {
      same = ap (λ o. plain_same q o ∷ plain_nodes ls (shared_nodes ks ns)) found ∙ ap (λ x. Closing leaf ∷ x) rest.same;
      texts = rest.texts;
      leaves = rest.leaves;
      named = ap (λ c. names_then (cond c (Some (named_two ks)) None) (λ k. all_named k (map Node (shared_nodes ks ns)))) (lt-ltb q (length ks) within) ∙ rest.named;
    } in
    subst (λ o. RightLeaf ks ls leaf ns o (with_line ks (leaf_text leaf))) (sym place) (subst (RightLeaf ks ls leaf ns (Some q)) (sym (ap (λ c. cond c ks (ks ++ (leaf_text leaf ∷ []))) there)) here)

shared_right : (ns : List SearchNode) (ks : List (List ℕ)) (ls : List Leaf) → no_names ns ≡ true → nodes_bounded ns ≡ true → ks ≡ map leaf_text ls → list_all leaf_in_bounds ls ≡ true → Right ks ls ns (shared_nodes ks ns) (lines_after ks ns)
shared_right [] ks ls h b e l = record { same = refl; texts = e; leaves = l; named = refl }
shared_right (Branch p ∷ ns) ks ls h b e l = right_more (Branch p) ks ls ns (shared_nodes ks ns) (lines_after ks ns) refl refl refl (shared_right ns ks ls h (and_parts (in_bounds (Node (Branch p))) (nodes_bounded ns) b).1 e l)
shared_right (OpenEnd ∷ ns) ks ls h b e l = right_more OpenEnd ks ls ns (shared_nodes ks ns) (lines_after ks ns) refl refl refl (shared_right ns ks ls h (and_parts (in_bounds (Node OpenEnd)) (nodes_bounded ns) b).1 e l)
shared_right (Same q ∷ ns) ks ls h b e l = absurd (true≢false (sym h))
shared_right (Closing leaf ∷ ns) ks ls h b e l =
    let bounds = and_parts (in_bounds (Node (Closing leaf))) (nodes_bounded ns) b in
    right_leaf leaf ns ks ls (placed (leaf_text leaf) ks) bounds.0 e l (λ ks ls e l. shared_right ns ks ls h bounds.1 e l)

record RightTrees (ks : List (List ℕ)) (ls : List Leaf) (ts shared : List Tree) (behind : List (List ℕ)) : Type 0 where
  pub same : plain_trees ls shared ≡ ts
  pub texts : behind ≡ map leaf_text (leaves_behind ls shared)
  pub leaves : list_all leaf_in_bounds (leaves_behind ls shared) ≡ true
  pub named : trees_named (named_two ks) shared ≡ Some (named_two behind)

trees_right : (ts : List Tree) (ks : List (List ℕ)) (ls : List Leaf) → none_in ts ≡ true → trees_bounded ts ≡ true → ks ≡ map leaf_text ls → list_all leaf_in_bounds ls ≡ true → RightTrees ks ls ts (shared_trees ks ts) (lines_behind ks ts)
trees_right [] ks ls h b e l = record { same = refl; texts = e; leaves = l; named = refl }
trees_right (t ∷ ts) ks ls h b e l =
    let none = and_parts (no_names t.nodes) (none_in ts) h in
    let bounds = and_parts (nodes_bounded t.nodes) (trees_bounded ts) b in
    let here = shared_right t.nodes ks ls none.0 bounds.0 e l in
    let after = leaves_after ls (shared_nodes ks t.nodes) in
    let rest = trees_right ts (lines_after ks t.nodes) after none.1 bounds.1 here.texts here.leaves in
    record {
      same = ap (λ ns. tree_with ns ∷ plain_trees after (shared_trees (lines_after ks t.nodes) ts)) here.same ∙ ap (λ us. t ∷ us) rest.same;
      texts = rest.texts;
      leaves = rest.leaves;
      named = ap (λ o. names_then o (λ next. trees_named next (shared_trees (lines_after ks t.nodes) ts))) here.named ∙ rest.named;
    }

record RightLast (ks : List (List ℕ)) (ls : List Leaf) (u shared : Option Tree) : Type 0 where
  pub same : plain_last ls shared ≡ u
  pub end : Named
  pub named : last_named (named_two ks) shared ≡ Some end

last_right : (u : Option Tree) (ks : List (List ℕ)) (ls : List Leaf) → none_last u ≡ true → last_bounded u ≡ true → ks ≡ map leaf_text ls → list_all leaf_in_bounds ls ≡ true → RightLast ks ls u (shared_last ks u)
last_right None ks ls h b e l = record { same = refl; end = named_two ks; named = refl }
last_right (Some t) ks ls h b e l =
    let here = shared_right t.nodes ks ls h b e l in
    record { same = ap (λ ns. Some (tree_with ns)) here.same; end = named_two (lines_after ks t.nodes); named = here.named }

-- the numbers are small where the lines are few
lines_grow : (ns : List SearchNode) (ks : List (List ℕ)) → length ks ≤ length (lines_after ks ns)
lines_grow [] ks = omega arith
lines_grow (Branch p ∷ ns) ks = lines_grow ns ks
lines_grow (OpenEnd ∷ ns) ks = lines_grow ns ks
lines_grow (Same q ∷ ns) ks = lines_grow ns ks
lines_grow (Closing leaf ∷ ns) ks = let one : length ks ≤ length (with_line ks (leaf_text leaf)) = go (has_line (leaf_text leaf) ks) in omega (arith, one, lines_grow ns (with_line ks (leaf_text leaf)))
  where
    go : (b : Bool) → length ks ≤ length (cond b ks (ks ++ (leaf_text leaf ∷ [])))
    go true = omega arith
    go false = omega (arith, length-append ks (leaf_text leaf ∷ []))

leaf_bounded : (leaf : Leaf) (ks : List (List ℕ)) → length ks ≤ most → leaf_in_bounds leaf ≡ true → in_bounds (Node (shared_leaf leaf (place_of_line (leaf_text leaf) ks))) ≡ true
leaf_bounded leaf ks few b = go (placed (leaf_text leaf) ks)
  where
    go : Placed (leaf_text leaf) ks → in_bounds (Node (shared_leaf leaf (place_of_line (leaf_text leaf) ks))) ≡ true
    go (Fresh none place) = ap (λ o. in_bounds (Node (shared_leaf leaf o))) place ∙ b
    go (Known q there place within same) = ap (λ o. in_bounds (Node (shared_leaf leaf o))) place ∙ le-leb q most (omega arith)

share_bounded : (ns : List SearchNode) (ks : List (List ℕ)) → nodes_bounded ns ≡ true → length (lines_after ks ns) ≤ most → nodes_bounded (shared_nodes ks ns) ≡ true
share_bounded [] ks b few = refl
share_bounded (Branch p ∷ ns) ks b few =
    let parts = and_parts (in_bounds (Node (Branch p))) (nodes_bounded ns) b in
    and_from (in_bounds (Node (Branch p))) (nodes_bounded (shared_nodes ks ns)) parts.0 (share_bounded ns ks parts.1 few)
share_bounded (OpenEnd ∷ ns) ks b few = share_bounded ns ks (and_parts (in_bounds (Node OpenEnd)) (nodes_bounded ns) b).1 few
share_bounded (Same q ∷ ns) ks b few =
    let parts = and_parts (in_bounds (Node (Same q))) (nodes_bounded ns) b in
    and_from (in_bounds (Node (Same q))) (nodes_bounded (shared_nodes ks ns)) parts.0 (share_bounded ns ks parts.1 few)
share_bounded (Closing leaf ∷ ns) ks b few =
    let parts = and_parts (leaf_in_bounds leaf) (nodes_bounded ns) b in
    let next = with_line ks (leaf_text leaf) in
    and_from (in_bounds (Node (shared_leaf leaf (place_of_line (leaf_text leaf) ks)))) (nodes_bounded (shared_nodes next ns)) (leaf_bounded leaf ks (omega (arith, lines_grow (Closing leaf ∷ ns) ks)) parts.0) (share_bounded ns next parts.1 few)

lines_rise : (ts : List Tree) (ks : List (List ℕ)) → length ks ≤ length (lines_behind ks ts)
lines_rise [] ks = omega arith
lines_rise (t ∷ ts) ks = omega (arith, lines_grow t.nodes ks, lines_rise ts (lines_after ks t.nodes))

share_trees_bounded : (ts : List Tree) (ks : List (List ℕ)) → trees_bounded ts ≡ true → length (lines_behind ks ts) ≤ most → trees_bounded (shared_trees ks ts) ≡ true
share_trees_bounded [] ks b few = refl
share_trees_bounded (t ∷ ts) ks b few =
    let parts = and_parts (nodes_bounded t.nodes) (trees_bounded ts) b in
    let next = lines_after ks t.nodes in
    and_from (nodes_bounded (shared_nodes ks t.nodes)) (trees_bounded (shared_trees next ts)) (share_bounded t.nodes ks parts.0 (omega (arith, lines_rise ts next))) (share_trees_bounded ts next parts.1 few)

share_last_bounded : (u : Option Tree) (ks : List (List ℕ)) → last_bounded u ≡ true → length (last_lines ks u) ≤ most → last_bounded (shared_last ks u) ≡ true
share_last_bounded None ks b few = refl
share_last_bounded (Some t) ks b few = share_bounded t.nodes ks b few

last_rise : (u : Option Tree) (ks : List (List ℕ)) → length ks ≤ length (last_lines ks u)
last_rise None ks = omega arith
last_rise (Some t) ks = lines_grow t.nodes ks

-- ---- version 2: each leaf is there once

abbrev TwoLeaf : Leaf → List SearchNode → Named → Option ℕ → List (List ℕ) → Type 0
TwoLeaf leaf ns m o ks = (shared_leaf leaf o ∷ shared_nodes ks ns ≡ Closing leaf ∷ ns) × (m ≡ named_two (lines_after ks ns))

two_leaf : (leaf : Leaf) (ns : List SearchNode) (ks : List (List ℕ)) (m : Named) → Placed (leaf_text leaf) ks → nodes_named (named_two ks) (Closing leaf ∷ ns) ≡ Some m
    → ((ks : List (List ℕ)) → nodes_named (named_two ks) ns ≡ Some m → (shared_nodes ks ns ≡ ns) × (m ≡ named_two (lines_after ks ns))) → TwoLeaf leaf ns m (place_of_line (leaf_text leaf) ks) (with_line ks (leaf_text leaf))
two_leaf leaf ns ks m (Fresh none place) h later =
    let next = ks ++ (leaf_text leaf ∷ []) in
    let rest = later next (sym (ap (λ c. names_then (cond c None (Some (named_two next))) (λ k. all_named k (map Node ns))) none) ∙ h) in
    let here : TwoLeaf leaf ns m None next = (ap (λ x. Closing leaf ∷ x) rest.0, rest.1) in
    subst (λ o. TwoLeaf leaf ns m o (with_line ks (leaf_text leaf))) (sym place) (subst (TwoLeaf leaf ns m None) (sym (ap (λ c. cond c ks next) none)) here)
two_leaf leaf ns ks m (Known q there place within same) h later =
    absurd (none-some m (sym (ap (λ c. names_then (cond c None (Some (named_two (ks ++ (leaf_text leaf ∷ []))))) (λ k. all_named k (map Node ns))) there) ∙ h))

two_nodes : (ns : List SearchNode) (ks : List (List ℕ)) (m : Named) → nodes_named (named_two ks) ns ≡ Some m → (shared_nodes ks ns ≡ ns) × (m ≡ named_two (lines_after ks ns))
two_nodes [] ks m h = (refl, sym (same_Some (named_two ks) m h))
two_nodes (Branch p ∷ ns) ks m h = let rest = two_nodes ns ks m h in (ap (λ x. Branch p ∷ x) rest.0, rest.1)
two_nodes (OpenEnd ∷ ns) ks m h = let rest = two_nodes ns ks m h in (ap (λ x. OpenEnd ∷ x) rest.0, rest.1)
two_nodes (Same q ∷ ns) ks m h =
    let first = then_is (cond (nat_lt q (length ks)) (Some (named_two ks)) None) (λ next. all_named next (map Node ns)) m h in
    let same = (cond_some (nat_lt q (length ks)) (named_two ks) first.0 first.1).1 in
    let rest = two_nodes ns ks m (ap (λ k. all_named k (map Node ns)) same ∙ first.2) in
    (ap (λ x. Same q ∷ x) rest.0, rest.1)
two_nodes (Closing leaf ∷ ns) ks m h = two_leaf leaf ns ks m (placed (leaf_text leaf) ks) h (λ ks e. two_nodes ns ks m e)

two_trees : (ts : List Tree) (ks : List (List ℕ)) (m : Named) → trees_named (named_two ks) ts ≡ Some m → (shared_trees ks ts ≡ ts) × (m ≡ named_two (lines_behind ks ts))
two_trees [] ks m h = (refl, sym (same_Some (named_two ks) m h))
two_trees (t ∷ ts) ks m h =
    let first = then_is (nodes_named (named_two ks) t.nodes) (λ next. trees_named next ts) m h in
    let here = two_nodes t.nodes ks first.0 first.1 in
    let rest = two_trees ts (lines_after ks t.nodes) m (ap (λ k. trees_named k ts) (sym here.1) ∙ first.2) in
    (ap (λ ns. tree_with ns ∷ shared_trees (lines_after ks t.nodes) ts) here.0 ∙ ap (λ us. t ∷ us) rest.0, rest.1)

two_last : (u : Option Tree) (ks : List (List ℕ)) (m : Named) → last_named (named_two ks) u ≡ Some m → shared_last ks u ≡ u
two_last None ks m h = refl
two_last (Some t) ks m h = ap (λ ns. Some (tree_with ns)) (two_nodes t.nodes ks m h).0

pub record PlainRight (ls : List Leaf) (ns : List SearchNode) (m : Named) : Type 0 where
  pub none : no_names (plain_nodes ls ns) ≡ true
  pub bounded : nodes_bounded (plain_nodes ls ns) ≡ true
  pub lines : m ≡ named_two (map leaf_text (leaves_after ls ns))
  pub leaves : list_all leaf_in_bounds (leaves_after ls ns) ≡ true

pub some_at : (ls : List Leaf) (q : ℕ) → q < length ls → (leaf : Leaf) × (slice_get ls q ≡ Some leaf)
some_at [] q l = absurd (omega arith)
some_at (x ∷ ls) zero l = (x, refl)
some_at (x ∷ ls) (suc q) l = some_at ls q (omega arith)

pub plain_right : (ns : List SearchNode) (ls : List Leaf) (m : Named) → nodes_named (named_two (map leaf_text ls)) ns ≡ Some m → nodes_bounded ns ≡ true → list_all leaf_in_bounds ls ≡ true → PlainRight ls ns m
plain_right [] ls m h b l = record { none = refl; bounded = refl; lines = sym (same_Some (named_two (map leaf_text ls)) m h); leaves = l }
plain_right (Branch p ∷ ns) ls m h b l =
    let parts = and_parts (in_bounds (Node (Branch p))) (nodes_bounded ns) b in
    let rest = plain_right ns ls m h parts.1 l in
    record { none = rest.none; bounded = and_from (in_bounds (Node (Branch p))) (nodes_bounded (plain_nodes ls ns)) parts.0 rest.bounded; lines = rest.lines; leaves = rest.leaves }
plain_right (OpenEnd ∷ ns) ls m h b l =
    let rest = plain_right ns ls m h (and_parts (in_bounds (Node OpenEnd)) (nodes_bounded ns) b).1 l in
    record { none = rest.none; bounded = rest.bounded; lines = rest.lines; leaves = rest.leaves }
plain_right (Same q ∷ ns) ls m h b l =
    let ks = map leaf_text ls in
    let first = then_is (cond (nat_lt q (length ks)) (Some (named_two ks)) None) (λ next. all_named next (map Node ns)) m h in
    let both = cond_some (nat_lt q (length ks)) (named_two ks) first.0 first.1 in
    let within : q < length ls = omega (arith, ltb-true q (length ks) both.0, length-map ls leaf_text) in
    let at = some_at ls q within in
    let rest = plain_right ns ls m (ap (λ k. all_named k (map Node ns)) both.1 ∙ first.2) (and_parts (in_bounds (Node (Same q))) (nodes_bounded ns) b).1 l in
    record {
      none = ap (λ o. not (is_name (plain_same q o)) && no_names (plain_nodes ls ns)) at.1 ∙ rest.none;
      bounded = ap (λ o. in_bounds (Node (plain_same q o)) && nodes_bounded (plain_nodes ls ns)) at.1 ∙ and_from (leaf_in_bounds at.0) (nodes_bounded (plain_nodes ls ns)) (at_bounds ls q at.0 l at.1) rest.bounded;
      lines = rest.lines;
      leaves = rest.leaves;
    }
plain_right (Closing leaf ∷ ns) ls m h b l =
    let ks = map leaf_text ls in
    let parts = and_parts (leaf_in_bounds leaf) (nodes_bounded ns) b in
    let next = ks ++ (leaf_text leaf ∷ []) in
    let first = then_is (cond (has_line (leaf_text leaf) ks) None (Some (named_two next))) (λ k. all_named k (map Node ns)) m h in
    let same = fresh (has_line (leaf_text leaf) ks) (named_two next) first.0 first.1 in
    let rest = plain_right ns (ls ++ (leaf ∷ [])) m (ap (λ xs. all_named (named_two xs) (map Node ns)) (map-append leaf_text ls (leaf ∷ [])) ∙ ap (λ k. all_named k (map Node ns)) same ∙ first.2) parts.1 (all_more ls leaf l parts.0) in
    record { none = rest.none; bounded = and_from (leaf_in_bounds leaf) (nodes_bounded (plain_nodes (ls ++ (leaf ∷ [])) ns)) parts.0 rest.bounded; lines = rest.lines; leaves = rest.leaves }
  where
    fresh : (c : Bool) (x y : Named) → cond c None (Some x) ≡ Some y → x ≡ y
    fresh true x y e = absurd (none-some y e)
    fresh false x y e = same_Some x y e

pub record PlainTrees (ls : List Leaf) (ts : List Tree) (m : Named) : Type 0 where
  pub none : none_in (plain_trees ls ts) ≡ true
  pub bounded : trees_bounded (plain_trees ls ts) ≡ true
  pub lines : m ≡ named_two (map leaf_text (leaves_behind ls ts))
  pub leaves : list_all leaf_in_bounds (leaves_behind ls ts) ≡ true

pub plain_trees_right : (ts : List Tree) (ls : List Leaf) (m : Named) → trees_named (named_two (map leaf_text ls)) ts ≡ Some m → trees_bounded ts ≡ true → list_all leaf_in_bounds ls ≡ true → PlainTrees ls ts m
plain_trees_right [] ls m h b l = record { none = refl; bounded = refl; lines = sym (same_Some (named_two (map leaf_text ls)) m h); leaves = l }
plain_trees_right (t ∷ ts) ls m h b l =
    let parts = and_parts (nodes_bounded t.nodes) (trees_bounded ts) b in
    let first = then_is (nodes_named (named_two (map leaf_text ls)) t.nodes) (λ next. trees_named next ts) m h in
    let here = plain_right t.nodes ls first.0 first.1 parts.0 l in
    let rest = plain_trees_right ts (leaves_after ls t.nodes) m (ap (λ k. trees_named k ts) (sym here.lines) ∙ first.2) parts.1 here.leaves in
    record {
      none = and_from (no_names (plain_nodes ls t.nodes)) (none_in (plain_trees (leaves_after ls t.nodes) ts)) here.none rest.none;
      bounded = and_from (nodes_bounded (plain_nodes ls t.nodes)) (trees_bounded (plain_trees (leaves_after ls t.nodes) ts)) here.bounded rest.bounded;
      lines = rest.lines;
      leaves = rest.leaves;
    }

plain_last_right : (u : Option Tree) (ls : List Leaf) (m : Named) → last_named (named_two (map leaf_text ls)) u ≡ Some m → last_bounded u ≡ true → list_all leaf_in_bounds ls ≡ true → (none_last (plain_last ls u) ≡ true) × (last_bounded (plain_last ls u) ≡ true)
plain_last_right None ls m h b l = (refl, refl)
plain_last_right (Some t) ls m h b l = let here = plain_right t.nodes ls m h b l in (here.none, here.bounded)

trees_one : (ts : List Tree) → none_in ts ≡ true → trees_named (none_named 1) ts ≡ Some (none_named 1)
trees_one [] h = refl
trees_one (t ∷ ts) h =
    let parts = and_parts (no_names t.nodes) (none_in ts) h in
    ap (λ o. names_then o (λ next. trees_named next ts)) (nodes_one t.nodes parts.0) ∙ trees_one ts parts.1

last_one : (u : Option Tree) → none_last u ≡ true → last_named (none_named 1) u ≡ Some (none_named 1)
last_one None h = refl
last_one (Some t) h = nodes_one t.nodes h

-- ---- the whole certificate

pub record Names (c : Certificate) : Type 0 where
  pub middle : Named
  pub end : Named
  pub trees : trees_named (none_named c.version) c.levels ≡ Some middle
  pub last : last_named middle c.unfinished ≡ Some end

pub names_of : (c : Certificate) (end : Named) → all_named (none_named 0) (lines_of c) ≡ Some end → Names c
names_of c end h =
    let first = then_is (trees_named (none_named c.version) c.levels) (λ m. last_named m c.unfinished) end (sym (names_are c) ∙ h) in
    record { middle = first.0; end = end; trees = first.1; last = first.2 }

names_from : (c : Certificate) (middle end : Named) → trees_named (none_named c.version) c.levels ≡ Some middle → last_named middle c.unfinished ≡ Some end → all_named (none_named 0) (lines_of c) ≡ Some end
names_from c middle end trees last = names_are c ∙ ap (λ o. names_then o (λ m. last_named m c.unfinished)) trees ∙ last

-- a certificate of version 1
pub record One (c : Certificate) : Type 0 where
  pub version : c.version ≡ 1
  pub trees : none_in c.levels ≡ true
  pub last : none_last c.unfinished ≡ true

pub one_is : (c : Certificate) → c.version ≡ 1 → Names c → One c
one_is c v n =
    let trees = one_trees c.levels n.middle (ap (λ k. trees_named (none_named k) c.levels) (sym v) ∙ n.trees) in
    record { version = v; trees = trees.0; last = one_last c.unfinished n.end (ap (λ k. last_named k c.unfinished) (sym trees.1) ∙ n.last) }

pub one_plain : (c : Certificate) → One c → plain c ≡ c
one_plain c one =
    let levels = plain_same_trees c.levels [] one.trees in
    let last = plain_same_last c.unfinished (leaves_behind [] c.levels) one.last in
    ap (λ ts. record c { version = 1; levels = ts; unfinished = plain_last (leaves_behind [] c.levels) c.unfinished }) levels
    ∙ ap (λ u. record c { version = 1; unfinished = u }) last ∙ ap (λ v. record c { version = v }) (sym one.version)

one_share : (c : Certificate) → One c → Bounds c → plain (share c) ≡ c
one_share c one b =
    let trees = trees_right c.levels [] [] one.trees (blocks_bounded c.levels 0 b.blocks) refl refl in
    let last = last_right c.unfinished (lines_behind [] c.levels) (leaves_behind [] (shared_trees [] c.levels)) one.last (open_bounded c.unfinished (length c.levels) b.last) trees.texts trees.leaves in
    let shared = shared_last (lines_behind [] c.levels) c.unfinished in
    ap (λ ts. record c { version = 1; levels = ts; unfinished = plain_last (leaves_behind [] (shared_trees [] c.levels)) shared }) trees.same
    ∙ ap (λ u. record c { version = 1; unfinished = u }) last.same ∙ ap (λ v. record c { version = v }) (sym one.version)

two_share : (c : Certificate) → c.version ≡ 2 → Names c → share c ≡ c
two_share c v n =
    let trees = two_trees c.levels [] n.middle (ap (λ k. trees_named (none_named k) c.levels) (sym v) ∙ n.trees) in
    let last = two_last c.unfinished (lines_behind [] c.levels) n.end (ap (λ k. last_named k c.unfinished) (sym trees.1) ∙ n.last) in
    ap (λ ts. record c { version = 2; levels = ts; unfinished = shared_last (lines_behind [] c.levels) c.unfinished }) trees.0
    ∙ ap (λ u. record c { version = 2; unfinished = u }) last ∙ ap (λ k. record c { version = k }) (sym v)

pub one_or_two : (v : ℕ) → is_version v ≡ true → (v ≡ 1) ⊎ (v ≡ 2)
one_or_two v h =
    let parts = and_parts (nat_le 1 v) (nat_le v 2) h in
    let low = leb-true 1 v parts.0 in
    let high = leb-true v 2 parts.1 in
    elim (cases_eq v 1) [ inl one ↦ inl one | inr other ↦ inr (omega (arith, low, high, other)) ]

-- both forms have one plain form
pub share_plain : (c : Certificate) → is_writable c ≡ true → plain (share c) ≡ plain c
share_plain c h =
    let w = writable_is c h in
    let b = bounds_are c w.bounded in
    let n = names_of c w.end w.named in
    elim (one_or_two c.version b.version) [
      | inl one ↦ let is = one_is c one n in one_share c is b ∙ sym (one_plain c is)
      | inr two ↦ ap plain (two_share c two n)
    ]

pub plain_of_one : (c : Certificate) → is_writable c ≡ true → c.version ≡ 1 → plain c ≡ c
plain_of_one c h v = let w = writable_is c h in one_plain c (one_is c v (names_of c w.end w.named))

pub share_of_two : (c : Certificate) → is_writable c ≡ true → c.version ≡ 2 → share c ≡ c
share_of_two c h v = let w = writable_is c h in two_share c v (names_of c w.end w.named)

pub plain_writable : (c : Certificate) → is_writable c ≡ true → is_writable (plain c) ≡ true
plain_writable c h =
    let w = writable_is c h in
    let b = bounds_are c w.bounded in
    let n = names_of c w.end w.named in
    elim (one_or_two c.version b.version) [
      | inl one ↦ ap is_writable (one_plain c (one_is c one n)) ∙ h
      | inr two ↦
          let trees = plain_trees_right c.levels [] n.middle (ap (λ k. trees_named (none_named k) c.levels) (sym two) ∙ n.trees) (blocks_bounded c.levels 0 b.blocks) refl in
          let ls = leaves_behind [] c.levels in
          let last = plain_last_right c.unfinished ls n.end (ap (λ k. last_named k c.unfinished) (sym trees.lines) ∙ n.last) (open_bounded c.unfinished (length c.levels) b.last) trees.leaves in
          writable_from (plain c) (none_named 1) (plain_shaped c w.shaped) (names_from (plain c) (none_named 1) (none_named 1) (trees_one (plain_trees [] c.levels) trees.none) (last_one (plain_last ls c.unfinished) last.0))
          (bounds_from c (plain c) b refl refl refl (plain_count c.levels []) trees.bounded (plain_last_same c.unfinished ls) last.1)
    ]

pub share_writable : (c : Certificate) → is_writable c ≡ true → length (kept_lines c) ≤ 9223372036854775807 → is_writable (share c) ≡ true
share_writable c h few =
    let w = writable_is c h in
    let b = bounds_are c w.bounded in
    let n = names_of c w.end w.named in
    elim (one_or_two c.version b.version) [
      | inl one ↦
          let is = one_is c one n in
          let ks = lines_behind [] c.levels in
          let trees = trees_right c.levels [] [] is.trees (blocks_bounded c.levels 0 b.blocks) refl refl in
          let last = last_right c.unfinished ks (leaves_behind [] (shared_trees [] c.levels)) is.last (open_bounded c.unfinished (length c.levels) b.last) trees.texts trees.leaves in
          writable_from (share c) last.end (share_shaped c w.shaped) (names_from (share c) (named_two ks) last.end trees.named last.named)
          (bounds_from c (share c) b refl refl refl (share_count c.levels []) (share_trees_bounded c.levels [] (blocks_bounded c.levels 0 b.blocks) (omega (arith, last_rise c.unfinished ks)))
          (share_last_same c.unfinished ks) (share_last_bounded c.unfinished ks (open_bounded c.unfinished (length c.levels) b.last) few))
      | inr two ↦ ap is_writable (two_share c two n) ∙ h
    ]

-- other trees in a copy
pub with_trees_are : (c d : Certificate) (v : ℕ) (ts us : List Tree) (t u : Option Tree) → d ≡ record c { version = v; levels = ts; unfinished = t } → ts ≡ us → t ≡ u → d ≡ record c { version = v; levels = us; unfinished = u }
with_trees_are c d v ts us t u e l m = e ∙ ap (λ x. record c { version = v; levels = x; unfinished = t }) l ∙ ap (λ x. record c { version = v; levels = us; unfinished = x }) m
