-- What a search found makes a certificate inside the bounds of its lines.
use Rattle.std.proofs.Common.{ℕ, ◌≡◌, ◌<◌, ◌≤◌, ◌+◌, ◌^◌, arith, refl, sym, ◌∙◌, ap, subst, suc, Bool, true, false, not, ◌&&◌, List, [], ◌∷◌, ◌++◌, map, length, take, inl, inr}
use Rattle.std.specs.Prelude.{ℤ, pos, nat_le, nat_lt, Option, Some, None, is_some, slice_index, slice_index_or, unsigned_abs}
use Rattle.std.specs.List.{list_all, list_any, All}
use Rattle.std.proofs.lemmas.Bool.{and_parts, and_from, cases_eq, le-leb, lt-ltb, not_from_false, ltb-true, true≢false}
use Rattle.std.proofs.lemmas.List.Folds.{list_all-append}
use Rattle.std.proofs.lemmas.Int.{ints}
use Rattle.problem_core.specs.Facts.{Facts}
use Rattle.problem_core.specs.Choice.{IsLegal, entry}
use Rattle.problem_core.specs.Measures.{measure, measures}
use Rattle.duality.specs.declared.leaf.Node.{Node}
use Rattle.duality.specs.declared.leaf.Node.TheVariants.{Branch, Leaf as Closing, OpenEnd, Same}
use Rattle.duality.specs.Packing.{Packing, Weights, Stage, Fixing}
use Rattle.duality.specs.Sums.{IsWithin, is_small}
use Rattle.duality.specs.Tree.{with_zero, with_one, nothing_fixed, can_branch, ends_at, proves_all}
use Rattle.duality.specs.After.{after, are_right, is_open}
use Rattle.packing_model.specs.Cuts.{IsCutOf}
use Rattle.packing_model.specs.Rising.{rises_from, is_rising}
use Rattle.cert_text.specs.declared.lines.Tree.{Tree}
use Rattle.cert_text.specs.declared.lines.Certificate.{Certificate}
use Rattle.cert_text.specs.declared.lines.CertLine.{CertLine}
use Rattle.cert_text.specs.declared.lines.CertLine.TheVariants as lines
use Rattle.cert_text.specs.Grammar.{blocks, open_block, lines_of, fills, is_closed_tree, is_open_tree, fits_count, is_shaped, is_named, is_writable}
use Rattle.cert_text.specs.Sharing.{none_named, named, all_named}
use Rattle.cert_text.specs.Spelling.{in_bounds, is_rising as is_rising_line, rises_above}
use Rattle.branch_tree.specs.Growths.{IsFineNode}
use Rattle.meeting_patterns.specs.Pattern.{patterns_of}
use Rattle.packing_model.specs.Built.{packing, measured, rows_of}
use Rattle.packing_model.specs.Nodes.{stage_at}
use Rattle.search_nodes.specs.Choices.{weighs}
use Rattle.branch_tree.proofs.NodeLaws.{AreFew, nodes_bounded}
use Rattle.lex_driver.specs.Searches.{nodes_at, AreProved, proved_stage}
use Rattle.lex_driver.specs.Solving.{found_of, IsFoundSearch, IsEnd}
use Rattle.lex_driver.specs.Writing.{is_plain_node, is_plain_line, IsTreeWithin, IsLeft, IsFound}
use Rattle.lex_driver.specs.declared.search.Search.{Search}

-- ---- nodes that fill a tree

nothing_right : (k : Packing) (w : Weights) (s : Stage) (ns : List Node) → are_right k w s [] ns ≡ true → ns ≡ []
nothing_right k w s [] h = refl
nothing_right k w s (n ∷ ns) h = absurd (true≢false (sym h))

pub tree_fills : (k : Packing) (w : Weights) (s : Stage) (f : Fixing) (fs : List Fixing) (ns : List Node) → are_right k w s (f ∷ fs) ns ≡ true → after (f ∷ fs) ns ≡ [] → fills (length fs) ns ≡ true
tree_fills k w s f fs [] h e = absurd (let n : length (f ∷ fs) ≡ 0 = ap length e in omega arith)
tree_fills k w s f fs (Branch p ∷ ns) h e = tree_fills k w s (with_zero p f) (with_one p f ∷ fs) ns (and_parts (can_branch k f p) (are_right k w s (with_zero p f ∷ with_one p f ∷ fs) ns) h).1 e
tree_fills k w s f [] (Closing leaf ∷ ns) h e = let none = nothing_right k w s ns (and_parts (ends_at k w s f leaf) (are_right k w s [] ns) h).1 in rw none refl
tree_fills k w s f (g ∷ fs) (Closing leaf ∷ ns) h e = tree_fills k w s g fs ns (and_parts (ends_at k w s f leaf) (are_right k w s (g ∷ fs) ns) h).1 e
tree_fills k w s f [] (OpenEnd ∷ ns) h e = let none = nothing_right k w s ns h in rw none refl
tree_fills k w s f (g ∷ fs) (OpenEnd ∷ ns) h e = tree_fills k w s g fs ns h e
tree_fills k w s f fs (Same leaf ∷ ns) h e = absurd (true≢false (sym h))

-- ---- lines that name no leaf

plain_named : (l : CertLine) → is_plain_line l ≡ true → named (none_named 1) l ≡ Some (none_named 1)
plain_named (lines.Head version) h = absurd (true≢false (sym h))
plain_named (lines.Sizes patterns rows) h = refl
plain_named (lines.Choice entries) h = refl
plain_named (lines.Values values) h = refl
plain_named (lines.Cuts count) h = refl
plain_named (lines.Cut patterns) h = refl
plain_named (lines.Level level) h = refl
plain_named (lines.Unfinished level) h = refl
plain_named (lines.Node (Branch p)) h = refl
plain_named (lines.Node (Closing leaf)) h = refl
plain_named (lines.Node OpenEnd) h = refl
plain_named (lines.Node (Same leaf)) h = absurd (true≢false (sym h))
plain_named (lines.End levels) h = refl

all_plain : (ls : List CertLine) → list_all is_plain_line ls ≡ true → all_named (none_named 1) ls ≡ Some (none_named 1)
all_plain [] h = refl
all_plain (l ∷ ls) h =
    let parts = and_parts (is_plain_line l) (list_all is_plain_line ls) h in
    rw (plain_named l parts.0) (all_plain ls parts.1)

fine_plain : (ns : List Node) → All IsFineNode ns → list_all is_plain_line (map lines.Node ns) ≡ true
fine_plain [] h = refl
fine_plain (n ∷ ns) h = and_from (is_plain_node n) (list_all is_plain_line (map lines.Node ns)) (here n (h 0 n (omega arith))) (fine_plain ns (λ i d l. h (suc i) d (omega arith)))
  where
    here : (n : Node) → IsFineNode n → is_plain_node n ≡ true
    here (Branch p) f = refl
    here (Closing leaf) f = refl
    here OpenEnd f = refl
    here (Same leaf) f = absurd f

-- ---- each line passes a test

module _ (test : CertLine → Bool) where
  blocks_all : (n : ℕ) (ts : List Tree) → ((j : ℕ) → j ≤ n + length ts → test (lines.Level j) ≡ true) → ((i : ℕ) → i < length ts → list_all test (map lines.Node (nodes_at ts i)) ≡ true) → list_all test (blocks n ts) ≡ true
  blocks_all n [] level nodes = refl
  blocks_all n (t ∷ ts) level nodes =
      and_from (test (lines.Level (n + 1))) _ (level (n + 1) (omega arith))
      (list_all-append test (map lines.Node t.nodes) (blocks (n + 1) ts)
      ∙ and_from (list_all test (map lines.Node t.nodes)) (list_all test (blocks (n + 1) ts)) (nodes 0 (omega arith))
      (blocks_all (n + 1) ts (λ j l. level j (omega arith)) (λ i l. nodes (suc i) (omega arith))))

  cuts_all : (cuts : List (List ℕ)) → ((i : ℕ) → i < length cuts → test (lines.Cut (slice_index_or cuts i [])) ≡ true) → list_all test (map lines.Cut cuts) ≡ true
  cuts_all [] h = refl
  cuts_all (ps ∷ cuts) h = and_from (test (lines.Cut ps)) (list_all test (map lines.Cut cuts)) (h 0 (omega arith)) (cuts_all cuts (λ i l. h (suc i) (omega arith)))

-- ---- numbers

-- entries up to n
all_at_most : (n : ℕ) (xs : List ℕ) → ((i : ℕ) → i < length xs → slice_index xs i ≤ n) → list_all (λ x. nat_le x n) xs ≡ true
all_at_most n [] h = refl
all_at_most n (x ∷ xs) h = and_from (nat_le x n) (list_all (λ y. nat_le y n) xs) (le-leb x n (h 0 (omega arith))) (all_at_most n xs (λ i l. h (suc i) (omega arith)))

all_below : (n m : ℕ) (ps : List ℕ) → n ≤ suc m → list_all (λ p. nat_lt p n) ps ≡ true → list_all (λ p. nat_le p m) ps ≡ true
all_below n m [] l h = refl
all_below n m (p ∷ ps) l h =
    let parts = and_parts (nat_lt p n) (list_all (λ q. nat_lt q n) ps) h in
    and_from (nat_le p m) (list_all (λ q. nat_le q m) ps) (le-leb p m (omega (arith, l, ltb-true p n parts.0))) (all_below n m ps l parts.1)

rising_from_line : (p : ℕ) (ps : List ℕ) → rises_from p ps ≡ true → rises_above p ps ≡ true
rising_from_line p [] h = refl
rising_from_line p (q ∷ qs) h =
    let parts = and_parts (nat_lt p q) (rises_from q qs) h in
    and_from (nat_lt p q) (rises_above q qs) parts.0 (rising_from_line q qs parts.1)

rising_line : (ps : List ℕ) → is_rising ps ≡ true → is_rising_line ps ≡ true
rising_line [] h = refl
rising_line (p ∷ ps) h = rising_from_line p ps h

cut_bounded : (k : Packing) (ps : List ℕ) → k.count ≤ 200000 → IsCutOf k ps → in_bounds (lines.Cut ps) ≡ true
cut_bounded k ps few h =
    and_from (nat_le 2 (length ps)) _ (le-leb 2 (length ps) h.list.some)
    (and_from (nat_le (length ps) 1000) _ (le-leb (length ps) 1000 h.list.few)
    (and_from (list_all (λ p. nat_le p 199999) ps) (is_rising_line ps) (all_below k.count 199999 ps (omega (arith, few)) h.list.known) (rising_line ps h.list.rising)))

choice_bounded : (p : Facts) (a : List ℕ) → length p.events ≤ 4000 → length p.capacity ≤ 200 → IsLegal p a → in_bounds (lines.Choice a) ≡ true
choice_bounded p a events rooms legal =
    and_from (nat_le (length a) 4000) (list_all (λ x. nat_le x 200) a) (le-leb (length a) 4000 (omega (arith, events, legal.one_each)))
    (all_at_most 200 a (λ e l. elim (cases_eq (entry a e) 0) [
      | inl none ↦ omega (arith, none)
      | inr some ↦ omega (arith, legal.known e l some, rooms)
    ]))

small_is : (z : ℤ) → IsWithin (10 ^ 12) z → is_small (10 ^ 12) z ≡ true
small_is z h = le-leb (unsigned_abs z) (10 ^ 12) (omega (arith, ints, h.low, h.high))

values_bounded : (p : Facts) (a : List ℕ) → ((j : ℕ) → IsWithin (10 ^ 12) (measure p j a)) → in_bounds (lines.Values (measures p a)) ≡ true
values_bounded p a small =
    let six : (j : ℕ) → is_small (10 ^ 12) (measure p j a) ≡ true = λ j. small_is (measure p j a) (small j) in
    and_from (is_small (10 ^ 12) (measure p 1 a)) _ (six 1) (and_from (is_small (10 ^ 12) (measure p 2 a)) _ (six 2) (and_from (is_small (10 ^ 12) (measure p 3 a)) _ (six 3)
    (and_from (is_small (10 ^ 12) (measure p 4 a)) _ (six 4) (and_from (is_small (10 ^ 12) (measure p 5 a)) _ (six 5) (and_from (is_small (10 ^ 12) (measure p 6 a)) true (six 6) refl)))))

-- ---- the certificate

-- a tree of a search over few patterns, rows and cuts
pub right_within : (k : Packing) (w : Weights) (s : Stage) (ns : List Node) → AreFew k w s → are_right k w s (nothing_fixed ∷ []) ns ≡ true → after (nothing_fixed ∷ []) ns ≡ [] → All IsFineNode ns → IsTreeWithin ns
right_within k w s ns few right behind fine = record {
  filled = tree_fills k w s nothing_fixed [] ns right behind;
  plain = fine_plain ns fine;
  bounded = nodes_bounded k w s few (nothing_fixed ∷ []) ns right fine;
}

left_count : (n : ℕ) (o : Option Tree) → IsLeft n o → fits_count n o ≡ true
left_count n None h = lt-ltb n 7 (omega arith)
left_count n (Some t) h = lt-ltb n 6 h.0

few_left : (n : ℕ) (o : Option Tree) → IsLeft n o → n ≤ 6
few_left n None h = h
few_left n (Some t) h = omega (arith, h.0)

left_open : (n : ℕ) (o : Option Tree) → IsLeft n o → is_open_tree o ≡ true
left_open n None h = refl
left_open n (Some t) h = and_from (fills 0 t.nodes) (list_any is_open t.nodes) h.1.filled h.2

left_all : (test : CertLine → Bool) (n : ℕ) (o : Option Tree) → ((j : ℕ) → j ≤ 6 → test (lines.Unfinished j) ≡ true) → ((t : Tree) → o ≡ Some t → list_all test (map lines.Node t.nodes) ≡ true) → IsLeft n o → list_all test (open_block n o) ≡ true
left_all test n None level nodes h = refl
left_all test n (Some t) level nodes h = and_from (test (lines.Unfinished (n + 1))) (list_all test (map lines.Node t.nodes)) (level (n + 1) (omega (arith, h.0))) (nodes t refl)

left_within : (n : ℕ) (o : Option Tree) → IsLeft n o → (t : Tree) → o ≡ Some t → IsTreeWithin t.nodes
left_within n None h t e = absurd (cc)
left_within n (Some u) h t e = subst (λ (x : Tree). IsTreeWithin x.nodes) (cc) h.1

all_closed : (ts : List Tree) → ((i : ℕ) → i < length ts → IsTreeWithin (nodes_at ts i) × (list_any is_open (nodes_at ts i) ≡ false)) → list_all is_closed_tree ts ≡ true
all_closed [] h = refl
all_closed (t ∷ ts) h =
    let here = h 0 (omega arith) in
    and_from (is_closed_tree t) (list_all is_closed_tree ts) (and_from (fills 0 t.nodes) (not (list_any is_open t.nodes)) here.0.filled (not_from_false (list_any is_open t.nodes) here.1)) (all_closed ts (λ i l. h (suc i) (omega arith)))

module _ (p : Facts) (trees : List Tree) (unfinished : Option Tree) (cuts : List (List ℕ)) (a : List ℕ) (h : IsFound p trees unfinished cuts a) where
  -- the lines behind the head
  rest_all : (test : CertLine → Bool) → test (lines.Sizes (length (patterns_of p)) (length (rows_of p))) ≡ true → test (lines.Choice a) ≡ true → test (lines.Values (measures p a)) ≡ true → test (lines.Cuts (length cuts)) ≡ true
      → ((i : ℕ) → i < length cuts → test (lines.Cut (slice_index_or cuts i [])) ≡ true) → ((j : ℕ) → j ≤ 6 → test (lines.Level j) ≡ true) → ((j : ℕ) → j ≤ 6 → test (lines.Unfinished j) ≡ true) → ((j : ℕ) → j ≤ 6 → test (lines.End j) ≡ true)
      → ((ns : List Node) → IsTreeWithin ns → list_all test (map lines.Node ns) ≡ true)
      → list_all test (lines.Sizes (length (patterns_of p)) (length (rows_of p)) ∷ (lines.Choice a ∷ (lines.Values (measures p a) ∷ (lines.Cuts (length cuts) ∷ (map lines.Cut cuts ++ (blocks 0 trees ++ (open_block (length trees) unfinished ++ (lines.End (length trees) ∷ [])))))))) ≡ true
  rest_all test sizes choice values count each level left end nodes =
      let n = few_left (length trees) unfinished h.left in
      let tail = open_block (length trees) unfinished ++ (lines.End (length trees) ∷ []) in
      and_from (test (lines.Sizes (length (patterns_of p)) (length (rows_of p)))) _ sizes (and_from (test (lines.Choice a)) _ choice (and_from (test (lines.Values (measures p a))) _ values (and_from (test (lines.Cuts (length cuts))) _ count
      (list_all-append test (map lines.Cut cuts) (blocks 0 trees ++ tail) ∙ and_from (list_all test (map lines.Cut cuts)) (list_all test (blocks 0 trees ++ tail)) (cuts_all test cuts each)
      (list_all-append test (blocks 0 trees) tail ∙ and_from (list_all test (blocks 0 trees)) (list_all test tail) (blocks_all test 0 trees (λ j l. level j (omega (arith, n))) (λ i l. nodes (nodes_at trees i) (h.each_tree i l).0))
      (list_all-append test (open_block (length trees) unfinished) (lines.End (length trees) ∷ []) ∙ and_from (list_all test (open_block (length trees) unfinished)) (test (lines.End (length trees)) && true)
      (left_all test (length trees) unfinished left (λ t e. nodes t.nodes (left_within (length trees) unfinished h.left t e)) h.left) (and_from (test (lines.End (length trees))) true (end (length trees) n) refl)))))))

  pub found_writable : is_writable (found_of p trees a cuts unfinished) ≡ true
  found_writable =
      let c : Certificate = found_of p trees a cuts unfinished in
      let named = all_plain (lines.Sizes (length (patterns_of p)) (length (rows_of p)) ∷ (lines.Choice a ∷ (lines.Values (measures p a) ∷ (lines.Cuts (length cuts) ∷ (map lines.Cut cuts ++ (blocks 0 trees ++ (open_block (length trees) unfinished ++ (lines.End (length trees) ∷ [])))))))) (rest_all is_plain_line refl refl refl refl (λ i l. refl) (λ j l. refl) (λ j l. refl) (λ j l. refl) (λ ns t. t.plain)) in
      let bounded = rest_all in_bounds
      (and_from (nat_le (length (patterns_of p)) 200000) (nat_le (length (rows_of p)) 4000) (le-leb (length (patterns_of p)) 200000 h.patterns) (le-leb (length (rows_of p)) 4000 h.rows))
      (choice_bounded p a h.events h.rooms h.legal) (values_bounded p a h.small) (le-leb (length cuts) 1000 h.few)
      (λ i l. cut_bounded (packing p) (slice_index_or cuts i []) h.patterns (h.pool.each i l))
      (λ j l. le-leb j 6 l) (λ j l. le-leb j 6 l) (λ j l. le-leb j 6 l) (λ ns t. t.bounded) in
      and_from (is_shaped c) _
      (and_from (fits_count (length trees) unfinished) _ (left_count (length trees) unfinished h.left) (and_from (list_all is_closed_tree trees) (is_open_tree unfinished) (all_closed trees h.each_tree) (left_open (length trees) unfinished h.left)))
      (and_from (is_named c) (list_all in_bounds (lines_of c)) (ap is_some named) bounded)

-- ---- what the search says

record AreWhole (k : Packing) (w : Weights) (s : Stage) (fs : List Fixing) (ns : List Node) : Type 0 where
  pub right : are_right k w s fs ns ≡ true
  pub closed : list_any is_open ns ≡ false
  pub nothing : after fs ns ≡ []

whole_of : (k : Packing) (w : Weights) (s : Stage) (fs : List Fixing) (ns : List Node) → proves_all k w s fs ns ≡ true → AreWhole k w s fs ns
whole_of k w s [] [] e = record { right = refl; closed = refl; nothing = refl }
whole_of k w s (f ∷ fs) [] e = absurd (true≢false (sym e))
whole_of k w s [] (n ∷ ns) e = absurd (true≢false (sym e))
whole_of k w s (f ∷ fs) (Branch p ∷ ns) e =
    let parts = and_parts (can_branch k f p) (proves_all k w s (with_zero p f ∷ with_one p f ∷ fs) ns) e in
    let rest = whole_of k w s (with_zero p f ∷ with_one p f ∷ fs) ns parts.1 in
    record { right = and_from (can_branch k f p) (are_right k w s (with_zero p f ∷ with_one p f ∷ fs) ns) parts.0 rest.right; closed = rest.closed; nothing = rest.nothing }
whole_of k w s (f ∷ fs) (Closing leaf ∷ ns) e =
    let parts = and_parts (ends_at k w s f leaf) (proves_all k w s fs ns) e in
    let rest = whole_of k w s fs ns parts.1 in
    record { right = and_from (ends_at k w s f leaf) (are_right k w s fs ns) parts.0 rest.right; closed = rest.closed; nothing = rest.nothing }
whole_of k w s (f ∷ fs) (OpenEnd ∷ ns) e = absurd (true≢false (sym e))
whole_of k w s (f ∷ fs) (Same leaf ∷ ns) e = absurd (true≢false (sym e))

module _ (p : Facts) (s : Search) (patterns : length (patterns_of p) ≤ 200000) (rows : length (rows_of p) ≤ 4000) (few : length s.pool ≤ 1000) where
  sizes_of : (level : ℕ) (targets : List ℤ) (best : Option ℤ) → level ≤ 6 → AreFew (packing p) (measured p) (stage_at level targets best s.pool)
  sizes_of level targets best high = record { patterns = patterns; rows = rows; cuts = few; floor = refl; level = high }

  level_within : AreProved p (measured p) s.trees s.targets s.pool s.choice.entries → length s.targets ≤ 6 → (i : ℕ) → i < length s.trees → IsTreeWithin (nodes_at s.trees i) × (list_any is_open (nodes_at s.trees i) ≡ false)
  level_within h high i l =
      let at : i < length s.targets = omega (arith, l, h.one_each) in
      let whole = whole_of (packing p) (measured p) (proved_stage s.targets s.pool i) (nothing_fixed ∷ []) (nodes_at s.trees i) (h.proved i at) in
      (right_within (packing p) (measured p) (proved_stage s.targets s.pool i) (nodes_at s.trees i) (sizes_of (i + 1) (take i s.targets) (Some (slice_index_or s.targets i (pos 0))) (omega (arith, at, high))) whole.right whole.nothing (h.fine i at), whole.closed)

  left_of : (unfinished : Option Tree) → length s.trees ≡ length s.targets → IsEnd p s unfinished → IsLeft (length s.trees) unfinished
  left_of None e h = omega (arith, e, h)
  left_of (Some tree) e h = (
    omega (arith, e, h.0),
    right_within (packing p) (measured p) (stage_at (length s.targets + 1) s.targets (Some (weighs p (measured p) (length s.targets + 1) s.choice.entries)) s.pool) tree.nodes
        (sizes_of (length s.targets + 1) s.targets (Some (weighs p (measured p) (length s.targets + 1) s.choice.entries)) (omega (arith, h.0))) h.1.opened.right h.1.opened.behind h.1.fine,
    h.1.opened.some_open,
  )

  count_of : (unfinished : Option Tree) → IsEnd p s unfinished → length s.targets ≤ 6
  count_of None h = omega (arith, h)
  count_of (Some tree) h = omega (arith, h.0)

  pub is_found : (unfinished : Option Tree) → length p.events ≤ 4000 → length p.capacity ≤ 200 → ((j : ℕ) → IsWithin (10 ^ 12) (measure p j s.choice.entries)) → IsFoundSearch p s unfinished → IsFound p s.trees unfinished s.pool s.choice.entries
  is_found unfinished events rooms small h = record {
    patterns = patterns;
    rows = rows;
    events = events;
    rooms = rooms;
    few = few;
    pool = h.kept.are.pool;
    legal = h.kept.are.held.legal;
    small = small;
    each_tree = level_within h.kept.are (count_of unfinished h.ends);
    left = left_of unfinished h.kept.are.one_each h.ends;
  }
