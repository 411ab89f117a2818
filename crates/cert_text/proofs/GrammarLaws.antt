-- What is read is spelled so; what is written is read; a state can be finished.
use Rattle.std.proofs.Common.{ℕ, ◌≡◌, ◌+◌, ◌<◌, arith, refl, sym, ◌∙◌, ap, zero, suc, Bool, true, false, cond, not, ◌&&◌, ◌||◌, List, [], ◌∷◌, ◌++◌, append_assoc, map, length, subst, append-nil, length-append}
use Rattle.std.specs.Prelude.{ℤ, pos, ◌==◌, nat_lt, nat_le, Option, Some, None}
use Rattle.std.specs.List.{list_all, list_any}
use Rattle.std.proofs.lemmas.Bool.{and_parts, and_from, not-true, not_from_false, eq-eqb, eqb-true, true≢false, lt-ltb, ltb-true, le-leb}
use Rattle.std.proofs.lemmas.Option.{same_Some, none-some}
use Rattle.std.proofs.lemmas.List.Folds.{list_all-append, list_any-append}
use Rattle.duality.specs.declared.leaf.Leaf.{Leaf}
use Rattle.duality.specs.declared.leaf.Node.{Node as SearchNode}
use Rattle.duality.specs.declared.leaf.Node.TheVariants.{Branch, Leaf as Closing, OpenEnd, Same}
use Rattle.cert_text.specs.declared.lines.Tree.{Tree}
use Rattle.cert_text.specs.declared.lines.Certificate.{Certificate}
use Rattle.cert_text.specs.declared.lines.CertLine.{CertLine}
use Rattle.cert_text.specs.declared.lines.CertLine.TheVariants.{Head, Sizes, Choice, Values, Cuts, Cut, Level, Unfinished, Node, End}
use Rattle.cert_text.specs.declared.named.Named.{Named}
use Rattle.cert_text.specs.Spelling.{in_bounds}
use Rattle.cert_text.specs.Sharing.{leaf_text, none_named, names, named, names_then, all_named}
use Rattle.duality.specs.After.{is_open}
use Rattle.cert_text.specs.Grammar.{Opening, opening_of, with_levels, State, blocks, open_block, front, lines_of, tree_of, with_cut, awaits, may_begin, in_level, step, and_then, runs, fills, is_closed_tree, is_open_tree, fits_count, is_shaped}
use Rattle.cert_text.specs.Grammar.State.{Begun, Headed, Sized, Chosen, Valued, Cutting, Between, Inside, Loose, After, Over}

-- ---- what was read so far, written

abbrev so_far : State → List CertLine
so_far Begun = []
so_far (Headed v) = Head v ∷ []
so_far (Sized v p r) = Head v ∷ (Sizes p r ∷ [])
so_far (Chosen v p r cs) = Head v ∷ (Sizes p r ∷ (Choice cs ∷ []))
so_far (Valued v p r cs vs) = Head v ∷ (Sizes p r ∷ (Choice cs ∷ (Values vs ∷ [])))
so_far (Cutting o k) = front (length o.cuts + suc k) o []
so_far (Between o ls) = front (length o.cuts) o (blocks 0 ls)
so_far (Inside o ls ns k) = front (length o.cuts) o (blocks 0 ls ++ (Level (length ls + 1) ∷ map Node ns))
so_far (Loose o ls ns k seen) = front (length o.cuts) o (blocks 0 ls ++ (Unfinished (length ls + 1) ∷ map Node ns))
so_far (After o ls ns) = front (length o.cuts) o (blocks 0 ls ++ (Unfinished (length ls + 1) ∷ map Node ns))
so_far (Over c) = lines_of c

abbrev Spells : Option State → List CertLine → Type 0
Spells None lines = Unit {0}
Spells (Some s) lines = so_far s ≡ lines

spells_if : (b : Bool) (s : State) (lines : List CertLine) → (b ≡ true → so_far s ≡ lines) → Spells (cond b (Some s) None) lines
spells_if true s lines h = h refl
spells_if false s lines h = tt

front-append : (n : ℕ) (o : Opening) (xs ys : List CertLine) → front n o xs ++ ys ≡ front n o (xs ++ ys)
front-append n o xs ys = ap (λ ls. Head o.version ∷ (Sizes o.patterns o.rows ∷ (Choice o.choice ∷ (Values o.values ∷ (Cuts n ∷ ls))))) (append_assoc (map Cut o.cuts) xs ys)

map-snoc : {A B : Type 0} (f : A → B) (xs : List A) (x : A) → map f (xs ++ (x ∷ [])) ≡ map f xs ++ (f x ∷ [])
map-snoc f [] x = refl
map-snoc f (y ∷ xs) x = ap (λ ls. f y ∷ ls) (map-snoc f xs x)

-- one more cut
front-cut : (n m : ℕ) (o : Opening) (ps : List ℕ) → n ≡ m → front n (with_cut ps o) [] ≡ front m o [] ++ (Cut ps ∷ [])
front-cut n m o ps e =
    ap (λ ls. Head o.version ∷ (Sizes o.patterns o.rows ∷ (Choice o.choice ∷ (Values o.values ∷ (Cuts n ∷ ls)))))
    (append-nil (map Cut (o.cuts ++ (ps ∷ []))) ∙ map-snoc Cut o.cuts ps ∙ ap (λ ls. ls ++ (Cut ps ∷ [])) (sym (append-nil (map Cut o.cuts))))
    ∙ ap (λ k. front k o [] ++ (Cut ps ∷ [])) e

-- a node behind what was read of a tree
more : (kind : CertLine) (o : Opening) (before : List CertLine) (ns : List SearchNode) (n : SearchNode)
    → front (length o.cuts) o (before ++ (kind ∷ map Node (ns ++ (n ∷ [])))) ≡ front (length o.cuts) o (before ++ (kind ∷ map Node ns)) ++ (Node n ∷ [])
more kind o before ns n =
    ap (λ ls. front (length o.cuts) o (before ++ (kind ∷ ls))) (map-snoc Node ns n)
    ∙ ap (front (length o.cuts) o) (sym (append_assoc before (kind ∷ map Node ns) (Node n ∷ [])))
    ∙ sym (front-append (length o.cuts) o (before ++ (kind ∷ map Node ns)) (Node n ∷ []))

blocks-snoc : (n : ℕ) (ts : List Tree) (ns : List SearchNode) → blocks n (ts ++ (tree_of ns ∷ [])) ≡ blocks n ts ++ (Level (n + length ts + 1) ∷ map Node ns)
blocks-snoc n [] ns = ap (λ ls. Level (n + 1) ∷ ls) (append-nil (map Node ns)) ∙ ap (λ k. Level k ∷ map Node ns) (omega arith)
blocks-snoc n (u ∷ ts) ns =
    let count : n + 1 + length ts + 1 ≡ n + length (u ∷ ts) + 1 = omega arith in
    ap (λ ls. Level (n + 1) ∷ (map Node u.nodes ++ ls)) (blocks-snoc (n + 1) ts ns ∙ ap (λ k. blocks (n + 1) ts ++ (Level k ∷ map Node ns)) count)
    ∙ ap (λ ls. Level (n + 1) ∷ ls) (sym (append_assoc (map Node u.nodes) (blocks (n + 1) ts) (Level (n + length (u ∷ ts) + 1) ∷ map Node ns)))

-- a whole tree behind the levels
closed : (o : Opening) (ls : List Tree) (ns : List SearchNode) (n : SearchNode) → front (length o.cuts) o (blocks 0 (ls ++ (tree_of (ns ++ (n ∷ [])) ∷ []))) ≡ front (length o.cuts) o (blocks 0 ls ++ (Level (length ls + 1) ∷ map Node ns)) ++ (Node n ∷ [])
closed o ls ns n =
    ap (front (length o.cuts) o) (blocks-snoc 0 ls (ns ++ (n ∷ [])) ∙ ap (λ k. blocks 0 ls ++ (Level k ∷ map Node (ns ++ (n ∷ [])))) (omega arith))
    ∙ more (Level (length ls + 1)) o (blocks 0 ls) ns n

-- a line behind the levels
behind : (o : Opening) (xs : List CertLine) (k j : ℕ) (line : ℕ → CertLine) → j ≡ k → front (length o.cuts) o (xs ++ (line k ∷ [])) ≡ front (length o.cuts) o xs ++ (line j ∷ [])
behind o xs k j line e = ap (λ i. front (length o.cuts) o (xs ++ (line i ∷ []))) (sym e) ∙ sym (front-append (length o.cuts) o xs (line j ∷ []))

awaits_spells : (v p r : ℕ) (cs : List ℕ) (vs : List ℤ) (k : ℕ) → so_far (awaits (record { version = v; patterns = p; rows = r; choice = cs; values = vs; cuts = [] }) k) ≡ so_far (Valued v p r cs vs) ++ (Cuts k ∷ [])
awaits_spells v p r cs vs zero = refl
awaits_spells v p r cs vs (suc k) = ap (λ n. Head v ∷ (Sizes p r ∷ (Choice cs ∷ (Values vs ∷ (Cuts n ∷ []))))) (omega arith)

step_spells : (s : State) (l : CertLine) → Spells (step s l) (so_far s ++ (l ∷ []))
step_spells Begun (Head v) = refl
step_spells (Headed v) (Sizes p r) = refl
step_spells (Sized v p r) (Choice cs) = refl
step_spells (Chosen v p r cs) (Values vs) = refl
step_spells (Valued v p r cs vs) (Cuts k) = awaits_spells v p r cs vs k
step_spells (Cutting o zero) (Cut ps) = front-cut (length (o.cuts ++ (ps ∷ []))) (length o.cuts + suc zero) o ps (omega (arith, length-append o.cuts (ps ∷ [])))
step_spells (Cutting o (suc k)) (Cut ps) = front-cut (length (o.cuts ++ (ps ∷ [])) + suc k) (length o.cuts + suc (suc k)) o ps (omega (arith, length-append o.cuts (ps ∷ [])))
step_spells (Between o ls) (Level j) = spells_if (may_begin j ls) (Inside o ls [] 0) _ (λ h. behind o (blocks 0 ls) (length ls + 1) j Level (eqb-true j (length ls + 1) (and_parts (j == length ls + 1) (nat_lt (length ls) 6) h).0))
step_spells (Between o ls) (Unfinished j) = spells_if (may_begin j ls) (Loose o ls [] 0 false) _ (λ h. behind o (blocks 0 ls) (length ls + 1) j Unfinished (eqb-true j (length ls + 1) (and_parts (j == length ls + 1) (nat_lt (length ls) 6) h).0))
step_spells (Between o ls) (End j) = spells_if (j == length ls) (Over (with_levels o ls None)) _ (λ h. behind o (blocks 0 ls) (length ls) j End (eqb-true j (length ls) h))
step_spells (Inside o ls ns k) (Node (Branch p)) = more (Level (length ls + 1)) o (blocks 0 ls) ns (Branch p)
step_spells (Inside o ls ns zero) (Node (Closing leaf)) = closed o ls ns (Closing leaf)
step_spells (Inside o ls ns (suc k)) (Node (Closing leaf)) = more (Level (length ls + 1)) o (blocks 0 ls) ns (Closing leaf)
step_spells (Inside o ls ns zero) (Node (Same q)) = closed o ls ns (Same q)
step_spells (Inside o ls ns (suc k)) (Node (Same q)) = more (Level (length ls + 1)) o (blocks 0 ls) ns (Same q)
step_spells (Loose o ls ns zero true) (Node (Same q)) = more (Unfinished (length ls + 1)) o (blocks 0 ls) ns (Same q)
step_spells (Loose o ls ns (suc k) seen) (Node (Same q)) = more (Unfinished (length ls + 1)) o (blocks 0 ls) ns (Same q)
step_spells (Loose o ls ns k seen) (Node (Branch p)) = more (Unfinished (length ls + 1)) o (blocks 0 ls) ns (Branch p)
step_spells (Loose o ls ns zero true) (Node (Closing leaf)) = more (Unfinished (length ls + 1)) o (blocks 0 ls) ns (Closing leaf)
step_spells (Loose o ls ns (suc k) seen) (Node (Closing leaf)) = more (Unfinished (length ls + 1)) o (blocks 0 ls) ns (Closing leaf)
step_spells (Loose o ls ns zero seen) (Node OpenEnd) = more (Unfinished (length ls + 1)) o (blocks 0 ls) ns OpenEnd
step_spells (Loose o ls ns (suc k) seen) (Node OpenEnd) = more (Unfinished (length ls + 1)) o (blocks 0 ls) ns OpenEnd
step_spells (After o ls ns) (End j) = spells_if (j == length ls) (Over (with_levels o ls (Some (tree_of ns)))) _ (λ h.
    ap (front (length o.cuts) o) (sym (append_assoc (blocks 0 ls) (Unfinished (length ls + 1) ∷ map Node ns) (End (length ls) ∷ [])))
    ∙ behind o (blocks 0 ls ++ (Unfinished (length ls + 1) ∷ map Node ns)) (length ls) j End (eqb-true j (length ls) h))
step_spells s l = tt

runs_spells : (lines : List CertLine) (s t : State) → runs s lines ≡ Some t → so_far t ≡ so_far s ++ lines
runs_spells [] s t h = sym (ap so_far (same_Some s t h)) ∙ sym (append-nil (so_far s))
runs_spells (l ∷ lines) s t h = go (step s l) refl (λ u. runs_spells lines u t) h
  where
    go : (o : Option State) → o ≡ step s l → ((u : State) → runs u lines ≡ Some t → so_far t ≡ so_far u ++ lines) → and_then o (λ next. runs next lines) ≡ Some t → so_far t ≡ so_far s ++ (l ∷ lines)
    go None e rest h = absurd (none-some t h)
    go (Some u) e rest h =
        let here : so_far u ≡ so_far s ++ (l ∷ []) = subst (λ o. Spells o (so_far s ++ (l ∷ []))) (sym e) (step_spells s l) in
        rest u h ∙ ap (λ ls. ls ++ lines) here ∙ append_assoc (so_far s) (l ∷ []) lines

-- each certificate has one text
pub lines_are : (lines : List CertLine) (c : Certificate) → runs Begun lines ≡ Some (Over c) → lines ≡ lines_of c
lines_are lines c h = sym (runs_spells lines Begun (Over c) h)

-- ---- what is written is read

runs_inside : (ns : List SearchNode) (o : Opening) (ls : List Tree) (before : List SearchNode) (k : ℕ) (rest : List CertLine) → fills k ns ≡ true → list_any is_open ns ≡ false
    → runs (Inside o ls before k) (map Node ns ++ rest) ≡ runs (Between o (ls ++ (tree_of (before ++ ns) ∷ []))) rest
runs_inside [] o ls before k rest f e = absurd (true≢false (sym f))
runs_inside (Branch p ∷ ns) o ls before k rest f e =
    runs_inside ns o ls (before ++ (Branch p ∷ [])) (suc k) rest f e ∙ ap (λ t. runs (Between o (ls ++ (tree_of t ∷ []))) rest) (append_assoc before (Branch p ∷ []) ns)
runs_inside (Closing leaf ∷ []) o ls before zero rest f e = refl
runs_inside (Closing leaf ∷ (n ∷ ns)) o ls before zero rest f e = absurd (true≢false (sym f))
runs_inside (Closing leaf ∷ ns) o ls before (suc k) rest f e =
    runs_inside ns o ls (before ++ (Closing leaf ∷ [])) k rest f e ∙ ap (λ t. runs (Between o (ls ++ (tree_of t ∷ []))) rest) (append_assoc before (Closing leaf ∷ []) ns)
runs_inside (OpenEnd ∷ ns) o ls before k rest f e = absurd (true≢false e)
runs_inside (Same q ∷ []) o ls before zero rest f e = refl
runs_inside (Same q ∷ (n ∷ ns)) o ls before zero rest f e = absurd (true≢false (sym f))
runs_inside (Same q ∷ ns) o ls before (suc k) rest f e =
    runs_inside ns o ls (before ++ (Same q ∷ [])) k rest f e ∙ ap (λ t. runs (Between o (ls ++ (tree_of t ∷ []))) rest) (append_assoc before (Same q ∷ []) ns)

runs_loose : (ns : List SearchNode) (o : Opening) (ls : List Tree) (before : List SearchNode) (k : ℕ) (seen : Bool) (rest : List CertLine) → fills k ns ≡ true → (seen || list_any is_open ns) ≡ true
    → runs (Loose o ls before k seen) (map Node ns ++ rest) ≡ runs (After o ls (before ++ ns)) rest
runs_loose [] o ls before k seen rest f e = absurd (true≢false (sym f))
runs_loose (Branch p ∷ ns) o ls before k seen rest f e =
    runs_loose ns o ls (before ++ (Branch p ∷ [])) (suc k) seen rest f e ∙ ap (λ t. runs (After o ls t) rest) (append_assoc before (Branch p ∷ []) ns)
runs_loose (Closing leaf ∷ []) o ls before zero true rest f e = refl
runs_loose (Closing leaf ∷ []) o ls before zero false rest f e = absurd (true≢false (sym e))
runs_loose (Closing leaf ∷ (n ∷ ns)) o ls before zero seen rest f e = absurd (true≢false (sym f))
runs_loose (Closing leaf ∷ ns) o ls before (suc k) seen rest f e =
    runs_loose ns o ls (before ++ (Closing leaf ∷ [])) k seen rest f e ∙ ap (λ t. runs (After o ls t) rest) (append_assoc before (Closing leaf ∷ []) ns)
runs_loose (OpenEnd ∷ []) o ls before zero seen rest f e = refl
runs_loose (OpenEnd ∷ (n ∷ ns)) o ls before zero seen rest f e = absurd (true≢false (sym f))
runs_loose (OpenEnd ∷ ns) o ls before (suc k) seen rest f e =
    runs_loose ns o ls (before ++ (OpenEnd ∷ [])) k true rest f refl ∙ ap (λ t. runs (After o ls t) rest) (append_assoc before (OpenEnd ∷ []) ns)
runs_loose (Same q ∷ []) o ls before zero true rest f e = refl
runs_loose (Same q ∷ []) o ls before zero false rest f e = absurd (true≢false (sym e))
runs_loose (Same q ∷ (n ∷ ns)) o ls before zero seen rest f e = absurd (true≢false (sym f))
runs_loose (Same q ∷ ns) o ls before (suc k) seen rest f e =
    runs_loose ns o ls (before ++ (Same q ∷ [])) k seen rest f e ∙ ap (λ t. runs (After o ls t) rest) (append_assoc before (Same q ∷ []) ns)

may : (ls : List Tree) → length ls < 6 → may_begin (length ls + 1) ls ≡ true
may ls l = and_from (length ls + 1 == length ls + 1) (nat_lt (length ls) 6) (eq-eqb (length ls + 1) (length ls + 1) refl) (lt-ltb (length ls) 6 l)

runs_blocks : (ts ls : List Tree) (o : Opening) (rest : List CertLine) → list_all is_closed_tree ts ≡ true → length ls + length ts < 7
    → runs (Between o ls) (blocks (length ls) ts ++ rest) ≡ runs (Between o (ls ++ ts)) rest
runs_blocks [] ls o rest closed few = ap (λ ts. runs (Between o ts) rest) (sym (append-nil ls))
runs_blocks (t ∷ ts) ls o rest closed few =
    let parts = and_parts (is_closed_tree t) (list_all is_closed_tree ts) closed in
    let tree = and_parts (fills 0 t.nodes) (not (list_any is_open t.nodes)) parts.0 in
    let count : length ls + 1 ≡ length (ls ++ (t ∷ [])) = omega (arith, length-append ls (t ∷ [])) in
    ap (λ b. and_then (cond b (Some (Inside o ls [] 0)) None) (λ next. runs next ((map Node t.nodes ++ blocks (length ls + 1) ts) ++ rest))) (may ls (omega arith))
    ∙ ap (λ lines. runs (Inside o ls [] 0) lines) (append_assoc (map Node t.nodes) (blocks (length ls + 1) ts) rest)
    ∙ runs_inside t.nodes o ls [] 0 (blocks (length ls + 1) ts ++ rest) tree.0 (not-true _ tree.1)
    ∙ ap (λ n. runs (Between o (ls ++ (t ∷ []))) (blocks n ts ++ rest)) count
    ∙ runs_blocks ts (ls ++ (t ∷ [])) o rest parts.1 (omega (arith, count))
    ∙ ap (λ us. runs (Between o us) rest) (append_assoc ls (t ∷ []) ts)

ends : (o : Opening) (ls : List Tree) (u : Option Tree) → fits_count (length ls) u ≡ true → is_open_tree u ≡ true
    → runs (Between o ls) (open_block (length ls) u ++ (End (length ls) ∷ [])) ≡ Some (Over (with_levels o ls u))
ends o ls None few tree = rw (eq-eqb (length ls) (length ls) refl) refl
ends o ls (Some t) few tree =
    let parts = and_parts (fills 0 t.nodes) (list_any is_open t.nodes) tree in
    ap (λ b. and_then (cond b (Some (Loose o ls [] 0 false)) None) (λ next. runs next (map Node t.nodes ++ (End (length ls) ∷ [])))) (may ls (ltb-true (length ls) 6 few))
    ∙ runs_loose t.nodes o ls [] 0 false (End (length ls) ∷ []) parts.0 parts.1
    ∙ rw (eq-eqb (length ls) (length ls) refl) refl

few_levels : (n : ℕ) (u : Option Tree) → fits_count n u ≡ true → n < 7
few_levels n None h = ltb-true n 7 h
few_levels n (Some t) h = omega (arith, ltb-true n 6 h)

abbrev with_cuts : Opening → List (List ℕ) → Opening
with_cuts o cuts = record { version = o.version; patterns = o.patterns; rows = o.rows; choice = o.choice; values = o.values; cuts = cuts }

runs_cuts : (cuts before : List (List ℕ)) (ps : List ℕ) (o : Opening) (rest : List CertLine)
    → runs (Cutting (with_cuts o before) (length cuts)) ((Cut ps ∷ map Cut cuts) ++ rest) ≡ runs (Between (with_cuts o (before ++ (ps ∷ cuts))) []) rest
runs_cuts [] before ps o rest = refl
runs_cuts (qs ∷ cuts) before ps o rest =
    runs_cuts cuts (before ++ (ps ∷ [])) qs o rest ∙ ap (λ cs. runs (Between (with_cuts o cs) []) rest) (append_assoc before (ps ∷ []) (qs ∷ cuts))

runs_opening : (o : Opening) (cuts : List (List ℕ)) (rest : List CertLine) → runs (awaits (with_cuts o []) (length cuts)) (map Cut cuts ++ rest) ≡ runs (Between (with_cuts o cuts) []) rest
runs_opening o [] rest = refl
runs_opening o (ps ∷ cuts) rest = runs_cuts cuts [] ps o rest

pub lines_read : (c : Certificate) → is_shaped c ≡ true → runs Begun (lines_of c) ≡ Some (Over c)
lines_read c h =
    let parts = and_parts (fits_count (length c.levels) c.unfinished) (list_all is_closed_tree c.levels && is_open_tree c.unfinished) h in
    let trees = and_parts (list_all is_closed_tree c.levels) (is_open_tree c.unfinished) parts.1 in
    let rest = open_block (length c.levels) c.unfinished ++ (End (length c.levels) ∷ []) in
    runs_opening (opening_of c) c.cuts (blocks 0 c.levels ++ rest)
    ∙ runs_blocks c.levels [] (opening_of c) rest trees.0 (omega (arith, few_levels (length c.levels) c.unfinished parts.0))
    ∙ ends (opening_of c) c.levels c.unfinished parts.0 trees.1

-- ---- what is read is whole

pub record Filled (ls : List Tree) (ns : List SearchNode) (k : ℕ) : Type 0 where
  pub closed : list_all is_closed_tree ls ≡ true
  pub few : length ls < 6
  pub filled : (ms : List SearchNode) → fills 0 (ns ++ ms) ≡ fills k ms

pub record IsDone (ls : List Tree) : Type 0 where
  pub closed : list_all is_closed_tree ls ≡ true
  pub few : length ls < 7

pub record IsAfter (ls : List Tree) (ns : List SearchNode) : Type 0 where
  pub closed : list_all is_closed_tree ls ≡ true
  pub few : length ls < 6
  pub tree : is_open_tree (Some (tree_of ns)) ≡ true

abbrev Shaped : State → Type 0
Shaped Begun = Unit {0}
Shaped (Headed v) = Unit {0}
Shaped (Sized v p r) = Unit {0}
Shaped (Chosen v p r cs) = Unit {0}
Shaped (Valued v p r cs vs) = Unit {0}
Shaped (Cutting o k) = Unit {0}
Shaped (Between o ls) = IsDone ls
Shaped (Inside o ls ns k) = Filled ls ns k × (list_any is_open ns ≡ false)
Shaped (Loose o ls ns k seen) = Filled ls ns k × (list_any is_open ns ≡ seen)
Shaped (After o ls ns) = IsAfter ls ns
Shaped (Over c) = is_shaped c ≡ true

abbrev Shapes : Option State → Type 0
Shapes None = Unit {0}
Shapes (Some s) = Shaped s

shapes_if : (b : Bool) (s : State) → (b ≡ true → Shaped s) → Shapes (cond b (Some s) None)
shapes_if true s h = h refl
shapes_if false s h = tt

none_yet : IsDone []
none_yet = record { closed = refl; few = few }
  where
    few : length {A = Tree} [] < 7
    few = omega arith

begun_level : (j : ℕ) (ls : List Tree) → IsDone ls → may_begin j ls ≡ true → Filled ls [] 0
begun_level j ls done h = record { closed = done.closed; few = ltb-true (length ls) 6 (and_parts (j == length ls + 1) (nat_lt (length ls) 6) h).1; filled = λ ms. refl }

-- one more node: what fills the part is known from its step
one_more : (ls : List Tree) (ns : List SearchNode) (k m : ℕ) (n : SearchNode) → Filled ls ns k → ((ms : List SearchNode) → fills k (n ∷ ms) ≡ fills m ms) → Filled ls (ns ++ (n ∷ [])) m
one_more ls ns k m n f here = record { closed = f.closed; few = f.few; filled = λ ms. ap (fills 0) (append_assoc ns (n ∷ []) ms) ∙ f.filled (n ∷ ms) ∙ here ms }

still_closed : (ns : List SearchNode) (n : SearchNode) (seen : Bool) → list_any is_open ns ≡ seen → is_open n ≡ false → list_any is_open (ns ++ (n ∷ [])) ≡ seen
still_closed ns n seen h e = list_any-append is_open ns (n ∷ []) ∙ go (list_any is_open ns) (is_open n) h e
  where
    go : (a b : Bool) → a ≡ seen → b ≡ false → (a || (b || false)) ≡ seen
    go true b p q = p
    go false true p q = absurd (true≢false q)
    go false false p q = p

now_open : (ns : List SearchNode) → list_any is_open (ns ++ (OpenEnd ∷ [])) ≡ true
now_open ns = list_any-append is_open ns (OpenEnd ∷ []) ∙ go (list_any is_open ns)
  where
    go : (a : Bool) → (a || true) ≡ true
    go true = refl
    go false = refl

whole : (ls : List Tree) (ns : List SearchNode) (n : SearchNode) → Filled ls ns 0 → fills 0 (n ∷ []) ≡ true → fills 0 (ns ++ (n ∷ [])) ≡ true
whole ls ns n f e = f.filled (n ∷ []) ∙ e

level_done : (ls : List Tree) (ns : List SearchNode) (n : SearchNode) → Filled ls ns 0 → list_any is_open ns ≡ false → fills 0 (n ∷ []) ≡ true → is_open n ≡ false → IsDone (ls ++ (tree_of (ns ++ (n ∷ [])) ∷ []))
level_done ls ns n f e ends shut =
    let nodes = ns ++ (n ∷ []) in
    let tree : is_closed_tree (tree_of nodes) ≡ true = and_from (fills 0 nodes) (not (list_any is_open nodes)) (whole ls ns n f ends) (not_from_false _ (still_closed ns n false e shut)) in
    let few = f.few in
    record {
      closed = list_all-append is_closed_tree ls (tree_of nodes ∷ []) ∙ and_from (list_all is_closed_tree ls) (list_all is_closed_tree (tree_of nodes ∷ [])) f.closed (and_from (is_closed_tree (tree_of nodes)) true tree refl);
      few = omega (arith, length-append ls (tree_of nodes ∷ []));
    }

step_shapes : (s : State) (l : CertLine) → Shaped s → Shapes (step s l)
step_shapes Begun (Head v) h = tt
step_shapes (Headed v) (Sizes p r) h = tt
step_shapes (Sized v p r) (Choice cs) h = tt
step_shapes (Chosen v p r cs) (Values vs) h = tt
step_shapes (Valued v p r cs vs) (Cuts zero) h = none_yet
step_shapes (Valued v p r cs vs) (Cuts (suc k)) h = tt
step_shapes (Cutting o zero) (Cut ps) h = none_yet
step_shapes (Cutting o (suc k)) (Cut ps) h = tt
step_shapes (Between o ls) (Level j) h = shapes_if (may_begin j ls) (Inside o ls [] 0) (λ e. (begun_level j ls h e, refl))
step_shapes (Between o ls) (Unfinished j) h = shapes_if (may_begin j ls) (Loose o ls [] 0 false) (λ e. (begun_level j ls h e, refl))
step_shapes (Between o ls) (End j) h = shapes_if (j == length ls) (Over (with_levels o ls None)) (λ e. and_from (nat_lt (length ls) 7) (list_all is_closed_tree ls && true) (lt-ltb (length ls) 7 h.few) (and_from (list_all is_closed_tree ls) true h.closed refl))
step_shapes (Inside o ls ns k) (Node (Branch p)) h = (one_more ls ns k (suc k) (Branch p) h.0 (λ ms. refl), still_closed ns (Branch p) false h.1 refl)
step_shapes (Inside o ls ns zero) (Node (Closing leaf)) h = level_done ls ns (Closing leaf) h.0 h.1 refl refl
step_shapes (Inside o ls ns zero) (Node (Same q)) h = level_done ls ns (Same q) h.0 h.1 refl refl
step_shapes (Inside o ls ns (suc k)) (Node (Same q)) h = (one_more ls ns (suc k) k (Same q) h.0 (λ ms. refl), still_closed ns (Same q) false h.1 refl)
step_shapes (Inside o ls ns (suc k)) (Node (Closing leaf)) h = (one_more ls ns (suc k) k (Closing leaf) h.0 (λ ms. refl), still_closed ns (Closing leaf) false h.1 refl)
step_shapes (Loose o ls ns k seen) (Node (Branch p)) h = (one_more ls ns k (suc k) (Branch p) h.0 (λ ms. refl), still_closed ns (Branch p) seen h.1 refl)
step_shapes (Loose o ls ns zero true) (Node (Closing leaf)) h =
    record { closed = h.0.closed; few = h.0.few; tree = and_from (fills 0 (ns ++ (Closing leaf ∷ []))) (list_any is_open (ns ++ (Closing leaf ∷ []))) (whole ls ns (Closing leaf) h.0 refl) (still_closed ns (Closing leaf) true h.1 refl) }
step_shapes (Loose o ls ns (suc k) seen) (Node (Closing leaf)) h = (one_more ls ns (suc k) k (Closing leaf) h.0 (λ ms. refl), still_closed ns (Closing leaf) seen h.1 refl)
step_shapes (Loose o ls ns zero true) (Node (Same q)) h =
    record { closed = h.0.closed; few = h.0.few; tree = and_from (fills 0 (ns ++ (Same q ∷ []))) (list_any is_open (ns ++ (Same q ∷ []))) (whole ls ns (Same q) h.0 refl) (still_closed ns (Same q) true h.1 refl) }
step_shapes (Loose o ls ns (suc k) seen) (Node (Same q)) h = (one_more ls ns (suc k) k (Same q) h.0 (λ ms. refl), still_closed ns (Same q) seen h.1 refl)
step_shapes (Loose o ls ns zero seen) (Node OpenEnd) h =
    record { closed = h.0.closed; few = h.0.few; tree = and_from (fills 0 (ns ++ (OpenEnd ∷ []))) (list_any is_open (ns ++ (OpenEnd ∷ []))) (whole ls ns OpenEnd h.0 refl) (now_open ns) }
step_shapes (Loose o ls ns (suc k) seen) (Node OpenEnd) h = (one_more ls ns (suc k) k OpenEnd h.0 (λ ms. refl), now_open ns)
step_shapes (After o ls ns) (End j) h = shapes_if (j == length ls) (Over (with_levels o ls (Some (tree_of ns)))) (λ e. and_from (nat_lt (length ls) 6) (list_all is_closed_tree ls && is_open_tree (Some (tree_of ns))) (lt-ltb (length ls) 6 h.few) (and_from (list_all is_closed_tree ls) (is_open_tree (Some (tree_of ns))) h.closed h.tree))
step_shapes s l h = tt

pub runs_shaped : (lines : List CertLine) (s t : State) → Shaped s → runs s lines ≡ Some t → Shaped t
runs_shaped [] s t h e = subst Shaped (same_Some s t e) h
runs_shaped (l ∷ lines) s t h e = go (step s l) refl (λ u. runs_shaped lines u t) e
  where
    go : (o : Option State) → o ≡ step s l → ((u : State) → Shaped u → runs u lines ≡ Some t → Shaped t) → and_then o (λ next. runs next lines) ≡ Some t → Shaped t
    go None e rest r = absurd (none-some t r)
    go (Some u) e rest r = rest u (subst Shapes (sym e) (step_shapes s l h)) r

pub read_shaped : (lines : List CertLine) (c : Certificate) → runs Begun lines ≡ Some (Over c) → is_shaped c ≡ true
read_shaped lines c h = runs_shaped lines Begun (Over c) tt h

-- ---- prefixes

pub runs-append : (a b : List CertLine) (s : State) → runs s (a ++ b) ≡ and_then (runs s a) (λ t. runs t b)
runs-append [] b s = refl
runs-append (l ∷ a) b s = go (step s l) (runs-append a b)
  where
    go : (o : Option State) → ((t : State) → runs t (a ++ b) ≡ and_then (runs t a) (λ t. runs t b)) → and_then o (λ next. runs next (a ++ b)) ≡ and_then (and_then o (λ next. runs next a)) (λ t. runs t b)
    go None rest = refl
    go (Some t) rest = rest t

abbrev plain_leaf : Leaf
plain_leaf = record { scale = pos 0; terms = [] }

-- a node that ends a part: a leaf while none may be named, else the first again
abbrev closer : List (List ℕ) → SearchNode
closer [] = Closing plain_leaf
closer (line ∷ lines) = Same 0

-- what may be named behind it
abbrev behind_closer : Named → Named
behind_closer k = elim (names k (closer k.lines)) [ None ↦ k | Some next ↦ next ]

abbrev leaves : Named → ℕ → List CertLine → List CertLine
leaves k zero tail = Node (closer k.lines) ∷ tail
leaves k (suc n) tail = Node (closer k.lines) ∷ leaves (behind_closer k) n tail

abbrev opens : ℕ → List CertLine → List CertLine
opens zero tail = Node OpenEnd ∷ tail
opens (suc k) tail = Node OpenEnd ∷ opens k tail

abbrev some_cuts : ℕ → List CertLine
some_cuts zero = Cut (0 ∷ (1 ∷ [])) ∷ (End 0 ∷ [])
some_cuts (suc k) = Cut (0 ∷ (1 ∷ [])) ∷ some_cuts k

abbrev from_cuts : List CertLine
from_cuts = Cuts 0 ∷ (End 0 ∷ [])

abbrev from_values : List CertLine
from_values = Values (pos 0 ∷ (pos 0 ∷ (pos 0 ∷ (pos 0 ∷ (pos 0 ∷ (pos 0 ∷ [])))))) ∷ from_cuts

-- lines that make a text of what was read
abbrev pub finish : Named → State → List CertLine
finish n Begun = Head 1 ∷ (Sizes 0 0 ∷ (Choice [] ∷ from_values))
finish n (Headed v) = Sizes 0 0 ∷ (Choice [] ∷ from_values)
finish n (Sized v p r) = Choice [] ∷ from_values
finish n (Chosen v p r cs) = from_values
finish n (Valued v p r cs vs) = from_cuts
finish n (Cutting o k) = some_cuts k
finish n (Between o ls) = End (length ls) ∷ []
finish n (Inside o ls ns k) = leaves n k (End (length ls + 1) ∷ [])
finish n (Loose o ls ns k seen) = opens k (End (length ls) ∷ [])
finish n (After o ls ns) = End (length ls) ∷ []
finish n (Over c) = []

abbrev Finishes : State → List CertLine → Type 0
Finishes s lines = (c : Certificate) × (runs s lines ≡ Some (Over c))

ends_level : (o : Opening) (ls : List Tree) (ns : List SearchNode) (n : SearchNode) → in_level o ls ns 0 n ≡ Some (Between o (ls ++ (tree_of (ns ++ (n ∷ [])) ∷ []))) → Finishes (Inside o ls ns 0) (Node n ∷ (End (length ls + 1) ∷ []))
ends_level o ls ns n e =
    let t = tree_of (ns ++ (n ∷ [])) in (
      with_levels o (ls ++ (t ∷ [])) None,
      ap (λ r. and_then r (λ next. runs next (End (length ls + 1) ∷ []))) e ∙ rw (eq-eqb (length ls + 1) (length (ls ++ (t ∷ []))) (omega (arith, length-append ls (t ∷ [])))) refl,
    )

closer_ends : (o : Opening) (ls : List Tree) (ns : List SearchNode) (lines : List (List ℕ)) → in_level o ls ns 0 (closer lines) ≡ Some (Between o (ls ++ (tree_of (ns ++ (closer lines ∷ [])) ∷ [])))
closer_ends o ls ns [] = refl
closer_ends o ls ns (line ∷ lines) = refl

closer_goes : (o : Opening) (ls : List Tree) (ns : List SearchNode) (k : ℕ) (lines : List (List ℕ)) → in_level o ls ns (suc k) (closer lines) ≡ Some (Inside o ls (ns ++ (closer lines ∷ [])) k)
closer_goes o ls ns k [] = refl
closer_goes o ls ns k (line ∷ lines) = refl

finishes_inside : (k : ℕ) (n : Named) (o : Opening) (ls : List Tree) (ns : List SearchNode) → Finishes (Inside o ls ns k) (leaves n k (End (length ls + 1) ∷ []))
finishes_inside zero n o ls ns = ends_level o ls ns (closer n.lines) (closer_ends o ls ns n.lines)
finishes_inside (suc k) n o ls ns =
    let rest = finishes_inside k (behind_closer n) o ls (ns ++ (closer n.lines ∷ [])) in
    (rest.0, ap (λ r. and_then r (λ next. runs next (leaves (behind_closer n) k (End (length ls + 1) ∷ [])))) (closer_goes o ls ns k n.lines) ∙ rest.1)

finishes_loose : (k : ℕ) (o : Opening) (ls : List Tree) (ns : List SearchNode) (seen : Bool) → Finishes (Loose o ls ns k seen) (opens k (End (length ls) ∷ []))
finishes_loose zero o ls ns seen = (with_levels o ls (Some (tree_of (ns ++ (OpenEnd ∷ [])))), rw (eq-eqb (length ls) (length ls) refl) refl)
finishes_loose (suc k) o ls ns seen = finishes_loose k o ls (ns ++ (OpenEnd ∷ [])) true

finishes_cuts : (k : ℕ) (o : Opening) → Finishes (Cutting o k) (some_cuts k)
finishes_cuts zero o = (with_levels (with_cut (0 ∷ (1 ∷ [])) o) [] None, refl)
finishes_cuts (suc k) o = finishes_cuts k (with_cut (0 ∷ (1 ∷ [])) o)

abbrev zeros : List ℤ
zeros = pos 0 ∷ (pos 0 ∷ (pos 0 ∷ (pos 0 ∷ (pos 0 ∷ (pos 0 ∷ [])))))

abbrev bare : ℕ → ℕ → ℕ → List ℕ → List ℤ → Certificate
bare v p r cs vs = record { version = v; patterns = p; rows = r; choice = cs; values = vs; cuts = []; levels = []; unfinished = None }

finishes : (n : Named) (s : State) → Finishes s (finish n s)
finishes n Begun = (bare 1 0 0 [] zeros, refl)
finishes n (Headed v) = (bare v 0 0 [] zeros, refl)
finishes n (Sized v p r) = (bare v p r [] zeros, refl)
finishes n (Chosen v p r cs) = (bare v p r cs zeros, refl)
finishes n (Valued v p r cs vs) = (bare v p r cs vs, refl)
finishes n (Cutting o k) = finishes_cuts k o
finishes n (Between o ls) = (with_levels o ls None, rw (eq-eqb (length ls) (length ls) refl) refl)
finishes n (Inside o ls ns k) = finishes_inside k n o ls ns
finishes n (Loose o ls ns k seen) = finishes_loose k o ls ns seen
finishes n (After o ls ns) = (with_levels o ls (Some (tree_of ns)), rw (eq-eqb (length ls) (length ls) refl) refl)
finishes n (Over c) = (c, refl)

closer_bounded : (lines : List (List ℕ)) → in_bounds (Node (closer lines)) ≡ true
closer_bounded [] = refl
closer_bounded (line ∷ lines) = refl

leaves_bounded : (n : Named) (k : ℕ) (tail : List CertLine) → list_all in_bounds tail ≡ true → list_all in_bounds (leaves n k tail) ≡ true
leaves_bounded n zero tail h = and_from (in_bounds (Node (closer n.lines))) (list_all in_bounds tail) (closer_bounded n.lines) h
leaves_bounded n (suc k) tail h = and_from (in_bounds (Node (closer n.lines))) (list_all in_bounds (leaves (behind_closer n) k tail)) (closer_bounded n.lines) (leaves_bounded (behind_closer n) k tail h)

opens_bounded : (k : ℕ) (tail : List CertLine) → list_all in_bounds tail ≡ true → list_all in_bounds (opens k tail) ≡ true
opens_bounded zero tail h = h
opens_bounded (suc k) tail h = opens_bounded k tail h

cuts_bounded : (k : ℕ) → list_all in_bounds (some_cuts k) ≡ true
cuts_bounded zero = refl
cuts_bounded (suc k) = cuts_bounded k

end_bounded : (n : ℕ) → n < 7 → list_all in_bounds (End n ∷ []) ≡ true
end_bounded n l = and_from (nat_le n 6) true (le-leb n 6 (omega arith)) refl

pub finish_bounded : (n : Named) (s : State) → Shaped s → list_all in_bounds (finish n s) ≡ true
finish_bounded n Begun h = refl
finish_bounded n (Headed v) h = refl
finish_bounded n (Sized v p r) h = refl
finish_bounded n (Chosen v p r cs) h = refl
finish_bounded n (Valued v p r cs vs) h = refl
finish_bounded n (Cutting o k) h = cuts_bounded k
finish_bounded n (Between o ls) h = end_bounded (length ls) h.few
finish_bounded n (Inside o ls ns k) h = leaves_bounded n k (End (length ls + 1) ∷ []) (end_bounded (length ls + 1) (let few = h.0.few in omega arith))
finish_bounded n (Loose o ls ns k seen) h = opens_bounded k (End (length ls) ∷ []) (end_bounded (length ls) (let few = h.0.few in omega arith))
finish_bounded n (After o ls ns) h = end_bounded (length ls) (let few = h.few in omega arith)
finish_bounded n (Over c) h = refl

-- ---- their names are right

closer_named : (v : ℕ) (lines : List (List ℕ)) → (next : Named) × (names (record { version = v; lines = lines }) (closer lines) ≡ Some next)
closer_named v [] = go (v == 2)
  where
    none : Named
    none = record { version = v; lines = [] }

    go : (b : Bool) → (next : Named) × (cond b (Some (record { version = v; lines = leaf_text plain_leaf ∷ [] })) (Some none) ≡ Some next)
    go true = (record { version = v; lines = leaf_text plain_leaf ∷ [] }, refl)
    go false = (none, refl)
closer_named v (line ∷ lines) = (record { version = v; lines = line ∷ lines }, rw (lt-ltb 0 (length (line ∷ lines)) (omega arith)) refl)

closer_behind : (n : Named) → names n (closer n.lines) ≡ Some (behind_closer n)
closer_behind n =
    let next = closer_named n.version n.lines in
    next.1 ∙ ap Some (sym (ap (λ o. elim o [ None ↦ n | Some m ↦ m ]) next.1))

abbrev AreNamed : Named → List CertLine → Type 0
AreNamed n lines = (m : Named) × (all_named n lines ≡ Some m)

leaves_named : (k : ℕ) (n : Named) (tail : List CertLine) → ((m : Named) → AreNamed m tail) → AreNamed n (leaves n k tail)
leaves_named zero n tail h =
    let rest = h (behind_closer n) in
    (rest.0, ap (λ o. names_then o (λ next. all_named next tail)) (closer_behind n) ∙ rest.1)
leaves_named (suc k) n tail h =
    let rest = leaves_named k (behind_closer n) tail h in
    (rest.0, ap (λ o. names_then o (λ next. all_named next (leaves (behind_closer n) k tail))) (closer_behind n) ∙ rest.1)

opens_named : (k : ℕ) (n : Named) (tail : List CertLine) → AreNamed n tail → AreNamed n (opens k tail)
opens_named zero n tail h = h
opens_named (suc k) n tail h = opens_named k n tail h

cuts_named : (k : ℕ) (n : Named) → AreNamed n (some_cuts k)
cuts_named zero n = (n, refl)
cuts_named (suc k) n = cuts_named k n

pub finish_named : (n : Named) (s : State) → AreNamed n (finish n s)
finish_named n Begun = (none_named 1, refl)
finish_named n (Headed v) = (n, refl)
finish_named n (Sized v p r) = (n, refl)
finish_named n (Chosen v p r cs) = (n, refl)
finish_named n (Valued v p r cs vs) = (n, refl)
finish_named n (Cutting o k) = cuts_named k n
finish_named n (Between o ls) = (n, refl)
finish_named n (Inside o ls ns k) = leaves_named k n (End (length ls + 1) ∷ []) (λ m. (m, refl))
finish_named n (Loose o ls ns k seen) = opens_named k n (End (length ls) ∷ []) (n, refl)
finish_named n (After o ls ns) = (n, refl)
finish_named n (Over c) = (n, refl)

pub all_named-append : (a b : List CertLine) (n : Named) → all_named n (a ++ b) ≡ names_then (all_named n a) (λ m. all_named m b)
all_named-append [] b n = refl
all_named-append (l ∷ a) b n = go (named n l) (all_named-append a b)
  where
    go : (o : Option Named) → ((m : Named) → all_named m (a ++ b) ≡ names_then (all_named m a) (λ k. all_named k b)) → names_then o (λ next. all_named next (a ++ b)) ≡ names_then (names_then o (λ next. all_named next a)) (λ m. all_named m b)
    go None rest = refl
    go (Some m) rest = rest m

-- ---- both

pub record Begins (lines : List CertLine) (s : State) (n : Named) : Type 0 where
  pub certificate : Certificate
  pub behind : Named
  pub ran : runs Begun (lines ++ finish n s) ≡ Some (Over certificate)
  pub named : all_named (none_named 0) (lines ++ finish n s) ≡ Some behind
  pub bounded : list_all in_bounds (finish n s) ≡ true

-- lines that were read without a fault begin a text of lines, and lines that begin one are read without a fault
pub begins_lines : (lines : List CertLine) (s : State) (n : Named) → runs Begun lines ≡ Some s → all_named (none_named 0) lines ≡ Some n → Begins lines s n
begins_lines lines s n h g =
    let end = finishes n s in
    let rest = finish_named n s in
    record {
      certificate = end.0;
      behind = rest.0;
      ran = runs-append lines (finish n s) Begun ∙ ap (λ o. and_then o (λ t. runs t (finish n s))) h ∙ end.1;
      named = all_named-append lines (finish n s) (none_named 0) ∙ ap (λ o. names_then o (λ m. all_named m (finish n s))) g ∙ rest.1;
      bounded = finish_bounded n s (runs_shaped lines Begun s tt h);
    }
