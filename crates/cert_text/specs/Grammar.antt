-- Which line may follow: the text of a certificate, a line at a time.
use Rattle.std.specs.Prelude.{ℕ, ℤ, ◌+◌, zero, suc, Bool, true, false, ◌&&◌, not, ◌==◌, nat_lt, if◌then◌else◌, Option, Some, None, is_some, List, [], ◌∷◌, ◌++◌, length, map}
use Rattle.std.specs.List.{list_all, list_any}
use Rattle.duality.specs.declared.leaf.Node.{Node as SearchNode}
use Rattle.duality.specs.declared.leaf.Node.TheVariants.{Branch, Leaf as Closing, OpenEnd, Same}
use Rattle.duality.specs.After.{is_open}
use Rattle.cert_text.specs.declared.lines.Tree.{Tree}
use Rattle.cert_text.specs.declared.lines.Certificate.{Certificate}
use Rattle.cert_text.specs.declared.lines.CertLine.{CertLine}
use Rattle.cert_text.specs.declared.lines.CertLine.TheVariants.{Head, Sizes, Choice, Values, Cuts, Cut, Level, Unfinished, Node, End}
use Rattle.cert_text.specs.Spelling.{in_bounds}
use Rattle.cert_text.specs.Sharing.{none_named, all_named}

-- what stands before the levels
pub record Opening : Type 0 where
  pub version : ℕ
  pub patterns : ℕ
  pub rows : ℕ
  pub choice : List ℕ
  pub values : List ℤ
  pub cuts : List (List ℕ)

abbrev pub opening_of : Certificate → Opening
opening_of c = record { version = c.version; patterns = c.patterns; rows = c.rows; choice = c.choice; values = c.values; cuts = c.cuts }

abbrev pub with_levels : Opening → List Tree → Option Tree → Certificate
with_levels o levels unfinished = record { version = o.version; patterns = o.patterns; rows = o.rows; choice = o.choice; values = o.values; cuts = o.cuts; levels = levels; unfinished = unfinished }

-- ---- the writer

abbrev pub blocks : ℕ → List Tree → List CertLine
blocks n [] = []
blocks n (t ∷ ts) = Level (n + 1) ∷ (map Node t.nodes ++ blocks (n + 1) ts)

abbrev pub open_block : ℕ → Option Tree → List CertLine
open_block n None = []
open_block n (Some t) = Unfinished (n + 1) ∷ map Node t.nodes

-- the lines before the levels, with the number of cuts that is announced, and what follows them
abbrev pub front : ℕ → Opening → List CertLine → List CertLine
front n o rest = Head o.version ∷ (Sizes o.patterns o.rows ∷ (Choice o.choice ∷ (Values o.values ∷ (Cuts n ∷ (map Cut o.cuts ++ rest)))))

abbrev pub lines_of : Certificate → List CertLine
lines_of c = front (length c.cuts) (opening_of c) (blocks 0 c.levels ++ (open_block (length c.levels) c.unfinished ++ (End (length c.levels) ∷ [])))

-- ---- the reader: what has come, and what it waits for

-- in a list of cuts and in a tree the number says how many more are wanted beyond the next one; each state
-- can be finished
pub data State : Type 0 where
  Begun : State
  Headed : ℕ → State
  Sized : ℕ → ℕ → ℕ → State
  Chosen : ℕ → ℕ → ℕ → List ℕ → State
  Valued : ℕ → ℕ → ℕ → List ℕ → List ℤ → State
  Cutting : Opening → ℕ → State
  Between : Opening → List Tree → State
  Inside : Opening → List Tree → List SearchNode → ℕ → State
  Loose : Opening → List Tree → List SearchNode → ℕ → Bool → State
  After : Opening → List Tree → List SearchNode → State
  Over : Certificate → State

abbrev pub tree_of : List SearchNode → Tree
tree_of ns = record { nodes = ns }

abbrev pub may_begin : ℕ → List Tree → Bool
may_begin j ls = (j == length ls + 1) && nat_lt (length ls) 6

abbrev pub with_cut : List ℕ → Opening → Opening
with_cut ps o = record { version = o.version; patterns = o.patterns; rows = o.rows; choice = o.choice; values = o.values; cuts = o.cuts ++ (ps ∷ []) }

abbrev pub awaits : Opening → ℕ → State
awaits o zero = Between o []
awaits o (suc k) = Cutting o k

abbrev pub in_level : Opening → List Tree → List SearchNode → ℕ → SearchNode → Option State
in_level o ls ns k (Branch p) = Some (Inside o ls (ns ++ (Branch p ∷ [])) (suc k))
in_level o ls ns zero (Closing leaf) = Some (Between o (ls ++ (tree_of (ns ++ (Closing leaf ∷ [])) ∷ [])))
in_level o ls ns (suc k) (Closing leaf) = Some (Inside o ls (ns ++ (Closing leaf ∷ [])) k)
in_level o ls ns k OpenEnd = None
in_level o ls ns zero (Same q) = Some (Between o (ls ++ (tree_of (ns ++ (Same q ∷ [])) ∷ [])))
in_level o ls ns (suc k) (Same q) = Some (Inside o ls (ns ++ (Same q ∷ [])) k)

-- the last part must be open where none was open before
abbrev pub in_loose : Opening → List Tree → List SearchNode → ℕ → Bool → SearchNode → Option State
in_loose o ls ns k seen (Branch p) = Some (Loose o ls (ns ++ (Branch p ∷ [])) (suc k) seen)
in_loose o ls ns zero seen (Closing leaf) = if seen then Some (After o ls (ns ++ (Closing leaf ∷ []))) else None
in_loose o ls ns (suc k) seen (Closing leaf) = Some (Loose o ls (ns ++ (Closing leaf ∷ [])) k seen)
in_loose o ls ns zero seen OpenEnd = Some (After o ls (ns ++ (OpenEnd ∷ [])))
in_loose o ls ns (suc k) seen OpenEnd = Some (Loose o ls (ns ++ (OpenEnd ∷ [])) k true)
in_loose o ls ns zero seen (Same q) = if seen then Some (After o ls (ns ++ (Same q ∷ []))) else None
in_loose o ls ns (suc k) seen (Same q) = Some (Loose o ls (ns ++ (Same q ∷ [])) k seen)

abbrev pub step : State → CertLine → Option State
step Begun (Head v) = Some (Headed v)
step (Headed v) (Sizes p r) = Some (Sized v p r)
step (Sized v p r) (Choice cs) = Some (Chosen v p r cs)
step (Chosen v p r cs) (Values vs) = Some (Valued v p r cs vs)
step (Valued v p r cs vs) (Cuts k) = Some (awaits (record { version = v; patterns = p; rows = r; choice = cs; values = vs; cuts = [] }) k)
step (Cutting o zero) (Cut ps) = Some (Between (with_cut ps o) [])
step (Cutting o (suc k)) (Cut ps) = Some (Cutting (with_cut ps o) k)
step (Between o ls) (Level j) = if may_begin j ls then Some (Inside o ls [] 0) else None
step (Between o ls) (Unfinished j) = if may_begin j ls then Some (Loose o ls [] 0 false) else None
step (Between o ls) (End j) = if j == length ls then Some (Over (with_levels o ls None)) else None
step (Inside o ls ns k) (Node n) = in_level o ls ns k n
step (Loose o ls ns k seen) (Node n) = in_loose o ls ns k seen n
step (After o ls ns) (End j) = if j == length ls then Some (Over (with_levels o ls (Some (tree_of ns)))) else None
step s l = None

abbrev pub and_then : Option State → (State → Option State) → Option State
and_then None f = None
and_then (Some s) f = f s

abbrev pub runs : State → List CertLine → Option State
runs s [] = Some s
runs s (l ∷ ls) = and_then (step s l) (λ next. runs next ls)

-- ---- what a certificate must be

-- the nodes fill the part that is wanted and k more, and nothing stands behind
abbrev pub fills : ℕ → List SearchNode → Bool
fills k [] = false
fills k (Branch p ∷ ns) = fills (suc k) ns
fills zero (Closing leaf ∷ []) = true
fills zero (Closing leaf ∷ (n ∷ ns)) = false
fills (suc k) (Closing leaf ∷ ns) = fills k ns
fills zero (OpenEnd ∷ []) = true
fills zero (OpenEnd ∷ (n ∷ ns)) = false
fills (suc k) (OpenEnd ∷ ns) = fills k ns
fills zero (Same q ∷ []) = true
fills zero (Same q ∷ (n ∷ ns)) = false
fills (suc k) (Same q ∷ ns) = fills k ns

-- one whole tree without an open end
abbrev pub is_closed_tree : Tree → Bool
is_closed_tree t = fills 0 t.nodes && not (list_any is_open t.nodes)

-- one whole tree with an open end
abbrev pub is_open_tree : Option Tree → Bool
is_open_tree None = true
is_open_tree (Some t) = fills 0 t.nodes && list_any is_open t.nodes

-- six levels at most, and an unfinished one counts
abbrev pub fits_count : ℕ → Option Tree → Bool
fits_count n None = nat_lt n 7
fits_count n (Some t) = nat_lt n 6

abbrev pub is_shaped : Certificate → Bool
is_shaped c = fits_count (length c.levels) c.unfinished && (list_all is_closed_tree c.levels && is_open_tree c.unfinished)

-- each node that names a leaf names one before it, and in version 2 no two leaves are equal; in version 1 no node
-- names a leaf
abbrev pub is_named : Certificate → Bool
is_named c = is_some (all_named (none_named 0) (lines_of c))

-- whole trees, right names, and each line inside its bounds
abbrev pub is_writable : Certificate → Bool
is_writable c = is_shaped c && (is_named c && list_all in_bounds (lines_of c))
