-- The open ends of a tree that was left.
use Rattle.std.proofs.Common.{ℕ, ◌≡◌, ◌<◌, ◌≤◌, ◌+◌, ◌-◌, ◌^◌, arith, refl, sym, ◌∙◌, ap, ap₂, subst, zero, suc, Bool, true, false, List, [], ◌∷◌, ◌++◌, length, drop, take, drop-cons, get_or, add-one, append_assoc}
use Rattle.std.specs.Prelude.{ℤ, slice_get, if◌then◌else◌, Option, Some, None}
use Rattle.std.specs.List.{list_any, All}
use Rattle.std.proofs.lemmas.Int.{ints}
use Rattle.std.proofs.lemmas.Bool.{and_from, or_right}
use Rattle.std.proofs.lemmas.List.{length-take, take-append-drop, take-append-le}
use Rattle.std.proofs.lemmas.List.Elements.{All-append}
use Rattle.std.proofs.lemmas.List.Folds.{list_any-append}
use Rattle.std.proofs.Math.Seq.{take-length, take-append_seam}
use Rattle.problem_core.specs.Facts.{Facts}
use Rattle.duality.specs.declared.leaf.Node.{Node}
use Rattle.duality.specs.declared.leaf.Node.TheVariants.{OpenEnd}
use Rattle.duality.specs.Packing.{Packing, Weights, Stage, Fixing}
use Rattle.duality.specs.Tree.{nothing_fixed}
use Rattle.duality.specs.Walk.{Step, step_at, later, fixing_of, pending_of}
use Rattle.duality.specs.Stages.{IsUp}
use Rattle.duality.specs.After.{after, are_right, is_open, open_ends, first_of}
use Rattle.duality.specs.Units.{branch_count, free_count, most_units}
use Rattle.duality.proofs.AfterLaws.{after_append, right_append, right_proves}
use Rattle.duality.proofs.UnitLaws.{units_most, root_free, free_some}
use Rattle.packing_model.specs.Built.{packing}
use Rattle.packing_model.specs.Cuts.{IsPoolOf}
use Rattle.packing_model.specs.Nodes.{stage_at}
use Rattle.search_nodes.specs.Paths.{onto_path, path_of, IsWalk}
use Rattle.search_nodes.specs.declared.walk.Side.{Side}
use Rattle.node_bound.specs.Bounds.{has_free}
use Rattle.branch_tree.specs.Growths.{value_of, IsHeldAt, IsFineNode, IsGrown, IsGrowth, Goes}
use Rattle.branch_tree.specs.Trees.{IsFirstOpen, IsWhole, IsOpened, Grows, outside_count}
use Rattle.branch_tree.specs.declared.tree.TreeGrown.{TreeGrown}
use Rattle.branch_tree.specs.declared.level.Held.{Held}
use Rattle.branch_tree.specs.declared.state.Growth.{Growth}
use Rattle.branch_tree.proofs.StepLaws.{branch_append, up_same}

later_one : (p : ℕ) (side : Bool) (path : List Step) (n : ℕ) → length (later (step_at p side ∷ path)) + n ≡ length (later path) + (if side then n else suc n)
later_one p true path n = refl
later_one p false path n = omega arith

later_count : (path : List Step) (sides : List Side) → length (later (onto_path path sides)) ≡ length (later path) + outside_count sides
later_count path [] = omega arith
later_count path (b ∷ sides) = later_count (step_at b.pattern b.inside ∷ path) sides ∙ later_one b.pattern b.inside path (outside_count sides)

pub ends_count : (sides : List Side) → suc (outside_count sides) ≡ length (pending_of (path_of sides))
ends_count sides = omega (arith, later_count [] sides)

ends_more : (m n : ℕ) → open_ends m ++ open_ends n ≡ open_ends (m + n)
ends_more zero n = ap open_ends (zero_plus n)
  where
    zero_plus : (n : ℕ) → n ≡ 0 + n
    zero_plus n = omega arith
ends_more (suc m) n = ap (λ ns. OpenEnd ∷ ns) (ends_more m n) ∙ ap open_ends (suc_plus m n)
  where
    suc_plus : (m n : ℕ) → suc (m + n) ≡ suc m + n
    suc_plus m n = omega arith

count_more : (b : Side) (sides : List Side) → outside_count (b ∷ []) + outside_count sides ≡ outside_count (b ∷ sides)
count_more b sides = go b.inside
  where
    go : (side : Bool) → (if side then 0 else 1) + outside_count sides ≡ (if side then outside_count sides else suc (outside_count sides))
    go true = omega arith
    go false = omega arith

pub one_end : (nodes nodes' whole : List Node) (sides : List Side) (i : ℕ) (d : Side) → i < length sides → nodes' ≡ nodes ++ open_ends (outside_count (get_or sides i d ∷ []))
    → nodes ++ open_ends (outside_count (drop i sides)) ≡ whole → nodes' ++ open_ends (outside_count (drop (i + 1) sides)) ≡ whole
one_end nodes nodes' whole sides i d l e h =
    let here = get_or sides i d in
    let rest = drop (i + 1) sides in
    let more : drop i sides ≡ here ∷ rest = rw (add-one, drop-cons sides i d l) refl in
    ap (λ ns. ns ++ open_ends (outside_count rest)) e
    ∙ append_assoc nodes (open_ends (outside_count (here ∷ []))) (open_ends (outside_count rest))
    ∙ ap (λ ns. nodes ++ ns) (ends_more (outside_count (here ∷ [])) (outside_count rest))
    ∙ ap (λ n. nodes ++ open_ends n) (count_more here rest ∙ ap outside_count (sym more))
    ∙ h

ends_right : (k : Packing) (w : Weights) (s : Stage) (fs : List Fixing) → are_right k w s fs (open_ends (length fs)) ≡ true
ends_right k w s [] = refl
ends_right k w s (f ∷ fs) = ends_right k w s fs

ends_behind : (fs : List Fixing) → after fs (open_ends (length fs)) ≡ []
ends_behind [] = refl
ends_behind (f ∷ fs) = ends_behind fs

ends_branches : (n : ℕ) → branch_count (open_ends n) ≡ 0
ends_branches zero = refl
ends_branches (suc n) = ends_branches n

ends_fine : (n : ℕ) → All IsFineNode (open_ends n)
ends_fine zero k d l = absurd (omega arith)
ends_fine (suc n) zero d l = tt
ends_fine (suc n) (suc k) d l = ends_fine n k d (omega arith)

root_most : (k : Packing) → most_units k (nothing_fixed ∷ []) ≡ 2 ^ k.count - 1
root_most k = ap (λ n. (2 ^ n - 1) + 0) (root_free k nothing_fixed refl refl) ∙ plus_zero (2 ^ k.count - 1)
  where
    plus_zero : (n : ℕ) → n + 0 ≡ n
    plus_zero n = omega arith

get_seam : {A : Type 0} (xs ys : List A) (y : A) → slice_get (xs ++ (y ∷ ys)) (length xs) ≡ Some y
get_seam [] ys y = refl
get_seam (x ∷ xs) ys y = get_seam xs ys y

-- the first open end stands behind the nodes that were made
pub first_open : (k : Packing) (nodes : List Node) (path : List Step) → after (nothing_fixed ∷ []) nodes ≡ pending_of path → list_any is_open nodes ≡ false → has_free k (fixing_of path) ≡ true
    → IsFirstOpen k (nodes ++ open_ends (length (pending_of path))) (length nodes) (fixing_of path)
first_open k nodes path behind closed free =
    let ends = open_ends (length (pending_of path)) in
    record {
      node = get_seam nodes (open_ends (length (later path))) OpenEnd;
      before = ap (list_any is_open) (take-append_seam nodes ends) ∙ closed;
      here = ap (λ ns. first_of (after (nothing_fixed ∷ []) ns)) (take-append_seam nodes ends) ∙ ap first_of behind;
      free = free;
    }

module _ (p : Facts) (w : Weights) (level : ℕ) (targets : List ℤ) (pool : List (List ℕ)) (nodes : List Node) (held : Option Held) where
  abbrev pub stage : Stage
  stage = stage_at level targets (value_of held) pool

  pub whole_tree : IsGrown p w level targets pool [] nodes held → IsWhole (packing p) w stage nodes
  whole_tree g =
      let units = units_most (packing p) w stage (nothing_fixed ∷ []) nodes g.right in
      record {
        proves = right_proves (packing p) w stage (nothing_fixed ∷ []) nodes g.right g.closed g.behind;
        right = g.right;
        behind = g.behind;
        closed = g.closed;
        few = omega (arith, units, root_most (packing p));
      }

  pub opened_tree : (path : List Step) → IsGrown p w level targets pool (pending_of path) nodes held → has_free (packing p) (fixing_of path) ≡ true
      → IsOpened (packing p) w stage (nodes ++ open_ends (length (pending_of path)))
  opened_tree path g free =
      let k = packing p in
      let ends = open_ends (length (pending_of path)) in
      let units : branch_count nodes + most_units k (pending_of path) ≤ most_units k (nothing_fixed ∷ []) = subst (λ fs. branch_count nodes + most_units k fs ≤ most_units k (nothing_fixed ∷ [])) g.behind (units_most k w stage (nothing_fixed ∷ []) nodes g.right) in
      let some : 1 ≤ 2 ^ free_count k (fixing_of path) - 1 = free_some k (fixing_of path) free in
      record {
        right = right_append k w stage (nothing_fixed ∷ []) nodes ends ∙ and_from (are_right k w stage (nothing_fixed ∷ []) nodes) _ g.right (ap (λ fs. are_right k w stage fs ends) g.behind ∙ ends_right k w stage (pending_of path));
        behind = after_append (nothing_fixed ∷ []) nodes ends ∙ ap (λ fs. after fs ends) g.behind ∙ ends_behind (pending_of path);
        some_open = list_any-append is_open nodes ends ∙ or_right (list_any is_open nodes) (list_any is_open ends) refl;
        place = length nodes;
        fixing = fixing_of path;
        first = first_open k nodes path g.behind g.closed free;
        few = omega (arith, units, some, root_most k, branch_append nodes ends, ends_branches (length (pending_of path)));
      }

  pub opened_fine : (n : ℕ) → All IsFineNode nodes → All IsFineNode (nodes ++ open_ends n)
  opened_fine n h = All-append IsFineNode nodes (open_ends n) h (ends_fine n)

  pub opened_count : (n : ℕ) → branch_count (nodes ++ open_ends n) ≡ branch_count nodes
  opened_count n = omega (arith, branch_append nodes (open_ends n), ends_branches n)

pub up_through : (a b c : Option ℤ) → IsUp a b → IsUp b c → IsUp a c
up_through None b c h k = tt
up_through (Some x) None c h k = absurd h
up_through (Some x) (Some y) None h k = absurd k
up_through (Some x) (Some y) (Some z) h k = omega (arith, ints)

pub shorter : {A : Type 0} (xs ys : List A) → take (length xs) ys ≡ xs → length xs ≤ length ys
shorter xs ys h = omega (arith, ap length h, length-take (length xs) ys)

-- what was first stays first
pub first_stays : {A : Type 0} (xs ys zs : List A) → take (length xs) ys ≡ xs → take (length ys) zs ≡ ys → take (length xs) zs ≡ xs
first_stays {A = A} xs ys zs h k =
    let n : length xs ≤ length ys = shorter xs ys h in
    ap (take (length xs)) (sym (take-append-drop (length ys) zs) ∙ ap (λ (us : List A). us ++ drop (length ys) zs) k)
    ∙ take-append-le (length xs) ys (drop (length ys) zs) n ∙ h

pub goes_through : (held held' held'' : Option Held) (nodes nodes' nodes'' : List Node) (pool pool' pool'' : List (List ℕ)) (budget budget' budget'' : ℕ)
    → Goes held held' nodes nodes' pool pool' budget budget' → Goes held' held'' nodes' nodes'' pool' pool'' budget' budget'' → Goes held held'' nodes nodes'' pool pool'' budget budget''
goes_through held held' held'' nodes nodes' nodes'' pool pool' pool'' budget budget' budget'' h k = record {
  up = up_through (value_of held) (value_of held') (value_of held'') h.up k.up;
  paid = k.paid ∙ h.paid;
  kept = first_stays pool pool' pool'' h.kept k.kept;
}

pub goes_none : (held : Option Held) (nodes : List Node) (pool : List (List ℕ)) (budget : ℕ) → nodes ≡ [] → Goes held held [] nodes pool pool budget budget
goes_none held nodes pool budget e = record { up = up_same (value_of held); paid = ap (λ ns. branch_count ns + budget) e; kept = take-length pool }

pub no_nodes : (p : Facts) (w : Weights) (level : ℕ) (targets : List ℤ) (pool : List (List ℕ)) (g : Growth) → g.nodes ≡ [] → g.walk.path ≡ [] → IsWalk (packing p) g.walk
    → IsHeldAt p w level targets g.held → IsPoolOf (packing p) pool → IsGrowth p w level targets pool g
no_nodes p w level targets pool g nodes path walk held pool_is = record {
  grown = record {
    right = ap (are_right (packing p) w (stage_at level targets (value_of g.held) pool) (nothing_fixed ∷ [])) nodes;
    behind = ap (after (nothing_fixed ∷ [])) nodes ∙ ap (λ sides. pending_of (path_of sides)) (sym path);
    closed = ap (list_any is_open) nodes;
    fine = subst (All IsFineNode) (sym nodes) (λ k d l. absurd (omega arith));
    held_is = held;
    pool_is = pool_is;
  };
  walk = walk;
}

pub grown_same : (a b : TreeGrown) → b.nodes ≡ a.nodes → b.held ≡ a.held → b.proved ≡ a.proved → b ≡ a
grown_same a b e f h = ap₃ e f h
  where
    made : List Node → Option Held → Bool → TreeGrown
    made nodes held proved = record { nodes = nodes; held = held; proved = proved }

    ap₃ : {ns ns' : List Node} {h h' : Option Held} {p p' : Bool} → ns ≡ ns' → h ≡ h' → p ≡ p' → made ns h p ≡ made ns' h' p'
    ap₃ {ns} {ns'} {h} {h'} {p} {p'} e f g = ap (λ x. made x h p) e ∙ ap₂ (λ x y. made ns' x y) f g

pub grows_open : (p : Facts) (w : Weights) (level : ℕ) (targets : List ℤ) (held : Option Held) (pool pool' : List (List ℕ)) (budget budget' : ℕ) (g : Growth) (grown : TreeGrown)
    → IsGrowth p w level targets pool' g → budget' ≡ 0 → has_free (packing p) (fixing_of (path_of g.walk.path)) ≡ true → Goes held g.held [] g.nodes pool pool' budget budget'
    → grown.nodes ≡ g.nodes ++ open_ends (length (pending_of (path_of g.walk.path))) → grown.held ≡ g.held → grown.proved ≡ false
    → Grows p w level targets held pool pool' budget budget' grown
grows_open p w level targets held pool pool' budget budget' g grown h none free goes nodes held' ended =
    let path = path_of g.walk.path in
    let n = length (pending_of path) in
    let made : TreeGrown = record { nodes = g.nodes ++ open_ends n; held = g.held; proved = false } in
    let same : made ≡ grown = grown_same grown made (sym nodes) (sym held') (sym ended) in
    subst (Grows p w level targets held pool pool' budget budget') same (record {
      ends = (opened_tree p w level targets pool' g.nodes g.held path h.grown free, none);
      fine = opened_fine p w level targets pool' g.nodes g.held n h.grown.fine;
      held_is = h.grown.held_is;
      pool_is = h.grown.pool_is;
      goes = record { up = goes.up; paid = ap (λ b. b + budget') (opened_count p w level targets pool' g.nodes g.held n) ∙ goes.paid; kept = goes.kept };
    })
