-- The steps of a search keep what holds of the tree, and leave less to do.
use Rattle.std.proofs.Common.{ℕ, ◌≡◌, ◌<◌, ◌≤◌, ◌+◌, ◌^◌, arith, refl, sym, ◌∙◌, ap, subst, zero, suc, true, false, ◌||◌, List, [], ◌∷◌, ◌++◌, length, length-append, take, inl, inr}
use Rattle.std.specs.Prelude.{ℤ, nat_lt, Option, Some, None}
use Rattle.std.specs.List.{list_any, All}
use Rattle.std.proofs.lemmas.Int.{ints}
use Rattle.std.proofs.lemmas.Bool.{and_parts, and_from, or_from, cases_lt, ltb-true, lt-ltb}
use Rattle.std.proofs.lemmas.List.{get_or_push, get_or_append_left}
use Rattle.std.proofs.lemmas.List.Elements.{All-append}
use Rattle.std.proofs.lemmas.List.Folds.{list_any-append}
use Rattle.std.proofs.Math.Seq.{take-length, take-append_seam}
use Rattle.numbers.specs.Below.{any_below_at, first_from, first_from_finds}
use Rattle.problem_core.specs.Facts.{Facts}
use Rattle.problem_core.specs.Choice.{IsLegal}
use Rattle.duality.specs.declared.leaf.Leaf.{Leaf}
use Rattle.duality.specs.declared.leaf.Node.{Node}
use Rattle.duality.specs.declared.leaf.Node.TheVariants.{Branch, Leaf as Closing, OpenEnd, Same}
use Rattle.duality.specs.Packing.{Packing, Weights, Fixing, is_free}
use Rattle.duality.specs.Sums.{IsWithin, IsValue}
use Rattle.duality.specs.Tree.{nothing_fixed, can_branch, ends_at}
use Rattle.duality.specs.Walk.{Step as PathStep, step_at, fixing_of, pending_of, later, turn, pending}
use Rattle.duality.specs.Stages.{IsUp}
use Rattle.duality.specs.After.{after, are_right, is_open}
use Rattle.duality.specs.Units.{branch_count}
use Rattle.duality.proofs.WalkLaws.{later-turn}
use Rattle.duality.proofs.AfterLaws.{after_append, right_append, all_right_rise, right_sizes}
use Rattle.packing_model.specs.Built.{packing}
use Rattle.packing_model.specs.Cuts.{IsPoolOf, IsCutOf}
use Rattle.packing_model.specs.Nodes.{stage_at}
use Rattle.search_nodes.specs.Paths.{path_of, IsWalk}
use Rattle.search_nodes.specs.Leaves.{IsFineLeaf}
use Rattle.search_nodes.specs.Choices.{IsMore, weighs}
use Rattle.search_nodes.specs.declared.walk.Walk.{Walk}
use Rattle.node_bound.specs.Bounds.{has_free}
use Rattle.branch_tree.specs.Turns.{TurnsTo}
use Rattle.branch_tree.specs.Growths.{value_of, IsHeldAt, IsFineNode, IsGrown, IsGrowth, value_room, Goes, Comes, IsStep}
use Rattle.branch_tree.specs.declared.level.Held.{Held}
use Rattle.branch_tree.specs.declared.state.Growth.{Growth}
use Rattle.branch_tree.specs.declared.state.Step.{Step}
use Rattle.branch_tree.specs.declared.state.Step.TheVariants.{On, Proved, Spent}

pub up_same : (v : Option ℤ) → IsUp v v
up_same None = tt
up_same (Some v) = omega (arith, ints)

pub branch_append : (ns ms : List Node) → branch_count (ns ++ ms) ≡ branch_count ns + branch_count ms
branch_append [] ms = omega arith
branch_append (Branch p ∷ ns) ms = omega (arith, branch_append ns ms)
branch_append (Closing leaf ∷ ns) ms = branch_append ns ms
branch_append (OpenEnd ∷ ns) ms = branch_append ns ms
branch_append (Same leaf ∷ ns) ms = branch_append ns ms

all_snoc : (ns : List Node) (n : Node) → All IsFineNode ns → IsFineNode n → All IsFineNode (ns ++ (n ∷ []))
all_snoc ns n h x = All-append IsFineNode ns (n ∷ []) h (one n x)
  where
    one : (n : Node) → IsFineNode n → All IsFineNode (n ∷ [])
    one n x zero d l = x
    one n x (suc k) d l = absurd (omega arith)

pub pool_more : (k : Packing) (pool : List (List ℕ)) (cut : List ℕ) → IsPoolOf k pool → IsCutOf k cut → IsPoolOf k (pool ++ (cut ∷ []))
pool_more k pool cut h is = record {
  each = λ c l. elim (cases_lt c (length pool)) [
    | inl before ↦ subst (IsCutOf k) (sym (get_or_append_left pool (cut ∷ []) [] c before)) (h.each c before)
    | inr last ↦ subst (IsCutOf k) (sym (get_or_push pool cut [] c (omega (arith, length-append pool (cut ∷ []))))) is
  ];
}

module _ (p : Facts) (w : Weights) (level : ℕ) (targets : List ℤ) where
  -- one more node, which is right at the fixing of the path
  node_more : (pool : List (List ℕ)) (path : List PathStep) (nodes : List Node) (held : Option Held) (n : Node) (left : List Fixing)
      → IsGrown p w level targets pool (pending_of path) nodes held
      → are_right (packing p) w (stage_at level targets (value_of held) pool) (pending_of path) (n ∷ []) ≡ true
      → after (pending_of path) (n ∷ []) ≡ left → is_open n ≡ false → IsFineNode n
      → IsGrown p w level targets pool left (nodes ++ (n ∷ [])) held
  node_more pool path nodes held n left g here next shut fine = record {
    right = right_append (packing p) w (stage_at level targets (value_of held) pool) (nothing_fixed ∷ []) nodes (n ∷ [])
        ∙ and_from (are_right (packing p) w (stage_at level targets (value_of held) pool) (nothing_fixed ∷ []) nodes) _ g.right
        (ap (λ fs. are_right (packing p) w (stage_at level targets (value_of held) pool) fs (n ∷ [])) g.behind ∙ here);
    behind = after_append (nothing_fixed ∷ []) nodes (n ∷ []) ∙ ap (λ fs. after fs (n ∷ [])) g.behind ∙ next;
    closed = list_any-append is_open nodes (n ∷ []) ∙ or_from (list_any is_open nodes) (is_open n || false) g.closed (or_from (is_open n) false shut refl);
    fine = all_snoc nodes n g.fine fine;
    held_is = g.held_is;
    pool_is = g.pool_is;
  }

  grown_as : (pool : List (List ℕ)) (left : List Fixing) (nodes nodes' : List Node) (held held' : Option Held) → nodes' ≡ nodes → held' ≡ held → IsGrown p w level targets pool left nodes held → IsGrown p w level targets pool left nodes' held'
  grown_as pool left nodes nodes' held held' e f g = subst (λ ns. IsGrown p w level targets pool left ns held') (sym e) (subst (λ h. IsGrown p w level targets pool left nodes h) (sym f) g)

  stays : (held held' : Option Held) (nodes : List Node) (pool : List (List ℕ)) (budget : ℕ) → held' ≡ held → (nodes' : List Node) (budget' : ℕ) → branch_count nodes' + budget' ≡ branch_count nodes + budget → Goes held held' nodes nodes' pool pool budget budget'
  stays held held' nodes pool budget e nodes' budget' n = record {
    up = subst (λ h. IsUp (value_of held) (value_of h)) (sym e) (up_same (value_of held));
    paid = n;
    kept = take-length pool;
  }

  pub close_step : (g g' : Growth) (pool : List (List ℕ)) (budget : ℕ) (leaf : Leaf) (step : Step)
      → IsGrowth p w level targets pool g
      → ends_at (packing p) w (stage_at level targets (value_of g.held) pool) (fixing_of (path_of g.walk.path)) leaf ≡ true → IsFineLeaf leaf
      → g'.nodes ≡ g.nodes ++ (Closing leaf ∷ []) → g'.held ≡ g.held → IsWalk (packing p) g'.walk
      → TurnsTo (turn (path_of g.walk.path)) (path_of g'.walk.path) step
      → IsStep p w level targets g g' pool pool budget budget step
  close_step g g' pool budget leaf step h ends fine nodes held walk turned = record {
    goes = stays g.held g'.held g.nodes pool budget held g'.nodes budget
        (let n : branch_count g'.nodes ≡ branch_count g.nodes = ap branch_count nodes ∙ branch_append g.nodes (Closing leaf ∷ []) ∙ add_zero (branch_count g.nodes) in ap (λ x. x + budget) n);
    comes = go step turned;
  }
    where
      add_zero : (n : ℕ) → n + 0 ≡ n
      add_zero n = omega arith

      path : List PathStep
      path = path_of g.walk.path

      grown : (left : List Fixing) → later path ≡ left → IsGrown p w level targets pool left g'.nodes g'.held
      grown left e = grown_as pool left (g.nodes ++ (Closing leaf ∷ [])) g'.nodes g.held g'.held nodes held
          (node_more pool path g.nodes g.held (Closing leaf) left h.grown (and_from _ true ends refl) e refl fine)

      go : (step : Step) → TurnsTo (turn path) (path_of g'.walk.path) step → Comes p w level targets g g' pool pool budget budget step
      go On t =
          let e : later path ≡ pending_of (path_of g'.walk.path) = later-turn path ∙ ap pending t in
          let n : length (later path) ≡ length (pending_of (path_of g'.walk.path)) = ap length e in
          let v : value_room (value_of g'.held) ≡ value_room (value_of g.held) = ap (λ x. value_room (value_of x)) held in
          (record { grown = grown (pending_of (path_of g'.walk.path)) e; walk = walk }, omega arith)
      go Proved t = grown [] (later-turn path ∙ ap pending t)
      go Spent t = absurd t

  -- a leaf that closed against a value closes against a greater one, and with more cuts
  grown_rises : (pool pool' : List (List ℕ)) (left : List Fixing) (nodes : List Node) (held held' : Option Held)
      → IsGrown p w level targets pool left nodes held → IsUp (value_of held) (value_of held') → take (length pool) pool' ≡ pool
      → IsHeldAt p w level targets held' → IsPoolOf (packing p) pool' → IsGrown p w level targets pool' left nodes held'
  grown_rises pool pool' left nodes held held' g up kept held_is pool_is = record {
    right = all_right_rise (packing p) w (stage_at level targets (value_of held) pool) (stage_at level targets (value_of held') pool') (nothing_fixed ∷ []) nodes
        (record { level = refl; targets = refl; best = up; kept = kept }) g.right;
    behind = g.behind;
    closed = g.closed;
    fine = g.fine;
    held_is = held_is;
    pool_is = pool_is;
  }

  is_up : (o : Option ℤ) (x : ℤ) → IsMore o x → IsUp o (Some x)
  is_up None x m = tt
  is_up (Some v) x m = omega (arith, ints)

  less_room : (o : Option ℤ) (x : ℤ) → IsValue o → IsWithin (10 ^ 12) x → IsMore o x → value_room (Some x) < value_room o
  less_room None x v h m = omega (arith, ints, h.low, h.high)
  less_room (Some a) x v h m = omega (arith, ints, h.low, h.high, v.low, v.high)

  pub held_value : (small : (a : List ℕ) → IsLegal p a → IsWithin (10 ^ 12) (weighs p w level a)) (held : Option Held) → IsHeldAt p w level targets held → IsValue (value_of held)
  held_value small None h = tt
  held_value small (Some x) h = subst (IsWithin (10 ^ 12)) (sym h.1) (small x.choice.entries h.0.legal)

  pub better_step : (g g' : Growth) (pool : List (List ℕ)) (budget : ℕ) (x : Held) → ((a : List ℕ) → IsLegal p a → IsWithin (10 ^ 12) (weighs p w level a))
      → IsGrowth p w level targets pool g → IsHeldAt p w level targets (Some x) → IsMore (value_of g.held) x.value
      → g'.nodes ≡ g.nodes → g'.walk ≡ g.walk → g'.held ≡ Some x
      → IsStep p w level targets g g' pool pool budget budget On
  better_step g g' pool budget x small h is more nodes walk held =
      let up : IsUp (value_of g.held) (value_of g'.held) = subst (λ o. IsUp (value_of g.held) (value_of o)) (sym held) (is_up (value_of g.held) x.value more) in
      let is' : IsHeldAt p w level targets g'.held = subst (IsHeldAt p w level targets) (sym held) is in
      let path : pending_of (path_of g'.walk.path) ≡ pending_of (path_of g.walk.path) = ap (λ (u : Walk). pending_of (path_of u.path)) walk in
      let less : value_room (value_of g'.held) < value_room (value_of g.held) =
      subst (λ o. value_room (value_of o) < value_room (value_of g.held)) (sym held) (less_room (value_of g.held) x.value (held_value small g.held h.grown.held_is) (held_value small (Some x) is) more) in
      let n : length (pending_of (path_of g'.walk.path)) ≡ length (pending_of (path_of g.walk.path)) = ap length path in
      record {
        goes = record { up = up; paid = ap (λ ns. branch_count ns + budget) nodes; kept = take-length pool };
        comes = (
          record {
            grown = subst (λ fs. IsGrown p w level targets pool fs g'.nodes g'.held) (sym path)
                (subst (λ ns. IsGrown p w level targets pool (pending_of (path_of g.walk.path)) ns g'.held) (sym nodes)
                (grown_rises pool pool (pending_of (path_of g.walk.path)) g.nodes g.held g'.held h.grown up (take-length pool) is' h.grown.pool_is));
            walk = subst (IsWalk (packing p)) (sym walk) h.walk;
          },
          omega arith,
        );
      }

  pub cut_step : (g g' : Growth) (pool pool' : List (List ℕ)) (budget : ℕ) (cut : List ℕ)
      → IsGrowth p w level targets pool g → IsCutOf (packing p) cut → length pool < 1000 → pool' ≡ pool ++ (cut ∷ []) → g' ≡ g
      → IsStep p w level targets g g' pool pool' budget budget On
  cut_step g g' pool pool' budget cut h is few e same =
      let n : length pool' ≡ length pool + 1 = ap length e ∙ length-append pool (cut ∷ []) in
      let kept : take (length pool) pool' ≡ pool = ap (take (length pool)) e ∙ take-append_seam pool (cut ∷ []) in
      let pool_is : IsPoolOf (packing p) pool' = subst (IsPoolOf (packing p)) (sym e) (pool_more (packing p) pool cut h.grown.pool_is is) in
      subst (λ x. IsStep p w level targets g x pool pool' budget budget On) (sym same) (record {
        goes = record { up = up_same (value_of g.held); paid = refl; kept = kept };
        comes = (
          record {
            grown = grown_rises pool pool' (pending_of (path_of g.walk.path)) g.nodes g.held g.held h.grown (up_same (value_of g.held)) kept h.grown.held_is pool_is;
            walk = h.walk;
          },
          omega arith,
        );
      })

  pub branch_step : (g g' : Growth) (pool : List (List ℕ)) (budget budget' : ℕ) (q : ℕ)
      → IsGrowth p w level targets pool g → can_branch (packing p) (fixing_of (path_of g.walk.path)) q ≡ true → budget' + 1 ≡ budget
      → g'.nodes ≡ g.nodes ++ (Branch q ∷ []) → g'.held ≡ g.held → path_of g'.walk.path ≡ step_at q false ∷ path_of g.walk.path → IsWalk (packing p) g'.walk
      → IsStep p w level targets g g' pool pool budget budget' On
  branch_step g g' pool budget budget' q h free paid nodes held path walk =
      let old = path_of g.walk.path in
      let e : pending_of (step_at q false ∷ old) ≡ pending_of (path_of g'.walk.path) = ap pending_of (sym path) in
      let n : length (pending_of (step_at q false ∷ old)) ≡ length (pending_of (path_of g'.walk.path)) = ap length e in
      let v : value_room (value_of g'.held) ≡ value_room (value_of g.held) = ap (λ x. value_room (value_of x)) held in
      let count : branch_count g'.nodes ≡ branch_count g.nodes + 1 = ap branch_count nodes ∙ branch_append g.nodes (Branch q ∷ []) in
      record {
        goes = stays g.held g'.held g.nodes pool budget held g'.nodes budget' (omega arith);
        comes = (
          record {
            grown = grown_as pool (pending_of (path_of g'.walk.path)) (g.nodes ++ (Branch q ∷ [])) g'.nodes g.held g'.held nodes held
                (node_more pool old g.nodes g.held (Branch q) (pending_of (path_of g'.walk.path)) h.grown (and_from _ true free refl) e refl tt);
            walk = walk;
          },
          omega arith,
        );
      }

  pub spent_step : (g g' : Growth) (pool : List (List ℕ)) (budget : ℕ) → IsGrowth p w level targets pool g → has_free (packing p) (fixing_of (path_of g.walk.path)) ≡ true → budget ≡ 0 → g' ≡ g
      → IsStep p w level targets g g' pool pool budget budget Spent
  spent_step g g' pool budget h free none same = subst (λ x. IsStep p w level targets g x pool pool budget budget Spent) (sym same) (record {
    goes = record { up = up_same (value_of g.held); paid = refl; kept = take-length pool };
    comes = (h, none, free);
  })

  -- there are at most two nodes a branch, and one more
  pub few_nodes : (g : Growth) (pool : List (List ℕ)) (budget : ℕ) → IsGrowth p w level targets pool g → branch_count g.nodes + budget ≤ 1000000 → length g.nodes < 2 ^ 32
  few_nodes g pool budget h few = omega (arith, right_sizes (packing p) w (stage_at level targets (value_of g.held) pool) (nothing_fixed ∷ []) g.nodes h.grown.right)

pub branch_free : (k : Packing) (f : Fixing) (q : ℕ) → can_branch k f q ≡ true → has_free k f ≡ true
branch_free k f q h =
    let parts = and_parts (nat_lt q k.count) (is_free k f q) h in
    any_below_at (is_free k f) q k.count (ltb-true q k.count parts.0) parts.1

pub lowest_branch : (k : Packing) (f : Fixing) (q : ℕ) → first_from (is_free k f) 0 k.count ≡ q + 1 → can_branch k f q ≡ true
lowest_branch k f q e =
    let found = first_from_finds (is_free k f) 0 k.count q e in
    and_from (nat_lt q k.count) (is_free k f q) (lt-ltb q k.count (omega (arith, found.1))) found.0
