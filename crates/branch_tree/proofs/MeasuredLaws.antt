-- A tree over the six measures in words of the measures.
use Rattle.std.proofs.Common.{ℕ, ◌≡◌, ◌<◌, ◌≤◌, ◌+◌, ◌-◌, ◌^◌, arith, refl, sym, ◌∙◌, ap, subst, zero, suc, Bool, true, false, List, [], ◌∷◌, length, take}
use Rattle.std.specs.Prelude.{ℤ, pos, ◌≤ℤ◌, Some, slice_index_or, min}
use Rattle.std.proofs.lemmas.Int.{ints}
use Rattle.std.proofs.lemmas.List.{length-take, get_or-take}
use mir.Syntax.{w64}
use mir.Val.{to_z, of_z}
use Rattle.problem_core.specs.Facts.{Facts}
use Rattle.problem_core.specs.Choice.{IsLegal}
use Rattle.problem_core.specs.Measures.{measure, measures}
use Rattle.problem_core.specs.declared.choice.Choice.{Choice}
use Rattle.duality.specs.declared.leaf.Node.{Node}
use Rattle.duality.specs.Packing.{Packing, Weights, Stage, target_of}
use Rattle.duality.specs.Stages.{IsUp}
use Rattle.duality.specs.Sums.{IsWithin}
use Rattle.duality.specs.Tree.{nothing_fixed}
use Rattle.duality.specs.After.{are_right}
use Rattle.meeting_patterns.specs.Pattern.{patterns_of}
use Rattle.packing_model.specs.Built.{packing, measured, rows_of}
use Rattle.packing_model.specs.Nodes.{stage_at}
use Rattle.search_nodes.specs.Choices.{weighs}
use Rattle.node_bound.specs.Bounds.{IsLevelAt}
use Rattle.cert_text.specs.declared.lines.Tree.{Tree}
use Rattle.branch_tree.specs.Growths.{value_of, IsHeldAt}
use Rattle.branch_tree.specs.Measured.{targets_of, GrowsAt, GrowsTo, LogsAt, LogsTo, IsEnded}
use Rattle.branch_tree.specs.Trees.{Ends, Grows, LogsAll}
use Rattle.branch_tree.specs.declared.level.Held.{Held}
use Rattle.branch_tree.specs.declared.log.Log.{Log}
use Rattle.branch_tree.specs.declared.measures.Grown.{Grown}
use Rattle.branch_tree.specs.declared.measures.Grown.TheVariants.{Proved, Spent}
use Rattle.branch_tree.specs.declared.tree.TreeGrown.{TreeGrown}
use Rattle.branch_tree.proofs.NodeLaws.{AreFew, nodes_bounded}

measure_at : (p : Facts) (a : List ℕ) (j : ℕ) → j < 6 → slice_index_or (measures p a) j (pos 0) ≡ measure p (j + 1) a
measure_at p a zero l = refl
measure_at p a (suc zero) l = refl
measure_at p a (suc (suc zero)) l = refl
measure_at p a (suc (suc (suc zero))) l = refl
measure_at p a (suc (suc (suc (suc zero)))) l = refl
measure_at p a (suc (suc (suc (suc (suc zero))))) l = refl
measure_at p a (suc (suc (suc (suc (suc (suc j)))))) l = absurd (omega arith)

less_more : (j : ℕ) → 1 ≤ j → (j - 1) + 1 ≡ j
less_more j l = omega arith

-- the measure of a level
level_value : (p : Facts) (a : List ℕ) (level : ℕ) → 1 ≤ level → level ≤ 6 → slice_index_or (measures p a) (level - 1) (pos 0) ≡ measure p level a
level_value p a level low high = measure_at p a (level - 1) (omega arith) ∙ ap (λ j. measure p j a) (less_more level low)

target_is : (p : Facts) (a : List ℕ) (level j : ℕ) → level ≤ 6 → 1 ≤ j → j < level → target_of (targets_of p level a) j ≡ measure p j a
target_is p a level j high low below = get_or-take (level - 1) (measures p a) (j - 1) (pos 0) (omega arith) ∙ level_value p a j low (omega arith)

ends_right : (k : Packing) (w : Weights) (s : Stage) (nodes : List Node) (budget : ℕ) (proved : Bool) → Ends k w s nodes budget proved → are_right k w s (nothing_fixed ∷ []) nodes ≡ true
ends_right k w s nodes budget true h = h.right
ends_right k w s nodes budget false h = h.0.right

none_plus : (n : ℕ) → 0 + n ≡ n
none_plus n = omega arith

value_up : (v x : ℤ) → IsUp (Some v) (Some x) → v ≤ℤ x
value_up v x h = h

module _ (p : Facts) (level : ℕ) (targets values : List ℤ) (best : List ℕ) (start h : Held)
    (low : 1 ≤ level) (high : level ≤ 6) (values_are : values ≡ measures p best) (targets_are : targets ≡ take (level - 1) values)
    (same : start.choice.entries ≡ best) (worth : start.value ≡ slice_index_or values (level - 1) (pos 0)) (weigh : (j : ℕ) (a : List ℕ) → IsLegal p a → weighs p (measured p) j a ≡ measure p j a) where
  start_value : start.value ≡ measure p level best
  start_value = worth ∙ ap (λ (vs : List ℤ). slice_index_or vs (level - 1) (pos 0)) values_are ∙ level_value p best level low high

  below : targets ≡ targets_of p level best
  below = targets_are ∙ ap (take (level - 1)) values_are

  pub held_at : IsHeldAt p (measured p) level targets (Some h) → IsHeldAt p (measured p) level (targets_of p level best) (Some h)
  held_at x = subst (λ ts. IsHeldAt p (measured p) level ts (Some h)) below x

  held_value : IsHeldAt p (measured p) level targets (Some h) → h.value ≡ measure p level h.choice.entries
  held_value x = let y = held_at x in y.1 ∙ weigh level h.choice.entries y.0.legal

  pub grows_at : (pool pool' : List (List ℕ)) (budget budget' : ℕ) (grown : TreeGrown) → length (patterns_of p) ≤ 200000 → length (rows_of p) ≤ 4000 → length pool' ≤ 1000
      → Grows p (measured p) level targets (Some start) pool pool' budget budget' grown → grown.held ≡ Some h → GrowsAt p level best pool pool' budget budget' grown.proved grown.nodes h.choice.entries
  grows_at pool pool' budget budget' grown patterns rows cuts g e =
      let x : IsHeldAt p (measured p) level targets (Some h) = subst (IsHeldAt p (measured p) level targets) e g.held_is in
      let y = held_at x in
      let value = held_value x in
      let ends : Ends (packing p) (measured p) (stage_at level (targets_of p level best) (Some (measure p level h.choice.entries)) pool') grown.nodes budget' grown.proved =
      subst (λ v. Ends (packing p) (measured p) (stage_at level (targets_of p level best) (Some v) pool') grown.nodes budget' grown.proved) value
      (subst (λ o. Ends (packing p) (measured p) (stage_at level (targets_of p level best) (value_of o) pool') grown.nodes budget' grown.proved) e
      (subst (λ ts. Ends (packing p) (measured p) (stage_at level ts (value_of grown.held) pool') grown.nodes budget' grown.proved) below g.ends)) in
      let s : Stage = stage_at level (targets_of p level best) (Some (measure p level h.choice.entries)) pool' in
      let few : AreFew (packing p) (measured p) s = record { patterns = patterns; rows = rows; cuts = cuts; floor = refl; level = high } in
      let up : start.value ≤ℤ h.value = value_up start.value h.value (subst (λ o. IsUp (Some start.value) (value_of o)) e g.goes.up) in
      record {
        legal = y.0.legal;
        same_below = λ j l m. sym (weigh j h.choice.entries y.0.legal) ∙ y.0.targets_met j l m ∙ target_is p best level j high l m;
        no_less = subst (λ v. v ≤ℤ measure p level h.choice.entries) start_value (subst (λ v. start.value ≤ℤ v) value up);
        ends = ends;
        bounded = nodes_bounded (packing p) (measured p) s few (nothing_fixed ∷ []) grown.nodes (ends_right (packing p) (measured p) s grown.nodes budget' grown.proved ends) g.fine;
        paid = g.goes.paid ∙ none_plus budget;
        kept = g.goes.kept;
        pool_is = g.pool_is;
      }

  pub logs_at : (pool pool' : List (List ℕ)) (log log' : Log) (wides wides' steps steps' : ℕ) (grown : TreeGrown) → IsHeldAt p (measured p) level targets grown.held
      → LogsAll (packing p) (measured p) level targets (Some start.value) (value_of grown.held) grown.nodes grown.proved pool pool' log log' wides wides' steps steps' → grown.held ≡ Some h
      → LogsAt p level best pool pool' log log' wides wides' steps steps' grown.proved grown.nodes h.choice.entries
  logs_at pool pool' log log' wides wides' steps steps' grown held g e =
      let value = held_value (subst (IsHeldAt p (measured p) level targets) e held) in
      subst (λ v. LogsAll (packing p) (measured p) level (targets_of p level best) (Some v) (Some (measure p level h.choice.entries)) grown.nodes grown.proved pool pool' log log' wides wides' steps steps') start_value
      (subst (λ v. LogsAll (packing p) (measured p) level (targets_of p level best) (Some start.value) (Some v) grown.nodes grown.proved pool pool' log log' wides wides' steps steps') value
      (subst (λ o. LogsAll (packing p) (measured p) level (targets_of p level best) (Some start.value) (value_of o) grown.nodes grown.proved pool pool' log log' wides wides' steps steps') e
      (subst (λ ts. LogsAll (packing p) (measured p) level ts (Some start.value) (value_of grown.held) grown.nodes grown.proved pool pool' log log' wides wides' steps steps') below g)))

-- a value as the machine reads it
pub plain_value : (z : ℤ) → IsWithin (10 ^ 12) z → to_z w64 (of_z w64 z) ≡ z
plain_value z h = omega (arith, ints, h.low, h.high)

pub value_read : (p : Facts) (level : ℕ) (values : List ℤ) (best : List ℕ) → 1 ≤ level → level ≤ 6 → values ≡ measures p best → IsLegal p best → ((j : ℕ) (a : List ℕ) → IsLegal p a → IsWithin (10 ^ 12) (measure p j a))
    → to_z w64 (of_z w64 (slice_index_or values (level - 1) (pos 0))) ≡ slice_index_or values (level - 1) (pos 0)
value_read p level values best low high values_are legal small =
    let value : slice_index_or values (level - 1) (pos 0) ≡ measure p level best = ap (λ (vs : List ℤ). slice_index_or vs (level - 1) (pos 0)) values_are ∙ level_value p best level low high in
    plain_value (slice_index_or values (level - 1) (pos 0)) (subst (IsWithin (10 ^ 12)) (sym value) (small level best legal))

-- the choice that the tree is begun with
pub start_held : (p : Facts) (level : ℕ) (targets values : List ℤ) (best : List ℕ) (start : Held) → 1 ≤ level → level ≤ 6 → values ≡ measures p best → targets ≡ take (level - 1) values
    → start.choice.entries ≡ best → start.value ≡ slice_index_or values (level - 1) (pos 0) → IsLegal p best → ((j : ℕ) (a : List ℕ) → IsLegal p a → weighs p (measured p) j a ≡ measure p j a)
    → IsHeldAt p (measured p) level targets (Some start)
start_held p level targets values best start low high values_are targets_are same worth legal weigh =
    let is : IsLegal p start.choice.entries = subst (IsLegal p) (sym same) legal in
    let below : targets ≡ targets_of p level best = targets_are ∙ ap (take (level - 1)) values_are in
    let here : (j : ℕ) → weighs p (measured p) j start.choice.entries ≡ measure p j best = λ j. weigh j start.choice.entries is ∙ ap (measure p j) same in (
      record {
        legal = is;
        targets_met = λ j l m. here j ∙ sym (target_is p best level j high l m) ∙ ap (λ ts. target_of ts j) (sym below);
        floor = refl;
      },
      worth ∙ ap (λ (vs : List ℤ). slice_index_or vs (level - 1) (pos 0)) values_are ∙ level_value p best level low high ∙ sym (here level),
    )

-- the level, with the measures below it as targets
pub start_level : (p : Facts) (level : ℕ) (targets values : List ℤ) (best : List ℕ) → 1 ≤ level → level ≤ 6 → values ≡ measures p best → targets ≡ take (level - 1) values
    → IsLegal p best → ((j : ℕ) (a : List ℕ) → IsLegal p a → weighs p (measured p) j a ≡ measure p j a) → ((j : ℕ) (a : List ℕ) → IsLegal p a → IsWithin (10 ^ 12) (measure p j a))
    → IsLevelAt p (measured p) (length (patterns_of p)) 6 level targets
start_level p level targets values best low high values_are targets_are legal weigh small =
    let below : targets ≡ targets_of p level best = targets_are ∙ ap (take (level - 1)) values_are in
    let six : length (measures p best) ≡ 6 = refl in
    let count : length targets ≡ level - 1 = ap length below ∙ length-take (level - 1) (measures p best) ∙ fewer (level - 1) (length (measures p best)) (omega (arith, high, six)) in
    record {
      counted = refl;
      high = high;
      targets_are = record {
        low = low;
        count = omega (arith, count, low);
        small = λ i l. subst (IsWithin (10 ^ 12)) (sym (ap (λ (ts : List ℤ). slice_index_or ts i (pos 0)) below ∙ get_or-take (level - 1) (measures p best) i (pos 0) (omega (arith, count)) ∙ measure_at p best i (omega (arith, count, high)))) (small (i + 1) best legal);
      };
      small = λ a is. subst (IsWithin (10 ^ 12)) (sym (weigh level a is)) (small level a is);
    }
  where
    fewer : (n m : ℕ) → n ≤ m → min n m ≡ n
    fewer n m l = omega arith

-- as it ended
pub grows_to : (p : Facts) (level : ℕ) (best : List ℕ) (pool pool' : List (List ℕ)) (budget budget' : ℕ) (tree : Tree) (choice : Choice) (proved : Bool) (r : Grown)
    → GrowsAt p level best pool pool' budget budget' proved tree.nodes choice.entries → IsEnded tree choice proved r → GrowsTo p level best pool pool' budget budget' r
grows_to p level best pool pool' budget budget' tree choice proved (Proved t c) h e =
    subst (λ (x : Tree). GrowsAt p level best pool pool' budget budget' true x.nodes c.entries) (sym e.0)
    (subst (λ (x : Choice). GrowsAt p level best pool pool' budget budget' true tree.nodes x.entries) (sym e.1)
    (subst (λ b. GrowsAt p level best pool pool' budget budget' b tree.nodes choice.entries) e.2 h))
grows_to p level best pool pool' budget budget' tree choice proved (Spent t c) h e =
    subst (λ (x : Tree). GrowsAt p level best pool pool' budget budget' false x.nodes c.entries) (sym e.0)
    (subst (λ (x : Choice). GrowsAt p level best pool pool' budget budget' false tree.nodes x.entries) (sym e.1)
    (subst (λ b. GrowsAt p level best pool pool' budget budget' b tree.nodes choice.entries) e.2 h))

pub logs_to : (p : Facts) (level : ℕ) (best : List ℕ) (pool pool' : List (List ℕ)) (log log' : Log) (wides wides' steps steps' : ℕ) (tree : Tree) (choice : Choice) (proved : Bool) (r : Grown)
    → LogsAt p level best pool pool' log log' wides wides' steps steps' proved tree.nodes choice.entries → IsEnded tree choice proved r → LogsTo p level best pool pool' log log' wides wides' steps steps' r
logs_to p level best pool pool' log log' wides wides' steps steps' tree choice proved (Proved t c) h e =
    subst (λ (x : Tree). LogsAt p level best pool pool' log log' wides wides' steps steps' true x.nodes c.entries) (sym e.0)
    (subst (λ (x : Choice). LogsAt p level best pool pool' log log' wides wides' steps steps' true tree.nodes x.entries) (sym e.1)
    (subst (λ b. LogsAt p level best pool pool' log log' wides wides' steps steps' b tree.nodes choice.entries) e.2 h))
logs_to p level best pool pool' log log' wides wides' steps steps' tree choice proved (Spent t c) h e =
    subst (λ (x : Tree). LogsAt p level best pool pool' log log' wides wides' steps steps' false x.nodes c.entries) (sym e.0)
    (subst (λ (x : Choice). LogsAt p level best pool pool' log log' wides wides' steps steps' false tree.nodes x.entries) (sym e.1)
    (subst (λ b. LogsAt p level best pool pool' log log' wides wides' steps steps' b tree.nodes choice.entries) e.2 h))
