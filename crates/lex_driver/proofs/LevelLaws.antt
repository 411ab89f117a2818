-- A level more keeps those below it proved.
use Rattle.std.proofs.Common.{ℕ, ◌≡◌, ◌<◌, ◌≤◌, ◌+◌, ◌-◌, ◌*◌, ◌^◌, arith, refl, sym, ◌∙◌, ap, subst, true, false, List, [], ◌∷◌, ◌++◌, length, length-append, take, inl, inr}
use Rattle.std.specs.Prelude.{ℤ, pos, Option, Some, None, is_some, slice_index_or}
use Rattle.std.specs.List.{All}
use Rattle.std.proofs.lemmas.Int.{ints}
use Rattle.std.proofs.lemmas.Bool.{cases_lt, true≢false}
use Rattle.std.proofs.lemmas.List.{take-append-le, get_or_push, get_or_append_left}
use Rattle.std.proofs.Math.Seq.{take-append_seam}
use mir.Syntax.{w64}
use mir.Val.{to_z, of_z}
use Rattle.problem_core.specs.Facts.{Facts}
use Rattle.problem_core.specs.Choice.{IsLegal}
use Rattle.problem_core.specs.declared.choice.Choice.{Choice}
use Rattle.duality.specs.declared.leaf.Node.{Node}
use Rattle.duality.specs.Packing.{Weights, target_of, meets_floor}
use Rattle.duality.specs.Sums.{IsWithin}
use Rattle.duality.specs.Tree.{proves_level}
use Rattle.duality.specs.Units.{branch_count}
use Rattle.duality.proofs.AfterLaws.{proves_rise}
use Rattle.packing_model.specs.Built.{packing}
use Rattle.packing_model.specs.Closing.{choice_of}
use Rattle.packing_model.specs.Cuts.{IsPoolOf}
use Rattle.packing_model.specs.Nodes.{stage_at}
use Rattle.search_nodes.specs.Choices.{IsHeld, weighs}
use Rattle.cert_text.specs.Grammar.{tree_of}
use Rattle.cert_text.specs.declared.lines.Tree.{Tree}
use Rattle.branch_tree.specs.declared.level.Held.{Held}
use Rattle.branch_tree.specs.declared.tree.TreeGrown.{TreeGrown}
use Rattle.branch_tree.specs.Growths.{value_of, IsHeldAt, IsFineNode}
use Rattle.branch_tree.specs.Trees.{IsWhole, IsOpened, Ends, Grows}
use Rattle.branch_tree.proofs.StepLaws.{up_same}
use Rattle.lex_driver.specs.Searches.{HasLevels, nodes_at, proved_stage, branches_of, AreProved, IsSearch, Ended, Advances, SearchEnds, Searches}
use Rattle.lex_driver.specs.declared.search.Search.{Search}
use Rattle.lex_driver.specs.declared.search.Stopped.{Stopped}

branches_snoc : (ts : List Tree) (t : Tree) → branches_of (ts ++ (t ∷ [])) ≡ branches_of ts + branch_count t.nodes
branches_snoc [] t = omega arith
branches_snoc (x ∷ ts) t = omega (arith, branches_snoc ts t)

pub before_nodes : (ts : List Tree) (ns : List Node) (i : ℕ) → i < length ts → nodes_at (ts ++ (tree_of ns ∷ [])) i ≡ nodes_at ts i
before_nodes ts ns i l = ap (λ (t : Tree). t.nodes) (get_or_append_left ts (tree_of ns ∷ []) (tree_of []) i l)

pub last_nodes : (ts : List Tree) (ns : List Node) (i : ℕ) → length ts ≡ i → nodes_at (ts ++ (tree_of ns ∷ [])) i ≡ ns
last_nodes ts ns i e = ap (λ (t : Tree). t.nodes) (get_or_push ts (tree_of ns) (tree_of []) i e)

pub plain_value : (z : ℤ) → IsWithin (10 ^ 12) z → to_z w64 (of_z w64 z) ≡ z
plain_value z h = omega (arith, ints, h.low, h.high)

module _ (p : Facts) (w : Weights) where
  -- more cuts, and another choice with the same values
  kept_levels : (trees : List Tree) (values : List ℤ) (cuts cuts' : List (List ℕ)) (a a' : List ℕ) → AreProved p w trees values cuts a
      → take (length cuts) cuts' ≡ cuts → IsHeld p w (length values + 1) values a' → IsPoolOf (packing p) cuts' → AreProved p w trees values cuts' a'
  kept_levels trees values cuts cuts' a a' h kept held pool = record {
    one_each = h.one_each;
    proved = λ i l. proves_rise (packing p) w (proved_stage values cuts i) (proved_stage values cuts' i) (nodes_at trees i)
        (record { level = refl; targets = refl; best = up_same (Some (slice_index_or values i (pos 0))); kept = kept }) (h.proved i l);
    fine = h.fine;
    held = held;
    small = h.small;
    pool = pool;
    few = h.few;
  }

  one_level_more : (trees : List Tree) (values : List ℤ) (cuts : List (List ℕ)) (a : List ℕ) (nodes : List Node) (v : ℤ) → AreProved p w trees values cuts a
      → IsWhole (packing p) w (stage_at (length values + 1) values (Some v) cuts) nodes → All IsFineNode nodes → v ≡ weighs p w (length values + 1) a → IsWithin (10 ^ 12) v
      → AreProved p w (trees ++ (tree_of nodes ∷ [])) (values ++ (v ∷ [])) cuts a
  one_level_more trees values cuts a nodes v h whole fine is within =
      let n = length values in
      let vs = values ++ (v ∷ []) in
      let ts = trees ++ (tree_of nodes ∷ []) in
      let count : length vs ≡ n + 1 = length-append values (v ∷ []) in
      let last : slice_index_or vs n (pos 0) ≡ v = get_or_push values v (pos 0) n refl in
      record {
        one_each = omega (arith, length-append trees (tree_of nodes ∷ []), count, h.one_each);
        proved = λ i l. elim (cases_lt i n) [
          | inl before ↦
              subst (λ ns. proves_level (packing p) w (proved_stage vs cuts i) ns ≡ true) (sym (before_nodes trees nodes i (omega (arith, h.one_each))))
              (subst (λ x. proves_level (packing p) w (stage_at (i + 1) (take i vs) (Some x) cuts) (nodes_at trees i) ≡ true) (sym (get_or_append_left values (v ∷ []) (pos 0) i before))
              (subst (λ xs. proves_level (packing p) w (stage_at (i + 1) xs (Some (slice_index_or values i (pos 0))) cuts) (nodes_at trees i) ≡ true) (sym (take-append-le i values (v ∷ []) (omega arith)))
              (h.proved i before)))
          | inr not_before ↦
              let here : n ≡ i = omega (arith, count) in
              subst (λ j. proves_level (packing p) w (proved_stage vs cuts j) (nodes_at ts j) ≡ true) here
              (subst (λ ns. proves_level (packing p) w (proved_stage vs cuts n) ns ≡ true) (sym (last_nodes trees nodes n h.one_each))
              (subst (λ x. proves_level (packing p) w (stage_at (n + 1) (take n vs) (Some x) cuts) nodes ≡ true) (sym last)
              (subst (λ xs. proves_level (packing p) w (stage_at (n + 1) xs (Some v) cuts) nodes ≡ true) (sym (take-append_seam values (v ∷ [])))
              whole.proves)))
        ];
        fine = λ i l. elim (cases_lt i n) [
          | inl before ↦ subst (All IsFineNode) (sym (before_nodes trees nodes i (omega (arith, h.one_each)))) (h.fine i before)
          | inr not_before ↦ subst (All IsFineNode) (sym (last_nodes trees nodes i (omega (arith, count, h.one_each)))) fine
        ];
        held = record {
          legal = h.held.legal;
          targets_met = λ j low high. elim (cases_lt j (n + 1)) [
            | inl before ↦ h.held.targets_met j low before ∙ sym (get_or_append_left values (v ∷ []) (pos 0) (j - 1) (omega arith))
            | inr not_before ↦
                let here : n + 1 ≡ j = omega (arith, count) in
                subst (λ x. weighs p w x a ≡ target_of vs x) here (sym is ∙ sym (ap (λ x. slice_index_or vs x (pos 0)) (less_one n) ∙ last))
          ];
          floor = h.held.floor;
        };
        small = λ i l. elim (cases_lt i n) [
          | inl before ↦ subst (IsWithin (10 ^ 12)) (sym (get_or_append_left values (v ∷ []) (pos 0) i before)) (h.small i before)
          | inr not_before ↦ subst (IsWithin (10 ^ 12)) (sym (get_or_push values v (pos 0) i (omega (arith, count)))) within
        ];
        pool = h.pool;
        few = omega (arith, branches_snoc trees (tree_of nodes), h.few, whole.few, ap (λ m. m * (2 ^ (packing p).count - 1)) count, times_more n (2 ^ (packing p).count - 1));
      }
    where
      less_one : (n : ℕ) → (n + 1) - 1 ≡ n
      less_one n = omega arith

      times_more : (n x : ℕ) → (n + 1) * x ≡ n * x + x
      times_more n x = grind arith

  module _ (count levels : ℕ) (has : HasLevels p w count levels) where
    -- what a level's tree came to
    pub behind_level : (s : Search) (level : ℕ) (targets : List ℤ) (held : Option Held) (pool' : List (List ℕ)) (budget' : ℕ) (grown : TreeGrown) (h : Held) → IsSearch p w s
        → targets ≡ s.targets → level ≡ length s.targets + 1 → level ≤ levels → Grows p w level targets held s.pool pool' s.budget.left budget' grown → grown.held ≡ Some h
        → AreProved p w s.trees s.targets pool' h.choice.entries × (h.value ≡ weighs p w (length s.targets + 1) h.choice.entries) × IsWithin (10 ^ 12) h.value
    behind_level s level targets held pool' budget' grown h kept e n high g is =
        let held_at : IsHeldAt p w (length s.targets + 1) s.targets (Some h) =
        subst (λ o. IsHeldAt p w (length s.targets + 1) s.targets o) is
        (subst (λ t. IsHeldAt p w (length s.targets + 1) t grown.held) e
        (subst (λ l. IsHeldAt p w l targets grown.held) n g.held_is)) in (
          kept_levels s.trees s.targets s.pool pool' s.choice.entries h.choice.entries kept.are g.goes.kept held_at.0 g.pool_is,
          held_at.1,
          subst (IsWithin (10 ^ 12)) (sym held_at.1) (has.small (length s.targets + 1) h.choice.entries (omega arith) (omega (arith, n, high)) held_at.0.legal),
        )

    pub advance_on : (s t : Search) (level : ℕ) (targets : List ℤ) (held : Option Held) (grown : TreeGrown) (h : Held) → IsSearch p w s
        → targets ≡ s.targets → level ≡ length s.targets + 1 → level ≤ levels → Grows p w level targets held s.pool t.pool s.budget.left t.budget.left grown → grown.held ≡ Some h → grown.proved ≡ true
        → t.trees ≡ s.trees ++ (tree_of grown.nodes ∷ []) → t.targets ≡ s.targets ++ (h.value ∷ []) → t.choice ≡ h.choice
        → Advances p w s (record { search = t; unfinished = None })
    advance_on s t level targets held grown h kept e n high g is proved trees values choice =
        let b = behind_level s level targets held t.pool t.budget.left grown h kept e n high g is in
        let whole : IsWhole (packing p) w (stage_at (length s.targets + 1) s.targets (Some h.value) t.pool) grown.nodes =
        subst (λ o. IsWhole (packing p) w (stage_at (length s.targets + 1) s.targets (value_of o) t.pool) grown.nodes) is
        (subst (λ x. IsWhole (packing p) w (stage_at (length s.targets + 1) x (value_of grown.held) t.pool) grown.nodes) e
        (subst (λ l. IsWhole (packing p) w (stage_at l targets (value_of grown.held) t.pool) grown.nodes) n
        (subst (λ x. Ends (packing p) w (stage_at level targets (value_of grown.held) t.pool) grown.nodes t.budget.left x) proved g.ends))) in
        let more = one_level_more s.trees s.targets t.pool h.choice.entries grown.nodes h.value b.0 whole g.fine b.1 b.2 in
        record {
          kept = record {
            are =
                subst (λ a. AreProved p w t.trees t.targets t.pool a.entries) (sym choice)
                (subst (λ ts. AreProved p w ts t.targets t.pool h.choice.entries) (sym trees)
                (subst (λ vs. AreProved p w (s.trees ++ (tree_of grown.nodes ∷ [])) vs t.pool h.choice.entries) (sym values) more));
          };
          ended = (ap length values ∙ length-append s.targets (h.value ∷ []), omega (arith, ap branches_of trees, branches_snoc s.trees (tree_of grown.nodes), g.goes.paid));
        }

    pub advance_stop : (s t : Search) (level : ℕ) (targets : List ℤ) (held : Option Held) (grown : TreeGrown) (h : Held) → IsSearch p w s
        → targets ≡ s.targets → level ≡ length s.targets + 1 → level ≤ levels → Grows p w level targets held s.pool t.pool s.budget.left t.budget.left grown → grown.held ≡ Some h → grown.proved ≡ false
        → t.trees ≡ s.trees → t.targets ≡ s.targets → t.choice ≡ h.choice
        → Advances p w s (record { search = t; unfinished = Some (tree_of grown.nodes) })
    advance_stop s t level targets held grown h kept e n high g is proved trees values choice =
        let b = behind_level s level targets held t.pool t.budget.left grown h kept e n high g is in
        let left = subst (λ x. Ends (packing p) w (stage_at level targets (value_of grown.held) t.pool) grown.nodes t.budget.left x) proved g.ends in
        let opened : IsOpened (packing p) w (stage_at (length s.targets + 1) s.targets (Some (weighs p w (length s.targets + 1) h.choice.entries)) t.pool) grown.nodes =
        subst (λ v. IsOpened (packing p) w (stage_at (length s.targets + 1) s.targets (Some v) t.pool) grown.nodes) b.1
        (subst (λ o. IsOpened (packing p) w (stage_at (length s.targets + 1) s.targets (value_of o) t.pool) grown.nodes) is
        (subst (λ x. IsOpened (packing p) w (stage_at (length s.targets + 1) x (value_of grown.held) t.pool) grown.nodes) e
        (subst (λ l. IsOpened (packing p) w (stage_at l targets (value_of grown.held) t.pool) grown.nodes) n left.0))) in
        record {
          kept = record {
            are =
                subst (λ a. AreProved p w t.trees t.targets t.pool a.entries) (sym choice)
                (subst (λ ts. AreProved p w ts t.targets t.pool h.choice.entries) (sym trees)
                (subst (λ vs. AreProved p w s.trees vs t.pool h.choice.entries) (sym values) b.0));
          };
          ended = (
            ap length values,
            left.1,
            omega (arith, ap branches_of trees, g.goes.paid, left.1),
            record {
              opened =
                  subst (λ (c : Choice). IsOpened (packing p) w (stage_at (length t.targets + 1) t.targets (Some (weighs p w (length t.targets + 1) c.entries)) t.pool) grown.nodes) (sym choice)
                  (subst (λ vs. IsOpened (packing p) w (stage_at (length vs + 1) vs (Some (weighs p w (length vs + 1) h.choice.entries)) t.pool) grown.nodes) (sym values) opened);
              fine = g.fine;
            },
          );
        }

  pub nothing_yet : (s : Search) → s.trees ≡ [] → s.targets ≡ [] → s.pool ≡ [] → IsHeld p w 1 [] s.choice.entries → IsSearch p w s
  nothing_yet s trees values pool held = record {
    are =
        subst (λ ts. AreProved p w ts s.targets s.pool s.choice.entries) (sym trees)
        (subst (λ vs. AreProved p w [] vs s.pool s.choice.entries) (sym values)
        (subst (λ cs. AreProved p w [] [] cs s.choice.entries) (sym pool) (record {
          one_each = refl;
          proved = λ i l. absurd (omega arith);
          fine = λ i l. absurd (omega arith);
          held = held;
          small = λ i l. absurd (omega arith);
          pool = record { each = λ c l. absurd (omega arith) };
          few = omega arith;
        })));
  }

  pub begun : (a : List ℕ) → IsLegal p a → meets_floor (packing p) (choice_of p a) w.floor ≡ true → IsHeld p w 1 [] a
  begun a legal floor = record { legal = legal; targets_met = λ j low high. absurd (omega arith); floor = floor }

  pub ends_here : (levels budget : ℕ) (s : Search) (stopped : Stopped) → IsSearch p w s → Advances p w s stopped → length s.targets < levels → branches_of s.trees + s.budget.left ≡ budget → is_some stopped.unfinished ≡ true → Searches p w levels budget stopped
  ends_here levels budget s stopped kept adv few paid some = record { kept = adv.kept; ends = go stopped.unfinished adv.ended some }
    where
      mono : (m a x : ℕ) → m ≤ a → m * x ≤ a * x
      mono m a x h = grind arith

      times_once : (n x : ℕ) → (n + 1) * x ≡ n * x + x
      times_once n x = grind arith

      more_levels : (n x : ℕ) → n < levels → n * x + x ≤ levels * x
      more_levels n x l = let h : (n + 1) * x ≤ levels * x = mono (n + 1) levels x (omega arith) in omega (arith, h, times_once n x)

      go : (o : Option Tree) → Ended p w s stopped.search o → is_some o ≡ true → SearchEnds p w levels budget stopped.search o
      go None e h = absurd (true≢false (sym h))
      go (Some tree) e h =
          let x = 2 ^ (packing p).count - 1 in
          let n = length stopped.search.targets in
          (omega (arith, e.0, few), omega (arith, e.2, paid), omega (arith, adv.kept.are.few, e.2, e.3.opened.few, paid, more_levels n x (omega (arith, e.0, few))), e.3)

  pub goes_on : (s : Search) (stopped : Stopped) → Advances p w s stopped → is_some stopped.unfinished ≡ false → (length stopped.search.targets ≡ length s.targets + 1) × (branches_of stopped.search.trees + stopped.search.budget.left ≡ branches_of s.trees + s.budget.left)
  goes_on s stopped adv none = go stopped.unfinished adv.ended none
    where
      go : (o : Option Tree) → Ended p w s stopped.search o → is_some o ≡ false → (length stopped.search.targets ≡ length s.targets + 1) × (branches_of stopped.search.trees + stopped.search.budget.left ≡ branches_of s.trees + s.budget.left)
      go None e h = e
      go (Some tree) e h = absurd (true≢false h)
