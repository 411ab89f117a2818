-- A level more: its log joins those of the levels below.
use Rattle.std.proofs.Common.{ℕ, ◌≡◌, ◌<◌, ◌≤◌, ◌+◌, ◌-◌, arith, refl, sym, ◌∙◌, ap, ap₂, subst, zero, suc, true, false, List, [], ◌∷◌, ◌++◌, map, length, length-append, take, drop, append-nil, append_assoc, inl, inr}
use Rattle.std.specs.Prelude.{ℤ, pos, ◌<ℤ◌, Option, Some, None, is_some, slice_index_or}
use Rattle.std.specs.List.{All}
use Rattle.std.proofs.lemmas.Bool.{cases_lt, true≢false}
use Rattle.std.proofs.lemmas.List.{length-take, get_or-take, take-append-drop, take-append-le, get_or_push, get_or_append_left, get_or-append_right, map-append}
use Rattle.std.proofs.lemmas.List.Elements.{All-append}
use Rattle.std.proofs.Math.Seq.{take-append_seam}
use Rattle.problem_core.specs.Facts.{Facts}
use Rattle.problem_core.specs.declared.choice.Choice.{Choice}
use Rattle.duality.specs.declared.leaf.Node.{Node}
use Rattle.duality.specs.Packing.{Packing, Weights, Stage, Fixing}
use Rattle.duality.specs.Stages.{IsUp}
use Rattle.packing_model.specs.Built.{packing}
use Rattle.packing_model.specs.Nodes.{stage_at}
use Rattle.search_nodes.specs.Choices.{weighs}
use Rattle.search_nodes.specs.Points.{IsGapPoint}
use Rattle.clique_cuts.specs.Separation.{given}
use Rattle.cert_text.specs.Grammar.{tree_of}
use Rattle.cert_text.specs.declared.lines.Tree.{Tree}
use Rattle.branch_tree.specs.Growths.{value_of}
use Rattle.branch_tree.specs.Logs.{IsCaused, IsLawfulUnit, IsLawfulNote, branches_from, place_of, Moment, IsLater, start_of, end_of, moment_after, Passes, Climbs, value_at_unit, value_at_note, Beginning, IsLogged, IsStopped, moment, wides_at, wides_past}
use Rattle.branch_tree.specs.Trees.{LogsAll, LogsTree}
use Rattle.branch_tree.specs.declared.tree.TreeGrown.{TreeGrown}
use Rattle.branch_tree.specs.declared.level.Held.{Held}
use Rattle.branch_tree.specs.declared.log.Cause.{Cause}
use Rattle.branch_tree.specs.declared.log.Cause.TheVariants.{Gap, Wide, Stalled}
use Rattle.branch_tree.specs.declared.log.CutNote.{CutNote}
use Rattle.branch_tree.specs.declared.log.Unit.{Unit as BranchUnit}
use Rattle.branch_tree.proofs.EndLaws.{up_through}
use Rattle.branch_tree.proofs.LogLaws.{later_through, passes_last, logged_begins}
use Rattle.lex_driver.specs.declared.search.Search.{Search}
use Rattle.lex_driver.specs.Searches.{nodes_at}
use Rattle.lex_driver.specs.Accounts.{at_level, branch_of, branches_of_trees, IsUnitOf, IsNoteOf, Accounts, AccountsOn}
use Rattle.lex_driver.proofs.LevelLaws.{before_nodes, last_nodes}

-- ---- moments

end_earlier : (m n : Moment) (u : BranchUnit) → IsLater m n → IsLater (end_of m u) (end_of n u)
end_earlier m n u h = record { wides = go u.cause; steps = omega (arith, h.steps); cuts = omega arith }
  where
    go : (c : Cause) → wides_past m.wides c ≤ wides_past n.wides c
    go (Gap x) = h.wides
    go (Wide before after) = omega arith
    go (Stalled pivots) = h.wides

start_earlier : (m n : Moment) (u : BranchUnit) → IsLater m n → IsLater n (start_of n u) → IsLater m (start_of m u)
start_earlier m n u h k = record { wides = go u.cause k.wides; steps = omega arith; cuts = omega (arith, h.cuts, k.cuts) }
  where
    go : (c : Cause) → n.wides ≤ wides_at n.wides c → m.wides ≤ wides_at m.wides c
    go (Gap x) l = omega arith
    go (Wide before after) l = omega (arith, l, h.wides)
    go (Stalled pivots) l = omega arith

passes_earlier : (m n : Moment) (us : List BranchUnit) (o : Moment) → IsLater m n → Passes n us o → Passes m us o
passes_earlier m n [] o h p = later_through m n o h p
passes_earlier m n (u ∷ us) o h p = (start_earlier m n u h p.0, passes_earlier (end_of m u) (end_of n u) us o (end_earlier m n u h) p.1)

passes_join : (m : Moment) (us vs : List BranchUnit) (n o : Moment) → Passes m us n → Passes n vs o → Passes m (us ++ vs) o
passes_join m [] vs n o h k = passes_earlier m n vs o h k
passes_join m (u ∷ us) vs n o h k = (h.0, passes_join (end_of m u) us vs n o h.1 k)

after_join : (m : Moment) (us vs : List BranchUnit) → moment_after m (us ++ vs) ≡ moment_after (moment_after m us) vs
after_join m [] vs = refl
after_join m (u ∷ us) vs = after_join (end_of m u) us vs

after_earlier : (m n : Moment) (us : List BranchUnit) → IsLater m n → IsLater (moment_after m us) (moment_after n us)
after_earlier m n [] h = h
after_earlier m n (u ∷ us) h = after_earlier (end_of m u) (end_of n u) us (end_earlier m n u h)

stopped_earlier : (k : Packing) (w : Weights) (s : Stage) (f : Fixing) (last last' now : Moment) → IsLater last last' → IsStopped k w s f last' now → IsStopped k w s f last now
stopped_earlier k w s f last last' now h (inl gap) = inl gap
stopped_earlier k w s f last last' now h (inr (inl rose)) = inr (inl (record { later = omega (arith, h.wides, rose.later); rose = omega (arith, h.wides, rose.rose) }))
stopped_earlier k w s f last last' now h (inr (inr pivots)) = inr (inr (omega (arith, h.steps, pivots)))

-- the last level's reason is one for the whole log
pub stopped_whole : (k : Packing) (w : Weights) (s : Stage) (f : Fixing) (m n now : Moment) (us mine : List BranchUnit) → Passes m us n → IsStopped k w s f (moment_after n mine) now → IsStopped k w s f (moment_after m (us ++ mine)) now
stopped_whole k w s f m n now us mine passes stop =
    subst (λ x. IsStopped k w s f x now) (sym (after_join m us mine))
    (stopped_earlier k w s f (moment_after (moment_after m us) mine) (moment_after n mine) now (after_earlier (moment_after m us) n mine (passes_last m us n passes)) stop)

-- ---- values

climbs_end : (v : Option ℤ) (ys : List (Option ℤ)) (x : Option ℤ) → Climbs v ys x → IsUp v x
climbs_end v [] x h = h
climbs_end v (y ∷ ys) x h = up_through v y x h.0 (climbs_end y ys x h.1)

climbs_to : (v : Option ℤ) (us : List BranchUnit) (x : Option ℤ) → Climbs v (map value_at_unit us) x → All (λ u. IsUp u.value x) us
climbs_to v [] x h i d l = absurd (omega arith)
climbs_to v (u ∷ us) x h zero d l = climbs_end u.value (map value_at_unit us) x h.1
climbs_to v (u ∷ us) x h (suc i) d l = climbs_to u.value us x h.1 i d (omega arith)

notes_to : (v : Option ℤ) (us : List CutNote) (x : Option ℤ) → Climbs v (map value_at_note us) x → All (λ u. IsUp u.value x) us
notes_to v [] x h i d l = absurd (omega arith)
notes_to v (u ∷ us) x h zero d l = climbs_end u.value (map value_at_note us) x h.1
notes_to v (u ∷ us) x h (suc i) d l = notes_to u.value us x h.1 i d (omega arith)

-- ---- branches

trees_snoc : (level : ℕ) (ts : List Tree) (t : Tree) → branches_of_trees level (ts ++ (t ∷ [])) ≡ branches_of_trees level ts ++ map (at_level (level + length ts)) (branches_from 0 t.nodes)
trees_snoc level [] t = append-nil (map (at_level level) (branches_from 0 t.nodes)) ∙ ap (λ l. map (at_level l) (branches_from 0 t.nodes)) (plus_none level)
  where
    plus_none : (i : ℕ) → i ≡ i + 0
    plus_none i = omega arith
trees_snoc level (x ∷ ts) t =
    ap (λ xs. map (at_level level) (branches_from 0 x.nodes) ++ xs) (trees_snoc (suc level) ts t ∙ ap (λ l. branches_of_trees (suc level) ts ++ map (at_level l) (branches_from 0 t.nodes)) (plus_suc level (length ts)))
    ∙ sym (append_assoc (map (at_level level) (branches_from 0 x.nodes)) (branches_of_trees (suc level) ts) (map (at_level (level + length (x ∷ ts))) (branches_from 0 t.nodes)))
  where
    plus_suc : (i m : ℕ) → suc i + m ≡ i + suc m
    plus_suc i m = omega arith

units_at : (level : ℕ) (us : List BranchUnit) → ((i : ℕ) (d : BranchUnit) → i < length us → (slice_index_or us i d).level ≡ level) → map branch_of us ≡ map (at_level level) (map place_of us)
units_at level [] h = refl
units_at level (u ∷ us) h = ap₂ (λ l xs. (l, u.node, u.pattern) ∷ xs) (h 0 u (omega arith)) (units_at level us (λ i d l. h (suc i) d (omega arith)))

module _ (k : Packing) (w : Weights) (trees : List Tree) (values : List ℤ) (pool pool' : List (List ℕ)) (nodes : List Node) (v : ℤ)
    (same_count : length trees ≡ length values) (kept : take (length pool) pool' ≡ pool) where
  -- the first cuts stay
  first_cuts : (n : ℕ) → n ≤ length pool → take n pool' ≡ take n pool
  first_cuts n l =
      ap (take n) (sym (take-append-drop (length pool) pool') ∙ ap (λ (cs : List (List ℕ)). cs ++ drop (length pool) pool') kept) ∙ take-append-le n pool (drop (length pool) pool') l

  same_cut : (c : ℕ) → c < length pool → slice_index_or pool' c [] ≡ slice_index_or pool c []
  same_cut c l = sym (get_or-take (length pool) pool' c [] l) ∙ ap (λ (cs : List (List ℕ)). slice_index_or cs c []) kept

  more : length pool ≤ length pool'
  more = omega (arith, ap length kept, length-take (length pool) pool')

  old_unit : (u : BranchUnit) → IsUnitOf k w trees values pool u → IsUnitOf k w (trees ++ (tree_of nodes ∷ [])) (values ++ (v ∷ [])) pool' u
  old_unit u h =
      let place : u.level - 1 < length trees = omega (arith, h.low, h.high) in
      let same_nodes = before_nodes trees nodes (u.level - 1) place in
      let same_targets = take-append-le (u.level - 1) values (v ∷ []) (omega (arith, same_count, h.high)) in
      let l = h.lawful in
      record {
        low = h.low;
        high = omega (arith, h.high, length-append trees (tree_of nodes ∷ []));
        lawful = subst (λ ns. IsLawfulUnit k w u.level (take (u.level - 1) (values ++ (v ∷ []))) ns pool' u) (sym same_nodes)
            (subst (λ ts. IsLawfulUnit k w u.level ts (nodes_at trees (u.level - 1)) pool' u) (sym same_targets) (record {
              level_is = l.level_is;
              inside = l.inside;
              few = omega (arith, l.few, more);
              fixing = l.fixing;
              at = l.at;
              free = l.free;
              cause = subst (λ cuts. IsCaused k w (stage_at u.level (take (u.level - 1) values) u.value cuts) l.fixing u.pattern u.cause) (sym (first_cuts u.cuts l.few)) l.cause;
            }));
        worth = subst (λ x. IsUp u.value (Some x)) (sym (get_or_append_left values (v ∷ []) (pos 0) (u.level - 1) (omega (arith, same_count)))) h.worth;
      }

  old_note : (i : ℕ) (n : CutNote) → IsNoteOf k w trees values pool i n → IsNoteOf k w (trees ++ (tree_of nodes ∷ [])) (values ++ (v ∷ [])) pool' i n
  old_note i n h =
      let place : n.level - 1 < length trees = omega (arith, h.low, h.high) in
      let same_nodes = before_nodes trees nodes (n.level - 1) place in
      let same_targets = take-append-le (n.level - 1) values (v ∷ []) (omega (arith, same_count, h.high)) in
      let l = h.lawful in
      record {
        low = h.low;
        high = omega (arith, h.high, length-append trees (tree_of nodes ∷ []));
        lawful = subst (λ ns. IsLawfulNote k w n.level (take (n.level - 1) (values ++ (v ∷ []))) ns pool' i n) (sym same_nodes)
            (subst (λ ts. IsLawfulNote k w n.level ts (nodes_at trees (n.level - 1)) pool' i n) (sym same_targets) (record {
              level_is = l.level_is;
              inside = l.inside;
              few = omega (arith, l.few, more);
              fixing = l.fixing;
              at = l.at;
              gap = subst (λ cuts. IsGapPoint k w (stage_at n.level (take (n.level - 1) values) n.value cuts) l.fixing n.point) (sym (first_cuts i (omega (arith, l.few)))) l.gap;
              broken = subst (λ ps. n.point.den <ℤ given n.point ps) (sym (same_cut i l.few)) l.broken;
            }));
        worth = subst (λ x. IsUp n.value (Some x)) (sym (get_or_append_left values (v ∷ []) (pos 0) (n.level - 1) (omega (arith, same_count)))) h.worth;
      }

  new_unit : (u : BranchUnit) → IsLawfulUnit k w (length values + 1) values nodes pool' u → IsUp u.value (Some v) → IsUnitOf k w (trees ++ (tree_of nodes ∷ [])) (values ++ (v ∷ [])) pool' u
  new_unit u l worth =
      let n = length values in
      let place : u.level - 1 ≡ n = omega (arith, l.level_is) in
      let here : take (u.level - 1) (values ++ (v ∷ [])) ≡ values = ap (λ i. take i (values ++ (v ∷ []))) place ∙ take-append_seam values (v ∷ []) in
      let there : nodes_at (trees ++ (tree_of nodes ∷ [])) (u.level - 1) ≡ nodes = last_nodes trees nodes (u.level - 1) (omega (arith, same_count, place)) in
      record {
        low = omega (arith, l.level_is);
        high = omega (arith, l.level_is, same_count, length-append trees (tree_of nodes ∷ []));
        lawful = subst (λ ns. IsLawfulUnit k w u.level (take (u.level - 1) (values ++ (v ∷ []))) ns pool' u) (sym there)
            (subst (λ ts. IsLawfulUnit k w u.level ts nodes pool' u) (sym here) (subst (λ j. IsLawfulUnit k w j values nodes pool' u) (sym l.level_is) l));
        worth = subst (λ x. IsUp u.value (Some x)) (sym (get_or_push values v (pos 0) (u.level - 1) (sym place))) worth;
      }

  new_note : (i : ℕ) (u : CutNote) → IsLawfulNote k w (length values + 1) values nodes pool' i u → IsUp u.value (Some v) → IsNoteOf k w (trees ++ (tree_of nodes ∷ [])) (values ++ (v ∷ [])) pool' i u
  new_note i u l worth =
      let n = length values in
      let place : u.level - 1 ≡ n = omega (arith, l.level_is) in
      let here : take (u.level - 1) (values ++ (v ∷ [])) ≡ values = ap (λ j. take j (values ++ (v ∷ []))) place ∙ take-append_seam values (v ∷ []) in
      let there : nodes_at (trees ++ (tree_of nodes ∷ [])) (u.level - 1) ≡ nodes = last_nodes trees nodes (u.level - 1) (omega (arith, same_count, place)) in
      record {
        low = omega (arith, l.level_is);
        high = omega (arith, l.level_is, same_count, length-append trees (tree_of nodes ∷ []));
        lawful = subst (λ ns. IsLawfulNote k w u.level (take (u.level - 1) (values ++ (v ∷ []))) ns pool' i u) (sym there)
            (subst (λ ts. IsLawfulNote k w u.level ts nodes pool' i u) (sym here) (subst (λ j. IsLawfulNote k w j values nodes pool' i u) (sym l.level_is) l));
        worth = subst (λ x. IsUp u.value (Some x)) (sym (get_or_push values v (pos 0) (u.level - 1) (sym place))) worth;
      }

  -- a level more
  pub level_joined : (m n o : Moment) (held : Option ℤ) (units : List BranchUnit) (notes : List CutNote) (units' : List BranchUnit) (notes' : List CutNote)
      → Accounts k w trees values pool m n units notes → n.cuts ≡ length pool
      → IsLogged k w (length values + 1) values (record { moment = n; value = held; units = units; notes = notes }) nodes pool' (Some v) units' notes' o
      → Accounts k w (trees ++ (tree_of nodes ∷ [])) (values ++ (v ∷ [])) pool' m o units' notes'
  level_joined m n o held units notes units' notes' a cuts h =
      let levels : (i : ℕ) (d : BranchUnit) → i < length h.mine → (slice_index_or h.mine i d).level ≡ length values + 1 = λ i d l. (h.lawful i d l).level_is in
      let ups = climbs_to held h.mine (Some v) h.climbs in
      let note_ups = notes_to held h.noted (Some v) h.notes_climb in
      let all : All (IsUnitOf k w (trees ++ (tree_of nodes ∷ [])) (values ++ (v ∷ [])) pool') (units ++ h.mine) =
      All-append (IsUnitOf k w (trees ++ (tree_of nodes ∷ [])) (values ++ (v ∷ [])) pool') units h.mine
      (λ i d l. old_unit (slice_index_or units i d) (a.lawful i d l))
      (λ i d l. new_unit (slice_index_or h.mine i d) (h.lawful i d l) (ups i d l)) in
      let count : length (notes ++ h.noted) ≡ length notes + length h.noted = length-append notes h.noted in
      record {
        one_each = omega (arith, same_count, length-append trees (tree_of nodes ∷ []), length-append values (v ∷ []));
        branches = ap (map branch_of) h.units_are ∙ map-append branch_of units h.mine
            ∙ ap₂ (λ xs ys. xs ++ ys) a.branches (units_at (length values + 1) h.mine levels ∙ ap (map (at_level (length values + 1))) h.places ∙ ap (λ l. map (at_level l) (branches_from 0 nodes)) (level_is (length values) (length trees) same_count))
            ∙ sym (trees_snoc 1 trees (tree_of nodes));
        lawful = subst (All (IsUnitOf k w (trees ++ (tree_of nodes ∷ [])) (values ++ (v ∷ [])) pool')) (sym h.units_are) all;
        passes = subst (λ us. Passes m us o) (sym h.units_are) (passes_join m units h.mine n o a.passes h.passes);
        each_cut = omega (arith, ap length h.notes_are, count, a.each_cut, h.each_cut, cuts);
        lawful_notes = subst (λ ns. (i : ℕ) (d : CutNote) → i < length ns → IsNoteOf k w (trees ++ (tree_of nodes ∷ [])) (values ++ (v ∷ [])) pool' (m.cuts + i) (slice_index_or ns i d)) (sym h.notes_are)
            (λ i d l. elim (cases_lt i (length notes)) [
              | inl before ↦ subst (IsNoteOf k w (trees ++ (tree_of nodes ∷ [])) (values ++ (v ∷ [])) pool' (m.cuts + i)) (sym (get_or_append_left notes h.noted d i before)) (old_note (m.cuts + i) (slice_index_or notes i d) (a.lawful_notes i d before))
              | inr not_before ↦
                  let j = i - length notes in
                  let inside : j < length h.noted = omega (arith, count) in
                  let place : n.cuts + j ≡ m.cuts + i = omega (arith, a.each_cut, cuts) in
                  subst (IsNoteOf k w (trees ++ (tree_of nodes ∷ [])) (values ++ (v ∷ [])) pool' (m.cuts + i)) (sym (append_right notes h.noted d i (omega arith)))
                  (subst (λ q. IsNoteOf k w (trees ++ (tree_of nodes ∷ [])) (values ++ (v ∷ [])) pool' q (slice_index_or h.noted j d)) place
                  (new_note (n.cuts + j) (slice_index_or h.noted j d) (h.lawful_notes j d inside) (note_ups j d inside)))
            ]);
      }
    where
      level_is : (a b : ℕ) → b ≡ a → a + 1 ≡ 1 + b
      level_is a b e = omega arith

      append_right : (xs ys : List CutNote) (d : CutNote) (i : ℕ) → length xs ≤ i → slice_index_or (xs ++ ys) i d ≡ slice_index_or ys (i - length xs) d
      append_right xs ys d i l = get_or-append_right xs ys (length xs) i d refl l

-- ---- with the code's values

module _ (p : Facts) (w : Weights) (s t : Search) (level : ℕ) (targets : List ℤ) (begun : Option ℤ) (grown : TreeGrown) (h : Held) (wides steps wides' steps' : ℕ)
    (count : length s.trees ≡ length s.targets) (kept : take (length s.pool) t.pool ≡ s.pool)
    (e : targets ≡ s.targets) (n : level ≡ length s.targets + 1) (is : grown.held ≡ Some h)
    (logs : LogsAll (packing p) w level targets begun (value_of grown.held) grown.nodes grown.proved s.pool t.pool s.log t.log wides wides' steps steps') where
  joined : (b : Beginning) → b.moment ≡ moment wides steps (length s.pool) → b.units ≡ s.log.units → b.notes ≡ s.log.cuts → (m : Moment)
      → Accounts (packing p) w s.trees s.targets s.pool m (moment wides steps (length s.pool)) s.log.units s.log.cuts
      → IsLogged (packing p) w level targets b grown.nodes t.pool (value_of grown.held) t.log.units t.log.cuts (moment wides' steps' (length t.pool))
      → Accounts (packing p) w (s.trees ++ (tree_of grown.nodes ∷ [])) (s.targets ++ (h.value ∷ [])) t.pool m (moment wides' steps' (length t.pool)) t.log.units t.log.cuts
  joined b bm bu bn m a l =
      level_joined (packing p) w s.trees s.targets s.pool t.pool grown.nodes h.value count kept m (moment wides steps (length s.pool)) (moment wides' steps' (length t.pool)) b.value s.log.units s.log.cuts t.log.units t.log.cuts a refl
      (subst (λ x. IsLogged (packing p) w (length s.targets + 1) s.targets x grown.nodes t.pool (Some h.value) t.log.units t.log.cuts (moment wides' steps' (length t.pool))) (beginning b (record { moment = moment wides steps (length s.pool); value = b.value; units = s.log.units; notes = s.log.cuts }) bm refl bu bn)
      (subst (λ o. IsLogged (packing p) w (length s.targets + 1) s.targets b grown.nodes t.pool (value_of o) t.log.units t.log.cuts (moment wides' steps' (length t.pool))) is
      (subst (λ x. IsLogged (packing p) w (length s.targets + 1) x b grown.nodes t.pool (value_of grown.held) t.log.units t.log.cuts (moment wides' steps' (length t.pool))) e
      (subst (λ x. IsLogged (packing p) w x targets b grown.nodes t.pool (value_of grown.held) t.log.units t.log.cuts (moment wides' steps' (length t.pool))) n l))))
    where
      beginning : (b c : Beginning) → b.moment ≡ c.moment → b.value ≡ c.value → b.units ≡ c.units → b.notes ≡ c.notes → b ≡ c
      beginning b c e f g h =
          let made : Moment → Option ℤ → List BranchUnit → List CutNote → Beginning = λ m v us ns. record { moment = m; value = v; units = us; notes = ns } in
          ap (λ x. made x b.value b.units b.notes) e ∙ ap (λ x. made c.moment x b.units b.notes) f ∙ ap (λ x. made c.moment c.value x b.notes) g ∙ ap (λ x. made c.moment c.value c.units x) h

  logged_now : LogsTree (packing p) w level targets (record { moment = moment wides steps (length s.pool); value = begun; units = s.log.units; notes = s.log.cuts }) grown.nodes (value_of grown.held) t.pool t.log wides' steps' grown.proved
  logged_now = logs.on (record { moment = moment wides steps (length s.pool); value = begun; units = s.log.units; notes = s.log.cuts }) (logged_begins (packing p) w level targets s.pool (begun) s.log.units s.log.cuts (moment wides steps (length s.pool)) refl)

  pub account_on : grown.proved ≡ true → t.trees ≡ s.trees ++ (tree_of grown.nodes ∷ []) → t.targets ≡ s.targets ++ (h.value ∷ []) → AccountsOn p w s wides steps wides' steps' (record { search = t; unfinished = None })
  account_on proved trees values = record {
    on = λ m a.
        let l = subst (LogsTree (packing p) w level targets (record { moment = moment wides steps (length s.pool); value = begun; units = s.log.units; notes = s.log.cuts }) grown.nodes (value_of grown.held) t.pool t.log wides' steps') proved logged_now in
        subst (λ ts. Accounts (packing p) w ts t.targets t.pool m (moment wides' steps' (length t.pool)) t.log.units t.log.cuts) (sym trees)
        (subst (λ vs. Accounts (packing p) w (s.trees ++ (tree_of grown.nodes ∷ [])) vs t.pool m (moment wides' steps' (length t.pool)) t.log.units t.log.cuts) (sym values)
        (joined (record { moment = moment wides steps (length s.pool); value = begun; units = s.log.units; notes = s.log.cuts }) refl refl refl m a l));
  }

  pub account_stop : grown.proved ≡ false → t.trees ≡ s.trees → t.targets ≡ s.targets → h.value ≡ weighs p w (length s.targets + 1) h.choice.entries → t.choice ≡ h.choice
      → AccountsOn p w s wides steps wides' steps' (record { search = t; unfinished = Some (tree_of grown.nodes) })
  account_stop proved trees values worth choice = record {
    on = λ m a.
        let l = subst (LogsTree (packing p) w level targets (record { moment = moment wides steps (length s.pool); value = begun; units = s.log.units; notes = s.log.cuts }) grown.nodes (value_of grown.held) t.pool t.log wides' steps') proved logged_now in
        let joint = joined (record { moment = moment wides steps (length s.pool); value = begun; units = s.log.units; notes = s.log.cuts }) refl refl refl m a l.log in
        let value : h.value ≡ weighs p w (length t.targets + 1) t.choice.entries = worth ∙ ap₂ (λ (vs : List ℤ) (c : Choice). weighs p w (length vs + 1) c.entries) (sym values) (sym choice) in
        record {
          log = subst (λ v. Accounts (packing p) w (t.trees ++ (tree_of grown.nodes ∷ [])) (t.targets ++ (v ∷ [])) t.pool m (moment wides' steps' (length t.pool)) t.log.units t.log.cuts) value
              (subst (λ ts. Accounts (packing p) w (ts ++ (tree_of grown.nodes ∷ [])) (t.targets ++ (h.value ∷ [])) t.pool m (moment wides' steps' (length t.pool)) t.log.units t.log.cuts) (sym trees)
              (subst (λ vs. Accounts (packing p) w (s.trees ++ (tree_of grown.nodes ∷ [])) (vs ++ (h.value ∷ [])) t.pool m (moment wides' steps' (length t.pool)) t.log.units t.log.cuts) (sym values) joint));
          place = l.place;
          fixing = l.fixing;
          first = l.first;
          stopped =
              subst (λ us. IsStopped (packing p) w (stage_at (length t.targets + 1) t.targets (Some (weighs p w (length t.targets + 1) t.choice.entries)) t.pool) l.fixing (moment_after m us) (moment wides' steps' (length t.pool))) (sym l.log.units_are)
              (stopped_whole (packing p) w (stage_at (length t.targets + 1) t.targets (Some (weighs p w (length t.targets + 1) t.choice.entries)) t.pool) l.fixing m (moment wides steps (length s.pool)) (moment wides' steps' (length t.pool)) s.log.units l.log.mine a.passes
              (subst (λ v. IsStopped (packing p) w (stage_at (length t.targets + 1) t.targets (Some v) t.pool) l.fixing (moment_after (moment wides steps (length s.pool)) l.log.mine) (moment wides' steps' (length t.pool))) value
              (subst (λ vs. IsStopped (packing p) w (stage_at (length vs + 1) vs (Some h.value) t.pool) l.fixing (moment_after (moment wides steps (length s.pool)) l.log.mine) (moment wides' steps' (length t.pool))) (sym values)
              (subst (λ o. IsStopped (packing p) w (stage_at (length s.targets + 1) s.targets (value_of o) t.pool) l.fixing (moment_after (moment wides steps (length s.pool)) l.log.mine) (moment wides' steps' (length t.pool))) is
              (subst (λ x. IsStopped (packing p) w (stage_at (length s.targets + 1) x (value_of grown.held) t.pool) l.fixing (moment_after (moment wides steps (length s.pool)) l.log.mine) (moment wides' steps' (length t.pool))) e
              (subst (λ j. IsStopped (packing p) w (stage_at j targets (value_of grown.held) t.pool) l.fixing (moment_after (moment wides steps (length s.pool)) l.log.mine) (moment wides' steps' (length t.pool))) n l.stopped))))));
        };
  }

pub no_account : (k : Packing) (w : Weights) (m : Moment) → m.cuts ≡ 0 → Accounts k w [] [] [] m m [] []
no_account k w m e = record {
  one_each = refl;
  branches = refl;
  lawful = λ i d l. absurd (omega arith);
  passes = record { wides = omega arith; steps = omega arith; cuts = omega arith };
  each_cut = omega (arith, e);
  lawful_notes = λ i d l. absurd (omega arith);
}

pub none_is : {A : Type 0} (o : Option A) → is_some o ≡ false → o ≡ None
none_is None e = refl
none_is (Some x) e = absurd (true≢false e)
