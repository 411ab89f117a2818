-- The log goes on with the tree.
use Rattle.std.proofs.Common.{ℕ, ◌≡◌, ◌≤◌, ◌+◌, arith, refl, sym, ◌∙◌, ap, ap₂, subst, zero, suc, true, false, List, [], ◌∷◌, ◌++◌, map, length, length-append, take, append_assoc, append-nil, inl, inr}
use Rattle.std.specs.Prelude.{ℤ, ◌<ℤ◌, Option, Some, slice_index_or}
use Rattle.std.specs.List.{All, list_any}
use Rattle.std.proofs.lemmas.Bool.{cases_lt}
use Rattle.std.proofs.lemmas.List.{take-append-le, get_or_push, get_or_append_left}
use Rattle.std.proofs.lemmas.List.Elements.{All-append}
use Rattle.std.proofs.Math.Seq.{take-length}
use Rattle.duality.specs.declared.leaf.Leaf.{Leaf}
use Rattle.duality.specs.declared.leaf.Node.{Node}
use Rattle.duality.specs.declared.leaf.Node.TheVariants.{Branch, Leaf as Closing, OpenEnd, Same}
use Rattle.duality.specs.Packing.{Packing, Weights, Stage, Fixing, is_free}
use Rattle.duality.specs.Tree.{nothing_fixed, can_branch}
use Rattle.duality.specs.Walk.{Step as PathStep, fixing_of, pending_of, turn}
use Rattle.packing_model.specs.Nodes.{stage_at}
use Rattle.packing_model.specs.declared.point.Point.{Point}
use Rattle.search_nodes.specs.Paths.{path_of}
use Rattle.numbers.specs.Below.{first_from}
use Rattle.exact_num.specs.Arith.{Rose}
use Rattle.duality.specs.Stages.{IsUp}
use Rattle.duality.specs.After.{after, first_of, fixing_at, is_open, open_ends}
use Rattle.search_nodes.specs.Points.{IsGapPoint}
use Rattle.clique_cuts.specs.Separation.{given}
use Rattle.branch_tree.specs.Logs.{IsCaused, IsLawfulUnit, IsLawfulNote, branches_from, place_of, Moment, IsLater, start_of, end_of, moment_after, Passes, Climbs, value_at_unit, value_at_note, Beginning, IsLogged, IsStopped, moment, pivots_of, wides_at, wides_past}
use Rattle.branch_tree.specs.Logging.{IsLowestCause, Took, LogsOn, Logs}
use Rattle.branch_tree.specs.declared.log.Cause.{Cause}
use Rattle.branch_tree.specs.declared.log.Cause.TheVariants.{Gap, Wide, Stalled}
use Rattle.branch_tree.specs.declared.log.Unit.{Unit as BranchUnit}
use Rattle.branch_tree.specs.declared.log.CutNote.{CutNote}
use Rattle.branch_tree.specs.Trees.{LogsTree}
use Rattle.branch_tree.specs.declared.tree.TreeGrown.{TreeGrown}
use Rattle.branch_tree.proofs.EndLaws.{up_through, first_open}
use Rattle.node_bound.specs.Bounds.{has_free}
use Rattle.branch_tree.specs.declared.log.Log.{Log}
use Rattle.branch_tree.specs.declared.state.Growth.{Growth}
use Rattle.branch_tree.specs.declared.state.Step.{Step}
use Rattle.branch_tree.specs.declared.state.Step.TheVariants.{On, Proved, Spent}
use Rattle.branch_tree.specs.Turns.{TurnsTo}
use Rattle.branch_tree.specs.Growths.{value_of, IsClosing}
use Rattle.branch_tree.proofs.StepLaws.{up_same}

-- ---- lists

map-snoc : {A B : Type 0} (f : A → B) (xs : List A) (x : A) → map f (xs ++ (x ∷ [])) ≡ map f xs ++ (f x ∷ [])
map-snoc f [] x = refl
map-snoc f (y ∷ xs) x = ap (λ ys. f y ∷ ys) (map-snoc f xs x)

branches_snoc : (i : ℕ) (ns : List Node) (n : Node) → branches_from i (ns ++ (n ∷ [])) ≡ branches_from i ns ++ branches_from (i + length ns) (n ∷ [])
branches_snoc i [] n = ap (λ j. branches_from j (n ∷ [])) (plus_none i)
  where
    plus_none : (i : ℕ) → i ≡ i + 0
    plus_none i = omega arith
branches_snoc i (Branch p ∷ ns) n = ap (λ xs. (i, p) ∷ xs) (branches_snoc (suc i) ns n ∙ ap (λ j. branches_from (suc i) ns ++ branches_from j (n ∷ [])) (plus_suc i (length ns)))
  where
    plus_suc : (i m : ℕ) → suc i + m ≡ i + suc m
    plus_suc i m = omega arith
branches_snoc i (Closing leaf ∷ ns) n = branches_snoc (suc i) ns n ∙ ap (λ j. branches_from (suc i) ns ++ branches_from j (n ∷ [])) (plus_suc i (length ns))
  where
    plus_suc : (i m : ℕ) → suc i + m ≡ i + suc m
    plus_suc i m = omega arith
branches_snoc i (OpenEnd ∷ ns) n = branches_snoc (suc i) ns n ∙ ap (λ j. branches_from (suc i) ns ++ branches_from j (n ∷ [])) (plus_suc i (length ns))
  where
    plus_suc : (i m : ℕ) → suc i + m ≡ i + suc m
    plus_suc i m = omega arith
branches_snoc i (Same leaf ∷ ns) n = branches_snoc (suc i) ns n ∙ ap (λ j. branches_from (suc i) ns ++ branches_from j (n ∷ [])) (plus_suc i (length ns))
  where
    plus_suc : (i m : ℕ) → suc i + m ≡ i + suc m
    plus_suc i m = omega arith

climbs_later : (v : Option ℤ) (ys : List (Option ℤ)) (x y : Option ℤ) → Climbs v ys x → IsUp x y → Climbs v ys y
climbs_later v [] x y h u = up_through v x y h u
climbs_later v (z ∷ ys) x y h u = (h.0, climbs_later z ys x y h.1 u)

climbs_snoc : (v : Option ℤ) (ys : List (Option ℤ)) (x : Option ℤ) → Climbs v ys x → Climbs v (ys ++ (x ∷ [])) x
climbs_snoc v [] x h = (h, up_same x)
climbs_snoc v (z ∷ ys) x h = (h.0, climbs_snoc z ys x h.1)

pub later_through : (a b c : Moment) → IsLater a b → IsLater b c → IsLater a c
later_through a b c h k = record { wides = omega (arith, h.wides, k.wides); steps = omega (arith, h.steps, k.steps); cuts = omega (arith, h.cuts, k.cuts) }

passes_later : (m : Moment) (us : List BranchUnit) (n n' : Moment) → Passes m us n → IsLater n n' → Passes m us n'
passes_later m [] n n' h k = later_through m n n' h k
passes_later m (u ∷ us) n n' h k = (h.0, passes_later (end_of m u) us n n' h.1 k)

pub passes_last : (m : Moment) (us : List BranchUnit) (n : Moment) → Passes m us n → IsLater (moment_after m us) n
passes_last m [] n h = h
passes_last m (u ∷ us) n h = passes_last (end_of m u) us n h.1

passes_snoc : (m : Moment) (us : List BranchUnit) (u : BranchUnit) (n n' : Moment) → Passes m us n
    → ((last : Moment) → IsLater last n → IsLater last (start_of last u) × IsLater (end_of last u) n') → Passes m (us ++ (u ∷ [])) n'
passes_snoc m [] u n n' h k = k m h
passes_snoc m (x ∷ us) u n n' h k = (h.0, passes_snoc (end_of m x) us u n n' h.1 k)

-- ---- what was lawful stays so

fixing_more : (ns ms : List Node) (i : ℕ) → i ≤ length ns → fixing_at (ns ++ ms) i ≡ fixing_at ns i
fixing_more ns ms i l = ap (λ xs. first_of (after (nothing_fixed ∷ []) xs)) (take-append-le i ns ms l)

module _ (k : Packing) (w : Weights) (level : ℕ) (targets : List ℤ) where
  unit_nodes : (nodes ms : List Node) (pool : List (List ℕ)) (u : BranchUnit) → IsLawfulUnit k w level targets nodes pool u → IsLawfulUnit k w level targets (nodes ++ ms) pool u
  unit_nodes nodes ms pool u h = record {
    level_is = h.level_is;
    inside = omega (arith, h.inside, length-append nodes ms);
    few = h.few;
    fixing = h.fixing;
    at = fixing_more nodes ms u.node h.inside ∙ h.at;
    free = h.free;
    cause = h.cause;
  }

  unit_pool : (nodes : List Node) (pool cs : List (List ℕ)) (u : BranchUnit) → IsLawfulUnit k w level targets nodes pool u → IsLawfulUnit k w level targets nodes (pool ++ cs) u
  unit_pool nodes pool cs u h = record {
    level_is = h.level_is;
    inside = h.inside;
    few = omega (arith, h.few, length-append pool cs);
    fixing = h.fixing;
    at = h.at;
    free = h.free;
    cause = subst (λ cuts. IsCaused k w (stage_at level targets u.value cuts) h.fixing u.pattern u.cause) (sym (take-append-le u.cuts pool cs h.few)) h.cause;
  }

  note_nodes : (nodes ms : List Node) (pool : List (List ℕ)) (i : ℕ) (n : CutNote) → IsLawfulNote k w level targets nodes pool i n → IsLawfulNote k w level targets (nodes ++ ms) pool i n
  note_nodes nodes ms pool i n h = record {
    level_is = h.level_is;
    inside = omega (arith, h.inside, length-append nodes ms);
    few = h.few;
    fixing = h.fixing;
    at = fixing_more nodes ms n.node h.inside ∙ h.at;
    gap = h.gap;
    broken = h.broken;
  }

  note_pool : (nodes : List Node) (pool cs : List (List ℕ)) (i : ℕ) (n : CutNote) → IsLawfulNote k w level targets nodes pool i n → IsLawfulNote k w level targets nodes (pool ++ cs) i n
  note_pool nodes pool cs i n h = record {
    level_is = h.level_is;
    inside = h.inside;
    few = omega (arith, h.few, length-append pool cs);
    fixing = h.fixing;
    at = h.at;
    gap = subst (λ cuts. IsGapPoint k w (stage_at level targets n.value cuts) h.fixing n.point) (sym (take-append-le i pool cs (omega (arith, h.few)))) h.gap;
    broken = subst (λ ps. n.point.den <ℤ given n.point ps) (sym (get_or_append_left pool cs [] i h.few)) h.broken;
  }

  -- ---- the steps

  pub logged_later : (b : Beginning) (nodes : List Node) (pool : List (List ℕ)) (v v' : Option ℤ) (units : List BranchUnit) (notes : List CutNote) (m m' : Moment)
      → IsLogged k w level targets b nodes pool v units notes m → IsLater m m' → m'.cuts ≡ m.cuts → IsUp v v' → IsLogged k w level targets b nodes pool v' units notes m'
  logged_later b nodes pool v v' units notes m m' h late same up = record {
    mine = h.mine;
    units_are = h.units_are;
    places = h.places;
    lawful = h.lawful;
    passes = passes_later b.moment h.mine m m' h.passes late;
    climbs = climbs_later b.value (map value_at_unit h.mine) v v' h.climbs up;
    cuts_are = same ∙ h.cuts_are;
    noted = h.noted;
    notes_are = h.notes_are;
    each_cut = h.each_cut;
    lawful_notes = h.lawful_notes;
    notes_climb = climbs_later b.value (map value_at_note h.noted) v v' h.notes_climb up;
  }

  pub logged_leaf : (b : Beginning) (nodes : List Node) (leaf : Leaf) (pool : List (List ℕ)) (v : Option ℤ) (units : List BranchUnit) (notes : List CutNote) (m : Moment)
      → IsLogged k w level targets b nodes pool v units notes m → IsLogged k w level targets b (nodes ++ (Closing leaf ∷ [])) pool v units notes m
  logged_leaf b nodes leaf pool v units notes m h = record {
    mine = h.mine;
    units_are = h.units_are;
    places = h.places ∙ sym (branches_snoc 0 nodes (Closing leaf) ∙ append-nil (branches_from 0 nodes));
    lawful = λ i d l. unit_nodes nodes (Closing leaf ∷ []) pool (slice_index_or h.mine i d) (h.lawful i d l);
    passes = h.passes;
    climbs = h.climbs;
    cuts_are = h.cuts_are;
    noted = h.noted;
    notes_are = h.notes_are;
    each_cut = h.each_cut;
    lawful_notes = λ i d l. note_nodes nodes (Closing leaf ∷ []) pool (b.moment.cuts + i) (slice_index_or h.noted i d) (h.lawful_notes i d l);
    notes_climb = h.notes_climb;
  }

  -- a branch, logged with the pool as it is
  pub logged_branch : (b : Beginning) (nodes : List Node) (pool : List (List ℕ)) (v : Option ℤ) (units : List BranchUnit) (notes : List CutNote) (m m' : Moment) (u : BranchUnit) (f : Fixing)
      → IsLogged k w level targets b nodes pool v units notes m
      → u.level ≡ level → u.node ≡ length nodes → u.cuts ≡ length pool → u.value ≡ v → fixing_at nodes (length nodes) ≡ Some f → can_branch k f u.pattern ≡ true
      → IsCaused k w (stage_at level targets v pool) f u.pattern u.cause → Took u.cause m.wides m'.wides m.steps m'.steps → IsLater m m' → m'.cuts ≡ m.cuts
      → IsLogged k w level targets b (nodes ++ (Branch u.pattern ∷ [])) pool v (units ++ (u ∷ [])) notes m'
  logged_branch b nodes pool v units notes m m' u f h lv nd ct va at free cause took late same =
      let here : IsLawfulUnit k w level targets nodes pool u = record {
        level_is = lv;
        inside = omega (arith, nd);
        few = omega (arith, ct);
        fixing = f;
        at = ap (fixing_at nodes) nd ∙ at;
        free = free;
        cause = subst (λ cuts. IsCaused k w (stage_at level targets u.value cuts) f u.pattern u.cause) (sym (ap (λ n. take n pool) ct ∙ take-length pool))
            (subst (λ x. IsCaused k w (stage_at level targets x pool) f u.pattern u.cause) (sym va) cause);
      } in
      let all = All-append (IsLawfulUnit k w level targets nodes pool) h.mine (u ∷ []) h.lawful (one u here) in
      record {
        mine = h.mine ++ (u ∷ []);
        units_are = ap (λ us. us ++ (u ∷ [])) h.units_are ∙ append_assoc b.units h.mine (u ∷ []);
        places = map-snoc place_of h.mine u ∙ ap₂ (λ xs i. xs ++ ((i, u.pattern) ∷ [])) h.places nd ∙ sym (branches_snoc 0 nodes (Branch u.pattern) ∙ ap (λ i. branches_from 0 nodes ++ ((i, u.pattern) ∷ [])) (none_plus (length nodes)));
        lawful = λ i d l. unit_nodes nodes (Branch u.pattern ∷ []) pool (slice_index_or (h.mine ++ (u ∷ [])) i d) (all i d l);
        passes = passes_snoc b.moment h.mine u m m' h.passes (λ last before. between u.cause refl last before);
        climbs = subst (λ ys. Climbs b.value ys v) (sym (map-snoc value_at_unit h.mine u ∙ ap (λ x. map value_at_unit h.mine ++ (x ∷ [])) va)) (climbs_snoc b.value (map value_at_unit h.mine) v h.climbs);
        cuts_are = same ∙ h.cuts_are;
        noted = h.noted;
        notes_are = h.notes_are;
        each_cut = h.each_cut;
        lawful_notes = λ i d l. note_nodes nodes (Branch u.pattern ∷ []) pool (b.moment.cuts + i) (slice_index_or h.noted i d) (h.lawful_notes i d l);
        notes_climb = h.notes_climb;
      }
    where
      none_plus : (n : ℕ) → 0 + n ≡ n
      none_plus n = omega arith

      one : (u : BranchUnit) → IsLawfulUnit k w level targets nodes pool u → All (IsLawfulUnit k w level targets nodes pool) (u ∷ [])
      one u x zero d l = x
      one u x (suc i) d l = absurd (omega arith)

      taken : (cause : Cause) → Took cause m.wides m'.wides m.steps m'.steps → (last : Moment) → IsLater last m → (last.wides ≤ wides_at last.wides cause) × (wides_past last.wides cause ≤ m'.wides) × (last.steps + pivots_of cause ≤ m'.steps)
      taken (Gap x) t last l = (omega arith, omega (arith, l.wides, late.wides), omega (arith, l.steps, late.steps))
      taken (Wide before after) t last l = (omega (arith, l.wides, t.0), t.1, omega (arith, l.steps, late.steps))
      taken (Stalled pivots) t last l = (omega arith, omega (arith, l.wides, late.wides), omega (arith, l.steps, t))

      between : (cause : Cause) → u.cause ≡ cause → (last : Moment) → IsLater last m → IsLater last (start_of last u) × IsLater (end_of last u) m'
      between cause e last l =
          let t = taken u.cause took last l in
          (record { wides = t.0; steps = omega arith; cuts = omega (arith, l.cuts, ct, h.cuts_are) }, record { wides = t.1; steps = t.2; cuts = omega (arith, ct, h.cuts_are, same) })

  -- a cut, noted with the point that it breaks
  pub logged_cut : (b : Beginning) (nodes : List Node) (pool : List (List ℕ)) (v : Option ℤ) (units : List BranchUnit) (notes : List CutNote) (m m' : Moment) (n : CutNote) (cut : List ℕ) (f : Fixing)
      → IsLogged k w level targets b nodes pool v units notes m
      → n.level ≡ level → n.node ≡ length nodes → n.value ≡ v → fixing_at nodes (length nodes) ≡ Some f
      → IsGapPoint k w (stage_at level targets v pool) f n.point → n.point.den <ℤ given n.point cut → IsLater m m' → m'.cuts ≡ m.cuts + 1
      → IsLogged k w level targets b nodes (pool ++ (cut ∷ [])) v units (notes ++ (n ∷ [])) m'
  logged_cut b nodes pool v units notes m m' n cut f h lv nd va at gap broken late more = record {
    mine = h.mine;
    units_are = h.units_are;
    places = h.places;
    lawful = λ i d l. unit_pool nodes pool (cut ∷ []) (slice_index_or h.mine i d) (h.lawful i d l);
    passes = passes_later b.moment h.mine m m' h.passes late;
    climbs = h.climbs;
    cuts_are = omega (arith, more, h.cuts_are, length-append pool (cut ∷ []));
    noted = h.noted ++ (n ∷ []);
    notes_are = ap (λ ns. ns ++ (n ∷ [])) h.notes_are ∙ append_assoc b.notes h.noted (n ∷ []);
    each_cut = omega (arith, h.each_cut, length-append h.noted (n ∷ []), length-append pool (cut ∷ []));
    lawful_notes = λ i d l. elim (cases_lt i (length h.noted)) [
      | inl before ↦ subst (IsLawfulNote k w level targets nodes (pool ++ (cut ∷ [])) (b.moment.cuts + i)) (sym (get_or_append_left h.noted (n ∷ []) d i before))
          (note_pool nodes pool (cut ∷ []) (b.moment.cuts + i) (slice_index_or h.noted i d) (h.lawful_notes i d before))
      | inr last ↦
          let at_end : i ≡ length h.noted = omega (arith, length-append h.noted (n ∷ [])) in
          let place : length pool ≡ b.moment.cuts + i = omega (arith, h.each_cut) in
          subst (IsLawfulNote k w level targets nodes (pool ++ (cut ∷ [])) (b.moment.cuts + i)) (sym (get_or_push h.noted n d i (sym at_end)))
          (subst (λ j. IsLawfulNote k w level targets nodes (pool ++ (cut ∷ [])) j n) place here)
    ];
    notes_climb = subst (λ ys. Climbs b.value ys v) (sym (map-snoc value_at_note h.noted n ∙ ap (λ x. map value_at_note h.noted ++ (x ∷ [])) va)) (climbs_snoc b.value (map value_at_note h.noted) v h.notes_climb);
  }
    where
      here : IsLawfulNote k w level targets nodes (pool ++ (cut ∷ [])) (length pool) n
      here = record {
        level_is = lv;
        inside = omega (arith, nd);
        few = omega (arith, length-append pool (cut ∷ []));
        fixing = f;
        at = ap (fixing_at nodes) nd ∙ at;
        gap = subst (λ cuts. IsGapPoint k w (stage_at level targets n.value cuts) f n.point) (sym (take-append-le (length pool) pool (cut ∷ []) (omega arith) ∙ take-length pool))
            (subst (λ x. IsGapPoint k w (stage_at level targets x pool) f n.point) (sym va) gap);
        broken = subst (λ ps. n.point.den <ℤ given n.point ps) (sym (get_or_push pool cut [] (length pool) refl)) broken;
      }

  -- where the budget is spent the cause says why
  pub stopped : (s : Stage) (f : Fixing) (p : ℕ) (cause : Cause) (last m m' : Moment) → IsLater last m → IsCaused k w s f p cause → Took cause m.wides m'.wides m.steps m'.steps → IsStopped k w s f last m'
  stopped s f p (Gap x) last m m' l c t = inl (x, c.0, c.1)
  stopped s f p (Wide before after) last m m' l c t = inr (inl (rose_wider before after last.wides m'.wides c.0 (omega (arith, l.wides, t.0)) t.1))
    where
      rose_wider : (a b x y : ℕ) → Rose a b → x ≤ a → b ≤ y → Rose x y
      rose_wider a b x y r h k = record { later = omega (arith, r.later, h, k); rose = omega (arith, r.rose, h, k) }
  stopped s f p (Stalled pivots) last m m' l c t = inr (inr (omega (arith, l.steps, t, c.0)))

  pub logged_as : (b : Beginning) (nodes nodes' : List Node) (pool pool' : List (List ℕ)) (v v' : Option ℤ) (units units' : List BranchUnit) (notes notes' : List CutNote) (m : Moment)
      → nodes' ≡ nodes → pool' ≡ pool → v' ≡ v → units' ≡ units → notes' ≡ notes → IsLogged k w level targets b nodes pool v units notes m → IsLogged k w level targets b nodes' pool' v' units' notes' m
  logged_as b nodes nodes' pool pool' v v' units units' notes notes' m e f g h i l =
      subst (λ x. IsLogged k w level targets b x pool' v' units' notes' m) (sym e)
      (subst (λ x. IsLogged k w level targets b nodes x v' units' notes' m) (sym f)
      (subst (λ x. IsLogged k w level targets b nodes pool x units' notes' m) (sym g)
      (subst (λ x. IsLogged k w level targets b nodes pool v x notes' m) (sym h)
      (subst (λ x. IsLogged k w level targets b nodes pool v units x m) (sym i) l))))

  late_moment : (wides wides' steps steps' cuts : ℕ) → wides ≤ wides' → steps ≤ steps' → IsLater (moment wides steps cuts) (moment wides' steps' cuts)
  late_moment wides wides' steps steps' cuts h i = record { wides = h; steps = i; cuts = omega arith }

  pub closing_logged : (g g' : Growth) (leaf : Leaf) (pool : List (List ℕ)) (log : Log) (wides wides' steps steps' : ℕ) (step : Step)
      → IsClosing g g' leaf step → wides ≤ wides' → steps ≤ steps' → Logs k w level targets g g' pool pool log log wides wides' steps steps' step
  closing_logged g g' leaf pool log wides wides' steps steps' step h lw ls = record {
    on = λ b l. go step h.turned
        (logged_as b (g.nodes ++ (Closing leaf ∷ [])) g'.nodes pool pool (value_of g.held) (value_of g'.held) log.units log.units log.cuts log.cuts (moment wides' steps' (length pool)) h.nodes refl (ap value_of h.held) refl refl
        (logged_leaf b g.nodes leaf pool (value_of g.held) log.units log.cuts (moment wides' steps' (length pool))
        (logged_later b g.nodes pool (value_of g.held) (value_of g.held) log.units log.cuts (moment wides steps (length pool)) (moment wides' steps' (length pool)) l (late_moment wides wides' steps steps' (length pool) lw ls) refl (up_same (value_of g.held)))));
  }
    where
      go : {b : Beginning} → (step : Step) → TurnsTo (turn (path_of g.walk.path)) (path_of g'.walk.path) step
          → IsLogged k w level targets b g'.nodes pool (value_of g'.held) log.units log.cuts (moment wides' steps' (length pool)) → LogsOn k w level targets b g' pool log wides' steps' step
      go On t x = x
      go Proved t x = x
      go Spent t x = absurd t

  pub better_logged : (g g' : Growth) (pool : List (List ℕ)) (log : Log) (wides wides' steps steps' : ℕ)
      → g'.nodes ≡ g.nodes → IsUp (value_of g.held) (value_of g'.held) → wides ≤ wides' → steps ≤ steps' → Logs k w level targets g g' pool pool log log wides wides' steps steps' On
  better_logged g g' pool log wides wides' steps steps' e up lw ls = record {
    on = λ b l.
        logged_as b g.nodes g'.nodes pool pool (value_of g'.held) (value_of g'.held) log.units log.units log.cuts log.cuts (moment wides' steps' (length pool)) e refl refl refl refl
        (logged_later b g.nodes pool (value_of g.held) (value_of g'.held) log.units log.cuts (moment wides steps (length pool)) (moment wides' steps' (length pool)) l (late_moment wides wides' steps steps' (length pool) lw ls) refl up);
  }

  -- the fixing of the walk stands at the next place
  fixing_next : (nodes : List Node) (path : List PathStep) → after (nothing_fixed ∷ []) nodes ≡ pending_of path → fixing_at nodes (length nodes) ≡ Some (fixing_of path)
  fixing_next nodes path e = ap (λ xs. first_of (after (nothing_fixed ∷ []) xs)) (take-length nodes) ∙ ap first_of e

  pub split_logged : (g g' : Growth) (pool : List (List ℕ)) (log log' : Log) (wides wides' steps steps' : ℕ) (u : BranchUnit)
      → after (nothing_fixed ∷ []) g.nodes ≡ pending_of (path_of g.walk.path) → can_branch k (fixing_of (path_of g.walk.path)) u.pattern ≡ true
      → IsCaused k w (stage_at level targets (value_of g.held) pool) (fixing_of (path_of g.walk.path)) u.pattern u.cause
      → u.level ≡ level → u.node ≡ length g.nodes → u.cuts ≡ length pool → u.value ≡ value_of g.held
      → g'.nodes ≡ g.nodes ++ (Branch u.pattern ∷ []) → g'.held ≡ g.held → log'.units ≡ log.units ++ (u ∷ []) → log'.cuts ≡ log.cuts
      → wides ≤ wides' → steps ≤ steps' → Took u.cause wides wides' steps steps' → Logs k w level targets g g' pool pool log log' wides wides' steps steps' On
  split_logged g g' pool log log' wides wides' steps steps' u behind free cause lv nd ct va nodes held units notes lw ls took = record {
    on = λ b l.
        logged_as b (g.nodes ++ (Branch u.pattern ∷ [])) g'.nodes pool pool (value_of g.held) (value_of g'.held) (log.units ++ (u ∷ [])) log'.units log.cuts log'.cuts (moment wides' steps' (length pool)) nodes refl (ap value_of held) units notes
        (logged_branch b g.nodes pool (value_of g.held) log.units log.cuts (moment wides steps (length pool)) (moment wides' steps' (length pool)) u (fixing_of (path_of g.walk.path)) l lv nd ct va
        (fixing_next g.nodes (path_of g.walk.path) behind) free cause took (late_moment wides wides' steps steps' (length pool) lw ls) refl);
  }

  pub spent_logged : (g g' : Growth) (pool : List (List ℕ)) (log : Log) (wides wides' steps steps' : ℕ) (p : ℕ) (cause : Cause)
      → IsCaused k w (stage_at level targets (value_of g.held) pool) (fixing_of (path_of g.walk.path)) p cause → g' ≡ g
      → wides ≤ wides' → steps ≤ steps' → Took cause wides wides' steps steps' → Logs k w level targets g g' pool pool log log wides wides' steps steps' Spent
  unfolding logged_later
  spent_logged g g' pool log wides wides' steps steps' p cause caused same lw ls took = subst (λ x. Logs k w level targets g x pool pool log log wides wides' steps steps' Spent) (sym same) (record {
    on = λ b l. (
      logged_later b g.nodes pool (value_of g.held) (value_of g.held) log.units log.cuts (moment wides steps (length pool)) (moment wides' steps' (length pool)) l (late_moment wides wides' steps steps' (length pool) lw ls) refl (up_same (value_of g.held)),
      stopped (stage_at level targets (value_of g.held) pool) (fixing_of (path_of g.walk.path)) p cause (moment_after b.moment l.mine) (moment wides steps (length pool)) (moment wides' steps' (length pool)) (passes_last b.moment l.mine (moment wides steps (length pool)) l.passes) caused took,
    );
  })

  pub cut_logged : (g g' : Growth) (pool pool' : List (List ℕ)) (log log' : Log) (wides wides' steps steps' : ℕ) (x : Point) (cut : List ℕ)
      → after (nothing_fixed ∷ []) g.nodes ≡ pending_of (path_of g.walk.path)
      → IsGapPoint k w (stage_at level targets (value_of g.held) pool) (fixing_of (path_of g.walk.path)) x → x.den <ℤ given x cut
      → g' ≡ g → pool' ≡ pool ++ (cut ∷ []) → log'.units ≡ log.units → log'.cuts ≡ log.cuts ++ (record { level = level; node = length g.nodes; value = value_of g.held; point = x } ∷ [])
      → wides ≤ wides' → steps ≤ steps' → Logs k w level targets g g' pool pool' log log' wides wides' steps steps' On
  cut_logged g g' pool pool' log log' wides wides' steps steps' x cut behind gap broken same e units notes lw ls = subst (λ y. Logs k w level targets g y pool pool' log log' wides wides' steps steps' On) (sym same) (record {
    on = λ b l.
        let n : CutNote = record { level = level; node = length g.nodes; value = value_of g.held; point = x } in
        let more : length pool' ≡ length pool + 1 = ap length e ∙ length-append pool (cut ∷ []) in
        logged_as b g.nodes g.nodes (pool ++ (cut ∷ [])) pool' (value_of g.held) (value_of g.held) log.units log'.units (log.cuts ++ (n ∷ [])) log'.cuts (moment wides' steps' (length pool')) refl e refl units notes
        (logged_cut b g.nodes pool (value_of g.held) log.units log.cuts (moment wides steps (length pool)) (moment wides' steps' (length pool')) n cut (fixing_of (path_of g.walk.path)) l refl refl refl
        (fixing_next g.nodes (path_of g.walk.path) behind) gap broken (record { wides = lw; steps = ls; cuts = omega (arith, more) }) more);
  })

branches_ends : (i : ℕ) (ns : List Node) (n : ℕ) → branches_from i (ns ++ open_ends n) ≡ branches_from i ns
branches_ends i [] zero = refl
branches_ends i [] (suc n) = branches_ends (suc i) [] n
branches_ends i (Branch p ∷ ns) n = ap (λ xs. (i, p) ∷ xs) (branches_ends (suc i) ns n)
branches_ends i (Closing leaf ∷ ns) n = branches_ends (suc i) ns n
branches_ends i (OpenEnd ∷ ns) n = branches_ends (suc i) ns n
branches_ends i (Same leaf ∷ ns) n = branches_ends (suc i) ns n

module _ (k : Packing) (w : Weights) (level : ℕ) (targets : List ℤ) where
  ended : (b : Beginning) (nodes : List Node) (n : ℕ) (pool : List (List ℕ)) (v : Option ℤ) (units : List BranchUnit) (notes : List CutNote) (m : Moment)
      → IsLogged k w level targets b nodes pool v units notes m → IsLogged k w level targets b (nodes ++ open_ends n) pool v units notes m
  ended b nodes n pool v units notes m h = record {
    mine = h.mine;
    units_are = h.units_are;
    places = h.places ∙ sym (branches_ends 0 nodes n);
    lawful = λ i d l. unit_nodes k w level targets nodes (open_ends n) pool (slice_index_or h.mine i d) (h.lawful i d l);
    passes = h.passes;
    climbs = h.climbs;
    cuts_are = h.cuts_are;
    noted = h.noted;
    notes_are = h.notes_are;
    each_cut = h.each_cut;
    lawful_notes = λ i d l. note_nodes k w level targets nodes (open_ends n) pool (b.moment.cuts + i) (slice_index_or h.noted i d) (h.lawful_notes i d l);
    notes_climb = h.notes_climb;
  }

  -- the log of a tree that was left, with the reason at its first open end
  pub logged_open : (b : Beginning) (g : Growth) (grown : TreeGrown) (pool : List (List ℕ)) (log : Log) (wides steps : ℕ)
      → LogsOn k w level targets b g pool log wides steps Spent → after (nothing_fixed ∷ []) g.nodes ≡ pending_of (path_of g.walk.path) → list_any is_open g.nodes ≡ false → has_free k (fixing_of (path_of g.walk.path)) ≡ true
      → grown.nodes ≡ g.nodes ++ open_ends (length (pending_of (path_of g.walk.path))) → grown.held ≡ g.held → grown.proved ≡ false
      → LogsTree k w level targets b grown.nodes (value_of grown.held) pool log wides steps grown.proved
  unfolding ended
  logged_open b g grown pool log wides steps l behind closed free nodes held left =
      let n = length (pending_of (path_of g.walk.path)) in
      subst (λ x. LogsTree k w level targets b grown.nodes (value_of grown.held) pool log wides steps x) (sym left)
      (subst (λ x. LogsTree k w level targets b grown.nodes (value_of x) pool log wides steps false) (sym held)
      (subst (λ x. LogsTree k w level targets b x (value_of g.held) pool log wides steps false) (sym nodes)
      (record {
        log = ended b g.nodes n pool (value_of g.held) log.units log.cuts (moment wides steps (length pool)) l.0;
        place = length g.nodes;
        fixing = fixing_of (path_of g.walk.path);
        first = first_open k g.nodes (path_of g.walk.path) behind closed free;
        stopped = l.1;
      })))

pub no_more : (k : Packing) (w : Weights) (level : ℕ) (targets : List ℤ) (b : Beginning) (nodes : List Node) (pool : List (List ℕ)) (v v' : Option ℤ) (units : List BranchUnit) (notes : List CutNote) (m : Moment)
    → nodes ≡ [] → v' ≡ v → IsLogged k w level targets b [] pool v units notes m → IsLogged k w level targets b nodes pool v' units notes m
no_more k w level targets b nodes pool v v' units notes m e f h = logged_as k w level targets b [] nodes pool pool v v' units units notes notes m e refl f refl refl h

pub lowest_caused : (k : Packing) (w : Weights) (s : Stage) (f : Fixing) (p : ℕ) (cause : Cause) → IsLowestCause k w s f cause → first_from (is_free k f) 0 k.count ≡ p + 1 → IsCaused k w s f p cause
lowest_caused k w s f p (Gap x) h e = absurd h
lowest_caused k w s f p (Wide before after) h e = (h, e)
lowest_caused k w s f p (Stalled pivots) h e = (h, e)

-- nothing is logged yet
pub logged_begins : (k : Packing) (w : Weights) (level : ℕ) (targets : List ℤ) (pool : List (List ℕ)) (v : Option ℤ) (units : List BranchUnit) (notes : List CutNote) (m : Moment) → m.cuts ≡ length pool
    → IsLogged k w level targets (record { moment = m; value = v; units = units; notes = notes }) [] pool v units notes m
logged_begins k w level targets pool v units notes m e = record {
  mine = [];
  units_are = sym (append-nil units);
  places = refl;
  lawful = λ i d l. absurd (omega arith);
  passes = record { wides = omega arith; steps = omega arith; cuts = omega arith };
  climbs = up_same v;
  cuts_are = e;
  noted = [];
  notes_are = sym (append-nil notes);
  each_cut = omega (arith, e);
  lawful_notes = λ i d l. absurd (omega arith);
  notes_climb = up_same v;
}
