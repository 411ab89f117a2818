-- Behind each line that may come, the progress stands for the state of the text.
use Rattle.std.proofs.Common.{ℕ, ◌≡◌, ◌+◌, ◌-◌, arith, refl, sym, ◌∙◌, ap, subst, zero, suc, Bool, true, false, cond, List, [], ◌∷◌, ◌++◌, length, take}
use Rattle.std.specs.Prelude.{ℤ, Option, Some, None, option_map, ◌==◌, ◌^◌}
use Rattle.std.specs.List.{list_all}
use Rattle.std.specs.Option.{option_or}
use Rattle.std.proofs.lemmas.Bool.{and_parts, eqb-true, true≢false}
use Rattle.std.proofs.lemmas.Option.{none-some, same_Some, cond_some}
use Rattle.numbers.specs.Below.{any_below}
use Rattle.problem_core.specs.Facts.{Facts}
use Rattle.problem_core.specs.Measures.{measures, differ_at}
use Rattle.duality.specs.declared.leaf.Leaf.{Leaf}
use Rattle.duality.specs.declared.leaf.Node.{Node as SearchNode}
use Rattle.duality.specs.declared.leaf.Node.TheVariants.{Branch, Leaf as Closing, OpenEnd, Same}
use Rattle.duality.specs.Packing.{Fixing}
use Rattle.duality.specs.Tree.{nothing_fixed}
use Rattle.duality.specs.Walk.{Step, step_at, fixing_of, later, turn, pending, pending_of}
use Rattle.duality.proofs.WalkLaws.{later-turn}
use Rattle.cert_text.specs.declared.lines.Tree.{Tree}
use Rattle.cert_text.specs.declared.lines.CertLine.{CertLine}
use Rattle.cert_text.specs.declared.lines.CertLine.TheVariants as lines
use Rattle.cert_text.specs.declared.place.Place.{Place}
use Rattle.cert_text.specs.declared.place.Place.TheVariants as places
use Rattle.cert_text.specs.Grammar.{State, Opening, with_cut, with_levels, tree_of, awaits, may_begin, step}
use Rattle.cert_text.specs.Grammar.State.{Begun, Headed, Sized, Chosen, Valued, Cutting, Between, Inside, Loose, After, Over}
use Rattle.cert_text.specs.Places.{follows, place_of}
use Rattle.cert_text.specs.Spelling.{in_bounds}
use Rattle.cert_text.specs.Sharing.{is_plain}
use Rattle.cert_text.proofs.CountLaws.{step_counts}
use Rattle.duality.specs.Sums.{is_small}
use Rattle.cert_checker.specs.declared.verdict.Reason.TheVariants as reasons
use Rattle.cert_checker.proofs.ValidLaws.{values_same}
use Rattle.packing_model.specs.Built.{packing, measured}
use Rattle.packing_model.specs.Nodes.{stage_at}
use Rattle.cert_checker.specs.declared.verdict.Reason.{Reason}
use Rattle.cert_checker.specs.declared.verdict.Found.{Found}
use Rattle.cert_checker.specs.declared.progress.Progress.{Progress}
use Rattle.duality.specs.After.{after_node, after}
use Rattle.cert_checker.specs.Faults.{at_line, values_reason, node_reason, next_reason, stage_for, value_at}
use Rattle.search_nodes.specs.Paths.{path_of, IsTurned}
use Rattle.cert_checker.specs.Progresses.{fault_in, reason_at, IsNextLine, KeepsOpening, KeepsPath, Keeps, Stands, stage_in, node_reason_in, reason_of, NodeAfterIn, IsAdded, Judges, Takes}
use Rattle.cert_checker.proofs.StepLaws.{AddsTo, Adds, step_adds}

-- ---- the reason by what is kept is that of the state

stage_same : (p : Progress) (o : Opening) (level : ℕ) → KeepsOpening p o.values o.cuts → stage_in p level ≡ stage_for o level
stage_same p o level h =
    ap (λ vs. stage_at level (take (level - 1) vs) (Some (value_at vs level)) p.pool) h.measures
    ∙ ap (λ cuts. stage_at level (take (level - 1) o.values) (Some (value_at o.values level)) cuts) h.pool

inside_same : (f : Facts) (p : Progress) (o : Opening) (ts : List Tree) (ns : List SearchNode) (k : ℕ) (n : SearchNode) → p.place ≡ places.Inside (length ts) k → KeepsOpening p o.values o.cuts → KeepsPath p ns k
    → node_reason_in f p p.place n ≡ next_reason (packing f) (measured f) (stage_for o (1 + length ts)) (after (nothing_fixed ∷ []) ns) n
inside_same f p o ts ns k n place opening path =
    ap (λ q. node_reason_in f p q n) place
    ∙ ap (λ s. node_reason (packing f) (measured f) s (fixing_of (path_of p.walk.path)) n) (stage_same p o (1 + length ts) opening)
    ∙ ap (λ fs. next_reason (packing f) (measured f) (stage_for o (1 + length ts)) fs n) path.path

not_judged : (f : Facts) (p : Progress) (q : Place) (n : SearchNode) → p.place ≡ q → node_reason_in f p q n ≡ None → node_reason_in f p p.place n ≡ None
not_judged f p q n e h = ap (λ r. node_reason_in f p r n) e ∙ h

pub reasons_same : (f : Facts) (p : Progress) (s : State) (l : CertLine) (t : State) → p.place ≡ place_of s → Keeps f p s → step s l ≡ Some t → reason_of f p l ≡ reason_at f s l
reasons_same f p Begun (lines.Head v) t e k h = refl
reasons_same f p (Headed v) (lines.Sizes a b) t e k h = refl
reasons_same f p (Sized v a b) (lines.Choice cs) t e k h = refl
reasons_same f p (Chosen v a b cs) (lines.Values vs) t e k h = ap (λ m. values_reason m vs) k.measures
reasons_same f p (Valued v a b cs vs) (lines.Cuts n) t e k h = refl
reasons_same f p (Cutting o zero) (lines.Cut ps) t e k h = refl
reasons_same f p (Cutting o (suc n)) (lines.Cut ps) t e k h = refl
reasons_same f p (Between o ts) (lines.Level j) t e k h = refl
reasons_same f p (Between o ts) (lines.Unfinished j) t e k h = refl
reasons_same f p (Between o ts) (lines.End j) t e k h = refl
reasons_same f p (Inside o ts ns n) (lines.Node m) t e k h = inside_same f p o ts ns n m e k.0 k.1
reasons_same f p (Loose o ts ns n seen) (lines.Node m) t e k h = not_judged f p (places.Loose (length ts) n seen) m e refl
reasons_same f p (After o ts ns) (lines.End j) t e k h = refl
reasons_same f p s l t e k h = absurd (none-some t h)

-- ---- what is kept behind a line

abbrev after_next : List Fixing → SearchNode → List Fixing
after_next [] n = []
after_next (f ∷ fs) n = after_node f fs n

after_more : (ns : List SearchNode) (fs : List Fixing) (n : SearchNode) → after fs (ns ++ (n ∷ [])) ≡ after_next (after fs ns) n
after_more [] [] n = refl
after_more [] (f ∷ fs) n = refl
after_more (m ∷ ns) [] n = refl
after_more (m ∷ ns) (f ∷ fs) n = after_more ns (after_node f fs m) n

opening_same : (old new : Progress) (values : List ℤ) (cuts : List (List ℕ)) → KeepsOpening old values cuts → new.measures ≡ old.measures → new.pool ≡ old.pool → KeepsOpening new values cuts
opening_same old new values cuts k m p = record { measures = m ∙ k.measures; pool = p ∙ k.pool }

-- the path goes into a branch
path_branches : (old new : Progress) (ns : List SearchNode) (k p : ℕ) → KeepsPath old ns k → path_of new.walk.path ≡ step_at p false ∷ path_of old.walk.path → KeepsPath new (ns ++ (Branch p ∷ [])) (suc k)
path_branches old new ns k p h e =
    let path = path_of old.walk.path in
    let same : after (nothing_fixed ∷ []) (ns ++ (Branch p ∷ [])) ≡ pending_of (step_at p false ∷ path) = after_more ns (nothing_fixed ∷ []) (Branch p) ∙ ap (λ fs. after_next fs (Branch p)) (sym h.path) in
    let before : length (pending_of path) ≡ k + 1 = ap length h.path ∙ h.count in
    record { path = ap pending_of e ∙ sym same; count = ap length same ∙ omega (arith, before) }

-- the path turns behind a leaf that is not the last
path_turns : (old new : Progress) (ns : List SearchNode) (k : ℕ) (leaf : Leaf) → KeepsPath old ns (suc k) → IsTurned (turn (path_of old.walk.path)) (path_of new.walk.path) → KeepsPath new (ns ++ (Closing leaf ∷ [])) k
path_turns old new ns k leaf h turned =
    let path = path_of old.walk.path in
    let same : after (nothing_fixed ∷ []) (ns ++ (Closing leaf ∷ [])) ≡ later path = after_more ns (nothing_fixed ∷ []) (Closing leaf) ∙ ap (λ fs. after_next fs (Closing leaf)) (sym h.path) in
    let before : length (pending_of path) ≡ suc k + 1 = ap length h.path ∙ h.count in
    let count : length (later path) ≡ k + 1 = omega (arith, before) in
    go (turn path) same count (later-turn path) turned
  where
    go : (o : Option (List Step)) → after (nothing_fixed ∷ []) (ns ++ (Closing leaf ∷ [])) ≡ later (path_of old.walk.path) → length (later (path_of old.walk.path)) ≡ k + 1 → later (path_of old.walk.path) ≡ pending o → IsTurned o (path_of new.walk.path)
        → KeepsPath new (ns ++ (Closing leaf ∷ [])) k
    go None same count e t = absurd (omega (arith, count, ap length e))
    go (Some q) same count e t = record { path = ap pending_of t ∙ sym e ∙ sym same; count = ap length same ∙ count }

values_right : (m vs : List ℤ) → values_reason m vs ≡ None → any_below (differ_at vs m) 6 ≡ false
values_right m vs h = go (any_below (differ_at vs m) 6) h
  where
    go : (b : Bool) → cond b (Some reasons.Values) None ≡ None → b ≡ false
    go true e = absurd (none-some reasons.Values (sym e))
    go false e = refl

keeps_next : (f : Facts) (old new : Progress) (s : State) (l : CertLine) (t : State) → in_bounds l ≡ true → is_plain l ≡ true → old.place ≡ place_of s → Keeps f old s → step s l ≡ Some t → reason_at f s l ≡ None → IsAdded f old new l → Keeps f new t
keeps_next f old new Begun (lines.Head v) t b pl e k h r a = subst (Keeps f new) (same_Some (Headed v) t h) (a.pool ∙ k)
keeps_next f old new (Headed v) (lines.Sizes x y) t b pl e k h r a = subst (Keeps f new) (same_Some (Sized v x y) t h) (a.pool ∙ k)
keeps_next f old new (Sized v x y) (lines.Choice cs) t b pl e k h r a = subst (Keeps f new) (same_Some (Chosen v x y cs) t h) (record { measures = a.measures; pool = a.pool ∙ k })
keeps_next f old new (Chosen v x y cs) (lines.Values vs) t b pl e k h r a =
    let six = eqb-true (length vs) 6 (and_parts (length vs == 6) (list_all (is_small (10 ^ 12)) vs) b).0 in
    let right : vs ≡ measures f cs = values_same (measures f cs) vs six refl (values_right (measures f cs) vs r) in
    subst (Keeps f new) (same_Some (Valued v x y cs vs) t h) (record { measures = a.measures ∙ k.measures ∙ sym right; pool = a.pool ∙ k.pool })
keeps_next f old new (Valued v x y cs vs) (lines.Cuts zero) t b pl e k h r a = subst (Keeps f new) (same_Some (awaits (record { version = v; patterns = x; rows = y; choice = cs; values = vs; cuts = [] }) zero) t h) (opening_same old new vs [] k a.measures a.pool)
keeps_next f old new (Valued v x y cs vs) (lines.Cuts (suc n)) t b pl e k h r a = subst (Keeps f new) (same_Some (awaits (record { version = v; patterns = x; rows = y; choice = cs; values = vs; cuts = [] }) (suc n)) t h) (opening_same old new vs [] k a.measures a.pool)
keeps_next f old new (Cutting o zero) (lines.Cut ps) t b pl e k h r a = subst (Keeps f new) (same_Some (Between (with_cut ps o) []) t h) (record { measures = a.measures ∙ k.measures; pool = a.pool ∙ ap (λ cuts. cuts ++ (ps ∷ [])) k.pool })
keeps_next f old new (Cutting o (suc n)) (lines.Cut ps) t b pl e k h r a = subst (Keeps f new) (same_Some (Cutting (with_cut ps o) n) t h) (record { measures = a.measures ∙ k.measures; pool = a.pool ∙ ap (λ cuts. cuts ++ (ps ∷ [])) k.pool })
keeps_next f old new (Between o ts) (lines.Level j) t b pl e k h r a =
    subst (Keeps f new) (cond_some (may_begin j ts) (Inside o ts [] 0) t h).1 (opening_same old new o.values o.cuts k a.measures a.pool, record { path = ap pending_of a.path; count = refl })
keeps_next f old new (Between o ts) (lines.Unfinished j) t b pl e k h r a = subst (Keeps f new) (cond_some (may_begin j ts) (Loose o ts [] 0 false) t h).1 (opening_same old new o.values o.cuts k a.measures a.pool)
keeps_next f old new (Between o ts) (lines.End j) t b pl e k h r a = subst (Keeps f new) (cond_some (j == length ts) (Over (with_levels o ts None)) t h).1 (opening_same old new o.values o.cuts k a.measures a.pool)
keeps_next f old new (Inside o ts ns n) (lines.Node (Branch p)) t b pl e k h r a =
    let path = subst (λ q. NodeAfterIn q (Branch p) (path_of old.walk.path) (path_of new.walk.path)) e a.path in
    subst (Keeps f new) (same_Some (Inside o ts (ns ++ (Branch p ∷ [])) (suc n)) t h) (opening_same old new o.values o.cuts k.0 a.measures a.pool, path_branches old new ns n p k.1 path)
keeps_next f old new (Inside o ts ns zero) (lines.Node (Closing leaf)) t b pl e k h r a =
    subst (Keeps f new) (same_Some (Between o (ts ++ (tree_of (ns ++ (Closing leaf ∷ [])) ∷ []))) t h) (opening_same old new o.values o.cuts k.0 a.measures a.pool)
keeps_next f old new (Inside o ts ns (suc n)) (lines.Node (Closing leaf)) t b pl e k h r a =
    let path = subst (λ q. NodeAfterIn q (Closing leaf) (path_of old.walk.path) (path_of new.walk.path)) e a.path in
    subst (Keeps f new) (same_Some (Inside o ts (ns ++ (Closing leaf ∷ [])) n) t h) (opening_same old new o.values o.cuts k.0 a.measures a.pool, path_turns old new ns n leaf k.1 path)
keeps_next f old new (Inside o ts ns n) (lines.Node (Same q)) t b pl e k h r a = absurd (true≢false (sym pl))
keeps_next f old new (Loose o ts ns n seen) (lines.Node (Same q)) t b pl e k h r a = absurd (true≢false (sym pl))
keeps_next f old new (Loose o ts ns n seen) (lines.Node (Branch p)) t b pl e k h r a = subst (Keeps f new) (same_Some (Loose o ts (ns ++ (Branch p ∷ [])) (suc n) seen) t h) (opening_same old new o.values o.cuts k a.measures a.pool)
keeps_next f old new (Loose o ts ns zero true) (lines.Node (Closing leaf)) t b pl e k h r a = subst (Keeps f new) (same_Some (After o ts (ns ++ (Closing leaf ∷ []))) t h) (opening_same old new o.values o.cuts k a.measures a.pool)
keeps_next f old new (Loose o ts ns (suc n) seen) (lines.Node (Closing leaf)) t b pl e k h r a = subst (Keeps f new) (same_Some (Loose o ts (ns ++ (Closing leaf ∷ [])) n seen) t h) (opening_same old new o.values o.cuts k a.measures a.pool)
keeps_next f old new (Loose o ts ns zero seen) (lines.Node OpenEnd) t b pl e k h r a = subst (Keeps f new) (same_Some (After o ts (ns ++ (OpenEnd ∷ []))) t h) (opening_same old new o.values o.cuts k a.measures a.pool)
keeps_next f old new (Loose o ts ns (suc n) seen) (lines.Node OpenEnd) t b pl e k h r a = subst (Keeps f new) (same_Some (Loose o ts (ns ++ (OpenEnd ∷ [])) n true) t h) (opening_same old new o.values o.cuts k a.measures a.pool)
keeps_next f old new (After o ts ns) (lines.End j) t b pl e k h r a = subst (Keeps f new) (cond_some (j == length ts) (Over (with_levels o ts (Some (tree_of ns)))) t h).1 (opening_same old new o.values o.cuts k a.measures a.pool)
keeps_next f old new s l t b pl e k h r a = absurd (none-some t h)

-- ---- the whole step

no_fault : (line : ℕ) (r : Option Reason) → at_line line r ≡ None → r ≡ None
no_fault line None h = refl
no_fault line (Some r) h = absurd (none-some (record { line = line; reason = r }) (sym h))

abbrev pub behind : Progress → Place → Progress
behind p q = record { place = q; line = p.line + 1; measures = p.measures; pool = p.pool; walk = p.walk; fault = p.fault }

stands_at : (f : Facts) (old new : Progress) (q : Place) (s : State) (l : CertLine) (t : State) → in_bounds l ≡ true → is_plain l ≡ true → Stands f old s → Judges f old new l → step s l ≡ Some t → place_of t ≡ q → Stands f (behind new q) t
stands_at f old new q s l t b pl stands judges e place =
    let adds : Adds f s t l old.line = subst (AddsTo f s l old.line) e (step_adds f s l old.line stands.line) in
    go old.fault refl adds
  where
    go : (o : Option Found) → old.fault ≡ o → Adds f s t l old.line → Stands f (behind new q) t
    go None none adds =
        let same = reasons_same f old s l t stands.place (stands.keeps none) e in
        let first : new.fault ≡ at_line old.line (reason_at f s l) = judges.first none ∙ ap (at_line old.line) same in
        let clear : fault_in f s ≡ None = sym stands.fault ∙ none in
        record {
          place = sym place;
          line = subst (λ n. IsNextLine t (n + 1)) (sym judges.kept.line) adds.next;
          fault = first ∙ ap (λ x. option_or x (at_line old.line (reason_at f s l))) (sym clear) ∙ sym adds.fault;
          keeps = λ n.
              let right : reason_at f s l ≡ None = no_fault old.line (reason_at f s l) (sym first ∙ n) in
              let added = judges.added none (same ∙ right) in
              keeps_next f old (behind new q) s l t b pl stands.place (stands.keeps none) e right (record { pool = added.pool; measures = added.measures; path = added.path });
        }
    go (Some found) some adds =
        let stays = judges.stays found some in
        let before : fault_in f s ≡ Some found = sym stands.fault ∙ some in
        record {
          place = sym place;
          line = subst (λ n. IsNextLine t (n + 1)) (sym judges.kept.line) adds.next;
          fault = stays ∙ ap (λ x. option_or x (at_line old.line (reason_at f s l))) (sym before) ∙ sym adds.fault;
          keeps = λ n. absurd (none-some found (sym n ∙ stays));
        }

pub stands_next : (f : Facts) (old new : Progress) (q : Place) (l : CertLine) → in_bounds l ≡ true → is_plain l ≡ true → follows old.place l ≡ Some q → Judges f old new l → (s : State) → Stands f old s → Takes f (step s l) (behind new q) true
stands_next f old new q l b pl comes judges s stands = go (step s l) refl
  where
    counts : option_map place_of (step s l) ≡ Some q
    counts = step_counts s l ∙ ap (λ p. follows p l) (sym stands.place) ∙ comes

    go : (o : Option State) → step s l ≡ o → Takes f o (behind new q) true
    go None e = absurd (none-some q (ap (option_map place_of) (sym e) ∙ counts))
    go (Some t) e = (refl, stands_at f old new q s l t b pl stands judges e (same_Some (place_of t) q (ap (option_map place_of) (sym e) ∙ counts)))

-- a line that may not come
pub stands_stops : (f : Facts) (old new : Progress) (l : CertLine) → follows old.place l ≡ None → (s : State) → Stands f old s → Takes f (step s l) new false
stands_stops f old new l stops s stands = go (step s l) refl
  where
    counts : option_map place_of (step s l) ≡ None
    counts = step_counts s l ∙ ap (λ p. follows p l) (sym stands.place) ∙ stops

    go : (o : Option State) → step s l ≡ o → Takes f o new false
    go None e = refl
    go (Some t) e = absurd (none-some (place_of t) (sym counts ∙ ap (option_map place_of) e))
