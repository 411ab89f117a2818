-- Reasons of the lines before the levels.
use Rattle.std.proofs.Common.{ℕ, ◌≡◌, ◌<◌, ◌∙◌, ◌&&◌, arith, refl, sym, ap, subst, not, Bool, true, false, inl, inr, List, [], ◌∷◌, length, get_or, zero, suc}
use Rattle.std.specs.Prelude.{ℤ, pos, negsuc, ◌≤ℤ◌, ◌^◌, nat_le, nat_lt, Option, Some, None, Result, Ok, Err, if◌then◌else◌, ◌↔◌, slice_index_or}
use Rattle.std.specs.List.{list_all, AllByRecursion}
use Rattle.std.proofs.lemmas.Int.{ints}
use Rattle.std.proofs.lemmas.Option.{none-some}
use Rattle.std.specs.Ordering.{int_eq}
use Rattle.std.proofs.lemmas.Bool.{cases_Bool, not_from_false, and_parts, and_from, both_ways, leb-true, true≢false}
use Rattle.std.proofs.lemmas.Bool.Decides.{Decides-int_eq}
use Rattle.numbers.specs.Below.{any_below, any_below_at}
use Rattle.problem_core.specs.Facts.{Facts}
use Rattle.problem_core.specs.Choice.{IsLegal}
use Rattle.problem_core.specs.Kept.{IsWithin as KeptWithin}
use Rattle.problem_core.specs.Measures.{measures, differ_at}
use mir.Syntax.{w64}
use mir.Val.{of_z}
use Rattle.cert_checker.specs.declared.verdict.Reason.TheVariants as reasons
use Rattle.duality.specs.declared.row.Term.{Term}
use Rattle.duality.specs.declared.leaf.Leaf.{Leaf}
use Rattle.duality.specs.declared.leaf.LeafFault.{LeafFault}
use Rattle.duality.specs.declared.leaf.Node.{Node as SearchNode}
use Rattle.duality.specs.declared.leaf.Node.TheVariants.{Branch, Leaf as Closing, OpenEnd, Same}
use Rattle.duality.specs.Sums.{are_small, is_small, rises, IsWithin}
use Rattle.cert_text.specs.declared.lines.CertLine.TheVariants as lines
use Rattle.packing_model.specs.Rising.{rises_from, is_rising}
use Rattle.packing_model.specs.Cuts.{IsCutList}
use Rattle.cert_text.specs.Spelling.{in_bounds, rises_above, is_rising as is_rising_line, leaf_in_bounds, scale_in_bounds, term_in_bounds, row_in_bounds, is_zero}
use Rattle.cert_text.specs.Sharing.{is_plain}
use Rattle.cert_checker.specs.declared.verdict.Reason.{Reason}
use Rattle.packing_model.specs.Nodes.{ok_unless}
use Rattle.cert_checker.specs.Faults.{unknown_reason, is_legal, choice_reason, values_reason, leaf_reason}
use Rattle.cert_checker.specs.Trees.{IsLeafWithin, IsNodeWithin}
use Rattle.cert_checker.specs.Progresses.{IsProgress, IsJudged}
use Rattle.cert_checker.specs.declared.progress.Progress.{Progress}
use Rattle.cert_checker.proofs.ValidLaws.{legal_is, legal_from, unknown_clean}
use Rattle.cert_checker.proofs.FaultLaws.{clean}

differs : (a b : List ℤ) (k : ℕ) → (of_z w64 (get_or a k (pos 0)) ≡ of_z w64 (get_or b k (pos 0)) → ⊥) → differ_at a b k ≡ true
differs a b k h = elim (cases_Bool (int_eq (get_or a k (pos 0)) (get_or b k (pos 0)))) [
  | inl same ↦ absurd (h (ap (of_z w64) ((Decides-int_eq (get_or a k (pos 0)) (get_or b k (pos 0))).0 same)))
  | inr differ ↦ not_from_false (int_eq (get_or a k (pos 0)) (get_or b k (pos 0))) differ
]

pub some_differs : (m vs : List ℤ) (k : ℕ) → k < 6 → (of_z w64 (get_or vs k (pos 0)) ≡ of_z w64 (get_or m k (pos 0)) → ⊥) → Some reasons.Values ≡ values_reason m vs
some_differs m vs k l h = sym (ap (λ b. if b then Some reasons.Values else None) (any_below_at (differ_at vs m) k 6 l (differs vs m k h)))

pub none_differs : (m vs : List ℤ) (n : ℕ) → n ≡ 6 → any_below (differ_at vs m) n ≡ false → None ≡ values_reason m vs
none_differs m vs n e h = sym (ap (λ b. if b then Some reasons.Values else None) (subst (λ k. any_below (differ_at vs m) k ≡ false) e h))

-- ---- a node of the text is within the bounds of a node

terms_small : (ts : List Term) → list_all term_in_bounds ts ≡ true → are_small ts ≡ true
terms_small [] h = refl
terms_small (t ∷ ts) h =
    let parts = and_parts (term_in_bounds t) (list_all term_in_bounds ts) h in
    let here = and_parts (row_in_bounds t.row) (not (is_zero t.times) && is_small (10 ^ 24) t.times) parts.0 in
    let times = and_parts (not (is_zero t.times)) (is_small (10 ^ 24) t.times) here.1 in
    and_from (is_small (10 ^ 24) t.times) (are_small ts) times.1 (terms_small ts parts.1)

not_negative : (z : ℤ) → scale_in_bounds z ≡ true → pos 0 ≤ℤ z
not_negative (pos n) h = omega (arith, ints)
not_negative (negsuc n) h = absurd (true≢false (sym h))

small_scale : (z : ℤ) → scale_in_bounds z ≡ true → is_small (10 ^ 24) z ≡ true
small_scale (pos n) h = h
small_scale (negsuc n) h = absurd (true≢false (sym h))

leaf_within : (leaf : Leaf) → leaf_in_bounds leaf ≡ true → IsLeafWithin leaf
leaf_within leaf h =
    let parts = and_parts (scale_in_bounds leaf.scale) (nat_le (length leaf.terms) 5005 && (list_all term_in_bounds leaf.terms && rises leaf.terms)) h in
    let few = and_parts (nat_le (length leaf.terms) 5005) (list_all term_in_bounds leaf.terms && rises leaf.terms) parts.1 in
    let terms = and_parts (list_all term_in_bounds leaf.terms) (rises leaf.terms) few.1 in
    record { scale = not_negative leaf.scale parts.0; small_scale = small_scale leaf.scale parts.0; rising = terms.1; small = terms_small leaf.terms terms.0 }

pub node_within : (n : SearchNode) → in_bounds (lines.Node n) ≡ true → is_plain (lines.Node n) ≡ true → IsNodeWithin n
node_within (Branch p) h e = tt
node_within (Closing leaf) h e = leaf_within leaf h
node_within OpenEnd h e = tt
node_within (Same q) h e = absurd (true≢false (sym e))

-- a leaf that does not close
abbrev fault_in : Result (Unit {0}) LeafFault → Option LeafFault
fault_in (Ok u) = None
fault_in (Err fault) = Some fault

back : (o : Option LeafFault) → fault_in (ok_unless o) ≡ o
back None = refl
back (Some fault) = refl

pub leaf_at_fault : (fault : LeafFault) (o : Option LeafFault) (r : Reason) → Err fault ≡ ok_unless o → Some r ≡ leaf_reason (Some fault) → Some r ≡ leaf_reason o
leaf_at_fault fault o r h e = e ∙ ap leaf_reason (ap fault_in h ∙ back o)

-- ---- the choice

pub not_legal : (f : Facts) (a : List ℕ) (b : Bool) → (b ≡ true ↔ IsLegal f a) → b ≡ false → Some reasons.Choice ≡ choice_reason f a
not_legal f a b h n = elim (cases_Bool (is_legal f a)) [
  | inl legal ↦ absurd (both_ways b n (h.1 (legal_is f a legal)))
  | inr other ↦ sym (ap (λ x. if x then None else Some reasons.Choice) other)
]

pub is_legal_choice : (f : Facts) (a : List ℕ) → IsLegal f a → None ≡ choice_reason f a
is_legal_choice f a legal = sym (ap (λ x. if x then None else Some reasons.Choice) (legal_from f a legal))

pub all_within : (xs : List ℤ) → AllByRecursion (KeptWithin (pos 192000000000)) xs → (i : ℕ) → i < length xs → IsWithin (10 ^ 12) (slice_index_or xs i (pos 0))
all_within [] h i l = absurd (omega arith)
all_within (x ∷ xs) h zero l = record { low = omega (arith, ints, h.0.low); high = omega (arith, ints, h.0.high) }
all_within (x ∷ xs) h (suc i) l = all_within xs h.1 i (omega arith)

-- a choice that is not legal
pub judged_illegal : (f : Facts) (p : Progress) (a : List ℕ) → IsProgress f p → Some reasons.Choice ≡ choice_reason f a → IsJudged f p p (lines.Choice a) (Some reasons.Choice)
judged_illegal f p a kept is = record {
  is = is;
  kept = record { place = refl; line = refl; room = omega arith; pool = kept.pool; six = kept.six; small = kept.small; walk = kept.walk };
  fault = refl;
  added = λ e. absurd (none-some reasons.Choice (sym e));
}

-- a choice that is legal, and its measures
pub judged_legal : (f : Facts) (p : Progress) (a : List ℕ) (values : List ℤ) → IsProgress f p → IsLegal f a → values ≡ measures f a → AllByRecursion (KeptWithin (pos 192000000000)) values
    → IsJudged f p (record { place = p.place; line = p.line; measures = values; pool = p.pool; walk = p.walk; fault = p.fault }) (lines.Choice a) None
judged_legal f p a values kept legal e small =
    let six : length values ≡ 6 = ap length e in
    record {
      is = is_legal_choice f a legal;
      kept = record { place = refl; line = refl; room = omega arith; pool = kept.pool; six = six; small = λ i l. all_within values small i (omega arith); walk = kept.walk };
      fault = refl;
      added = λ n. record { pool = refl; measures = e; path = refl };
    }

-- ---- cuts

rises_same : (p : ℕ) (ps : List ℕ) → rises_above p ps ≡ rises_from p ps
rises_same p [] = refl
rises_same p (q ∷ qs) = ap (λ b. nat_lt p q && b) (rises_same q qs)

rising_same : (ps : List ℕ) → is_rising_line ps ≡ is_rising ps
rising_same [] = refl
rising_same (p ∷ ps) = rises_same p ps

pub cut_list : (count : ℕ) (ps : List ℕ) → in_bounds (lines.Cut ps) ≡ true → None ≡ unknown_reason count ps → IsCutList count ps
cut_list count ps h e =
    let some = and_parts (nat_le 2 (length ps)) (nat_le (length ps) 1000 && (list_all (λ p. nat_le p 199999) ps && is_rising_line ps)) h in
    let few = and_parts (nat_le (length ps) 1000) (list_all (λ p. nat_le p 199999) ps && is_rising_line ps) some.1 in
    let rest = and_parts (list_all (λ p. nat_le p 199999) ps) (is_rising_line ps) few.1 in
    record { some = leb-true 2 (length ps) some.0; few = leb-true (length ps) 1000 few.0; rising = sym (rising_same ps) ∙ rest.1; known = sym (unknown_clean count ps) ∙ ap clean (sym e) }
