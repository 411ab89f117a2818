-- What the tests of a guess show.
use Rattle.std.proofs.Common.{ℕ, ◌≡◌, ◌≤◌, ◌<◌, ◌+◌, arith, refl, sym, ◌∙◌, ap, subst, Bool, true, false, not, ◌&&◌, ◌||◌, List, [], ◌∷◌, length, get_or, map, inl, inr}
use Rattle.std.specs.Prelude.{ℤ, pos, ◌*◌, ◌+ℤ◌, ◌-ℤ◌, ◌*ℤ◌, ◌≤ℤ◌, ◌<ℤ◌, ◌==◌, ◌^◌, nat_lt, nat_le, int_le, int_lt, Option, Some, None, Ok, is_ok}
use Rattle.std.specs.List.{list_all, list_any}
use Rattle.std.specs.Ordering.{int_eq}
use Rattle.std.proofs.lemmas.Int.{ints}
use Rattle.std.proofs.lemmas.Bool.{cases_Bool, and_parts, and_from, or_parts, eqb-true, not-true, leb-true, ltb-true, true≢false}
use Rattle.std.proofs.lemmas.Bool.Decides.{Decides-int_eq}
use mir.Syntax.{w64, w128}
use mir.Val.{to_z, of_z}
use Rattle.std.proofs.Math.IntN.{zero-*ℤ}
use Rattle.numbers.specs.Algebra.{nonneg_product, -ℤ-*ℤ}
use Rattle.numbers.specs.Sums.{member, total}
use Rattle.exact_num.specs.Arith.{Rose}
use Rattle.problem_core.specs.Facts.{Facts}
use Rattle.duality.specs.declared.leaf.Leaf.{Leaf}
use Rattle.duality.specs.declared.leaf.LeafFault.{LeafFault}
use Rattle.duality.specs.Packing.{Packing, Weights, Stage, Fixing, is_free, floor_weight, floor_number}
use Rattle.duality.specs.Leaf.{closes, leaf_fault}
use Rattle.duality.specs.Sums.{rises, are_small, IsWithin}
use Rattle.duality.specs.Tree.{ends_at}
use Rattle.duality.proofs.FaultLaws.{faultless_closes}
use Rattle.packing_model.specs.Nodes.{ok_unless}
use Rattle.packing_model.specs.declared.point.Point.{Point}
use Rattle.packing_model.specs.Rising.{is_rising}
use Rattle.search_nodes.specs.Leaves.{IsFineLeaf}
use Rattle.search_nodes.specs.Points.{IsAbove, IsGapPoint, IsPointOf, ReachesFloor, entry_of, is_part, sum_at}
use Rattle.search_nodes.proofs.PointLaws.{point_sums}
use Rattle.node_bound.specs.Bounds.{Bounds}
use Rattle.node_bound.specs.Exact.{BoundsExactly, Shows, since}
use Rattle.node_bound.specs.Guessed.{AreEntries, AreFew, HasTargets, IsBeside, KeepsRows, entry_sum, has_all, is_den, is_fine_leaf, is_point, is_scale, keeps_fixing, may_stand, no_zero}
use Rattle.node_bound.specs.declared.bounded.Bounded.{Bounded}
use Rattle.node_bound.specs.declared.bounded.Bounded.TheVariants.{Closed, Better, Gap, Wide, Stalled}
use Rattle.node_bound.proofs.SolveLaws.{shown_bounds, exactly_bounds}

-- ---- answers

pub shows_bounds : (p : Facts) (w : Weights) (s : Stage) (f : Fixing) (wides wides' steps steps' : ℕ) (bounded : Bounded) → Shows p w s f bounded → Bounds p w s f wides wides' steps steps' bounded
shows_bounds p w s f wides wides' steps steps' bounded h = exactly_bounds p w s f wides wides' steps steps' bounded (shown_bounds p w s f wides wides' steps steps' bounded h)

earlier : (wides mid after : ℕ) → wides ≤ mid → Rose mid after → Rose wides after
earlier wides mid after l h = record { later = omega (arith, l, h.later); rose = omega (arith, l, h.rose) }

-- an answer after the count rose is one from the count before
pub since_bounds : (p : Facts) (w : Weights) (s : Stage) (f : Fixing) (wides mid wides' steps steps' : ℕ) (bounded : Bounded) → wides ≤ mid → BoundsExactly p w s f mid wides' steps steps' bounded → Bounds p w s f wides wides' steps steps' (since wides bounded)
since_bounds p w s f wides mid wides' steps steps' (Closed leaf) l h = h
since_bounds p w s f wides mid wides' steps steps' (Better a) l h = h
since_bounds p w s f wides mid wides' steps steps' (Gap x) l h = h
since_bounds p w s f wides mid wides' steps steps' (Wide before after) l h = (refl, h.1, earlier wides mid after l (subst (λ n. Rose n after) h.0 h.2), h.3)
since_bounds p w s f wides mid wides' steps steps' (Stalled pivots) l h = exactly_bounds p w s f wides wides' steps steps' (Stalled pivots) h

-- ---- leaves

pub fine_is : (leaf : Leaf) → is_fine_leaf leaf ≡ true → IsFineLeaf leaf × (pos 0 ≤ℤ leaf.scale)
fine_is leaf h =
    let a = and_parts (is_scale leaf.scale) (rises leaf.terms && (are_small leaf.terms && no_zero leaf.terms)) h in
    let b = and_parts (rises leaf.terms) (are_small leaf.terms && no_zero leaf.terms) a.1 in
    let c = and_parts (are_small leaf.terms) (no_zero leaf.terms) b.1 in
    let d = and_parts (int_le (pos 0) leaf.scale) _ a.0 in
    (record { small_scale = d.1; rising = b.0; small = c.0; no_zero = not-true _ c.1 }, grind (arith, ints, d.0))

ok_none : (fault : Option LeafFault) → is_ok (ok_unless fault) ≡ true → fault ≡ None
ok_none None h = refl
ok_none (Some x) h = absurd (true≢false (sym h))

pub leaf_ends : (k : Packing) (w : Weights) (s : Stage) (f : Fixing) (leaf : Leaf) → is_fine_leaf leaf ≡ true → is_ok (ok_unless (leaf_fault k w s f leaf)) ≡ true → (ends_at k w s f leaf ≡ true) × IsFineLeaf leaf
leaf_ends k w s f leaf fine h =
    let a = and_parts (is_scale leaf.scale) (rises leaf.terms && (are_small leaf.terms && no_zero leaf.terms)) fine in
    let d = and_parts (int_le (pos 0) leaf.scale) _ a.0 in
    (and_from (int_le (pos 0) leaf.scale) (closes k w s f leaf) d.0 (faultless_closes k w s f leaf (ok_none (leaf_fault k w s f leaf) h)), (fine_is leaf fine).0)

-- ---- points

le_is : (a b : ℤ) → int_le a b ≡ true → a ≤ℤ b
le_is a b h = grind (arith, ints)

lt_is : (a b : ℤ) → int_lt a b ≡ true → a <ℤ b
lt_is a b h = grind (arith, ints)

pub point_is : (k : Packing) (x : Point) → is_point k.count x ≡ true → AreFew k x
point_is k x h =
    let known : Bool = list_all (λ (e : ℕ × ℤ). nat_lt e.0 k.count) x.entries in
    let parts : Bool = list_all (is_part x.den) x.entries in
    let rising : Bool = is_rising (map (λ (e : ℕ × ℤ). e.0) x.entries) in
    let a = and_parts (nat_le (length x.entries) 100000) (is_den x.den && (rising && (known && parts))) h in
    let b = and_parts (is_den x.den) (rising && (known && parts)) a.1 in
    let c = and_parts rising (known && parts) b.1 in
    let d = and_parts known parts c.1 in
    let e = and_parts (int_lt (pos 0) x.den) (int_le x.den (pos (10 ^ 24))) b.0 in
    record {
      point = record { positive = lt_is (pos 0) x.den e.0; small = le_is x.den (pos (10 ^ 24)) e.1; rising = c.0; known = d.0; parts = d.1 };
      few = leb-true (length x.entries) 100000 a.0;
    }

part_small : (den : ℤ) (e : ℕ × ℤ) → den ≤ℤ pos (10 ^ 24) → is_part den e ≡ true → is_part (pos (10 ^ 24)) e ≡ true
part_small den e l h =
    let a = and_parts (int_lt (pos 0) e.1) (int_le e.1 den) h in
    let m = le_is e.1 den a.1 in
    and_from (int_lt (pos 0) e.1) (int_le e.1 (pos (10 ^ 24))) a.0 (le_true e.1 (pos (10 ^ 24)) (omega (arith, ints, m, l)))
  where
    le_true : (a b : ℤ) → a ≤ℤ b → int_le a b ≡ true
    le_true a b h = grind (arith, ints)

parts_small : (den : ℤ) (es : List (ℕ × ℤ)) → den ≤ℤ pos (10 ^ 24) → list_all (is_part den) es ≡ true → list_all (is_part (pos (10 ^ 24))) es ≡ true
parts_small den [] l h = refl
parts_small den (e ∷ es) l h =
    let a = and_parts (is_part den e) (list_all (is_part den) es) h in
    and_from (is_part (pos (10 ^ 24)) e) (list_all (is_part (pos (10 ^ 24))) es) (part_small den e l a.0) (parts_small den es l a.1)

pub entries_are : (k : Packing) (count : ℕ) (x : Point) → count ≡ k.count → AreFew k x → AreEntries count x.entries
entries_are k count x e are = record {
  few = are.few;
  known = subst (λ n. list_all (λ (y : ℕ × ℤ). nat_lt y.0 n) x.entries ≡ true) (sym e) are.point.known;
  parts = parts_small x.den x.entries are.point.small are.point.parts;
}

-- the size of an entry
pub entry_small : (e : ℕ × ℤ) → is_part (pos (10 ^ 24)) e ≡ true → (pos 0 ≤ℤ e.1) × (e.1 ≤ℤ pos (10 ^ 24))
entry_small e h =
    let a = and_parts (int_lt (pos 0) e.1) (int_le e.1 (pos (10 ^ 24))) h in
    let m = lt_is (pos 0) e.1 a.0 in
    (omega (arith, ints, m), le_is e.1 (pos (10 ^ 24)) a.1)

pub sum_is : (k : Packing) (x : Point) (g : ℕ → ℤ) → AreFew k x → sum_at k g x ≡ entry_sum g x.entries
sum_is k x g are = point_sums k x g are.point

none_is : (k : Packing) (f : Fixing) (es : List (ℕ × ℤ)) (p : ℕ) → list_all (may_stand k f) es ≡ true → member p f.one ≡ false → is_free k f p ≡ false → entry_of es p ≡ pos 0
none_is k f [] p h out bound = refl
none_is k f (e ∷ es) p h out bound =
    let a = and_parts (may_stand k f e) (list_all (may_stand k f) es) h in
    elim (cases_Bool (e.0 == p)) [
      | inl here ↦
          let same = eqb-true e.0 p here in
          let none : may_stand k f e ≡ false = ap (λ q. member q f.one || is_free k f q) same ∙ ap (λ b. b || is_free k f p) out ∙ bound in
          absurd (true≢false (sym a.0 ∙ none))
      | inr other ↦ rw other (none_is k f es p a.1 out bound)
    ]

taken_is : (x : Point) (ps : List ℕ) (p : ℕ) → list_all (has_all x) ps ≡ true → member p ps ≡ true → entry_of x.entries p ≡ x.den
taken_is x [] p h m = absurd (true≢false (sym m))
taken_is x (q ∷ qs) p h m =
    let a = and_parts (has_all x q) (list_all (has_all x) qs) h in
    elim (cases_Bool (q == p)) [
      | inl here ↦ ap (entry_of x.entries) (sym (eqb-true q p here)) ∙ (Decides-int_eq (entry_of x.entries q) x.den).0 a.0
      | inr other ↦ taken_is x qs p a.1 (sym (ap (λ b. b || member p qs) other) ∙ m)
    ]

pub gap_is : (k : Packing) (w : Weights) (s : Stage) (f : Fixing) (x : Point) → AreFew k x → IsBeside k w s f x → KeepsRows k s x → IsGapPoint k w s f x
gap_is k w s f x are beside rows =
    let fixing = and_parts (list_all (has_all x) f.one) (list_all (may_stand k f) x.entries) beside.fixing in
    record {
      point = are.point;
      taken = λ p m. taken_is x f.one p fixing.0 m;
      none = λ p l out bound. none_is k f x.entries p fixing.1 out bound;
      base = rows.base;
      cuts = rows.cuts;
      targets = λ j low high. sum_is k x (w.weight j) are ∙ beside.targets j low high;
      floor = beside.floor;
      value = beside.value;
      in_part = beside.in_part;
    }

-- ---- sums of weights

negated_sum : (g : ℕ → ℤ) (es : List (ℕ × ℤ)) → entry_sum (λ p. pos 0 -ℤ g p) es ≡ pos 0 -ℤ entry_sum g es
negated_sum g [] = refl
negated_sum g (e ∷ es) = omega (arith, ints, negated_sum g es, negated (g e.0) e.1)
  where
    negated : (a b : ℤ) → (pos 0 -ℤ a) *ℤ b ≡ pos 0 -ℤ (a *ℤ b)
    negated a b = omega (arith, ints, -ℤ-*ℤ (pos 0) a b, zero-*ℤ b)

pub floor_is : (k : Packing) (floor : Option ((ℕ → ℤ) × ℤ)) (x : Point) (sum least : ℤ) → AreFew k x → sum ≡ entry_sum (λ p. pos 0 -ℤ floor_weight floor p) x.entries → least ≡ x.den *ℤ floor_number floor → int_le sum (pos 0 -ℤ least) ≡ true → ReachesFloor k floor x
floor_is k None x sum least are e l h = tt
floor_is k (Some y) x sum least are e l h =
    let m = le_is sum (pos 0 -ℤ least) h in
    omega (arith, ints, m, e, l, negated_sum y.0 x.entries, sum_is k x y.0 are)

pub above_is : (k : Packing) (x : Point) (g : ℕ → ℤ) (v least sum : ℤ) → AreFew k x → least ≡ x.den *ℤ (v +ℤ pos 1) → sum ≡ entry_sum g x.entries → int_le least sum ≡ true → IsAbove (Some v) x.den (sum_at k g x)
above_is k x g v least sum are l e h =
    let m = le_is least sum h in
    omega (arith, ints, m, l, e, sum_is k x g are)

-- ---- numbers of the type

-- a number that is far from the ends of the type
pub plain_is : (z : ℤ) → IsWithin (10 ^ 38) z → to_z w128 (of_z w128 z) ≡ z
plain_is z h = omega (arith, ints, h.low, h.high)

pub smaller_within : (n m : ℕ) (z : ℤ) → n ≤ m → IsWithin n z → IsWithin m z
smaller_within n m z l h = record { low = omega (arith, ints, l, h.low); high = omega (arith, ints, l, h.high) }

pub den_within : (k : Packing) (x : Point) → AreFew k x → IsWithin (10 ^ 24) x.den
den_within k x are = record { low = omega (arith, ints, are.point.positive); high = are.point.small }

pub next_is : (v n : ℤ) → IsWithin (10 ^ 12) v → n ≡ to_z w64 (of_z w64 v) +ℤ pos 1 → n ≡ v +ℤ pos 1
next_is v n h e = omega (arith, ints, h.low, h.high, e)

pub next_within : (v n : ℤ) → IsWithin (10 ^ 12) v → n ≡ v +ℤ pos 1 → IsWithin (4 * 10 ^ 12) n
next_within v n h e = record { low = omega (arith, ints, h.low, e); high = omega (arith, ints, h.high, e) }
