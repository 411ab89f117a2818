-- The patterns that are taken, where no other is free.
use Rattle.std.proofs.Common.{ℕ, ◌≡◌, ◌<◌, ◌≤◌, ◌-◌, ◌*◌, ◌^◌, arith, refl, sym, ◌∙◌, ap, subst, Bool, true, false, ◌&&◌, List, [], ◌∷◌, length, inl, inr}
use Rattle.std.specs.Prelude.{ℤ, pos, negsuc, ◌+ℤ◌, ◌-ℤ◌, ◌*ℤ◌, ◌≤ℤ◌, ◌<ℤ◌, ◌⊎◌, ◌==◌, nat_lt, nat_le, int_le, int_lt, if◌then◌else◌, Option, Some, None, is_some}
use Rattle.std.specs.List.{list_all}
use Rattle.std.specs.Ordering.{int_eq}
use Rattle.std.proofs.lemmas.Int.{ints}
use Rattle.std.proofs.lemmas.Bool.{and_from, true≢false, lt-ltb, ne_eqb, le-leb}
use Rattle.std.proofs.Math.IntN.{zero-*ℤ}
use Rattle.std.proofs.lemmas.Bool.Decides.{Decides-int_eq}
use mir.Syntax.{w64}
use mir.Val.{to_z, of_z}
use Rattle.duality.specs.Sums.{IsWithin}
use Rattle.numbers.specs.Below.{any_below, none_below, first_from}
use Rattle.problem_core.specs.Below.{none_passes, any_below_none}
use Rattle.numbers.proofs.TotalLaws.{total-neg, total-same}
use Rattle.numbers.specs.Sums.{total, member, distinct, value, picked, sum_below-same, value-member}
use Rattle.problem_core.specs.Facts.{Facts}
use Rattle.problem_core.specs.Choice.{IsLegal}
use Rattle.meeting_patterns.specs.Pattern.{patterns_of}
use Rattle.duality.specs.declared.row.RowName.TheVariants.{Level}
use Rattle.duality.specs.declared.row.Term.{Term}
use Rattle.duality.specs.Packing.{Packing, Weights, Stage, Fixing, right_side, level_coefficient, is_there, has_sign, is_free, floor_weight, floor_number, floor_level, target_of, meets_floor}
use Rattle.duality.specs.Leaf.{term_fits}
use Rattle.duality.specs.Tree.{ends_at}
use Rattle.meeting_patterns.specs.Made.{AreClashless}
use Rattle.packing_model.specs.Built.{packing}
use Rattle.packing_model.specs.Nodes.{IsValidFixing}
use Rattle.packing_model.specs.declared.fixing.Fixing.{Fixing as TakenOut}
use Rattle.packing_model.proofs.NodeLemmas.{known_at}
use Rattle.packing_model.specs.Closing.{choice_of}
use Rattle.search_nodes.specs.Leaves.{IsFineLeaf}
use Rattle.search_nodes.specs.Choices.{IsHeld, IsMore, weighs}
use Rattle.node_bound.specs.Bounds.{has_free}
use Rattle.node_bound.specs.Duals.{side_left, IsShort}
use Rattle.clique_cuts.specs.Better.{MeetsAll, ReachesFloor}
use Rattle.node_bound.specs.Fixed.{IsMiss, is_at_most}
use Rattle.node_bound.proofs.DualLaws.{dual_closes}

le_true : (a b : ℤ) → a ≤ℤ b → int_le a b ≡ true
le_true a b h = grind (arith, ints)

lt_from : (a b : ℤ) → int_le a b ≡ false → b <ℤ a
lt_from a b h = grind (arith, ints)

le_from : (a b : ℤ) → int_le a b ≡ true → a ≤ℤ b
le_from a b h = grind (arith, ints)

pub reaches : (floor : Option ((ℕ → ℤ) × ℤ)) (one : List ℕ) (weight : ℤ) → weight ≡ total (λ p. pos 0 -ℤ floor_weight floor p) one → weight ≤ℤ (pos 0 -ℤ floor_number floor) → ReachesFloor floor one
reaches None one weight e h = tt
reaches (Some x) one weight e h = omega (arith, ints, total-neg x.0 one, e)

pub floor_miss : (k : Packing) (w : Weights) (s : Stage) (f : Fixing) (weight : ℤ) → is_some w.floor ≡ true → weight ≡ total (λ p. pos 0 -ℤ floor_weight w.floor p) f.one → (pos 0 -ℤ floor_number w.floor) <ℤ weight
    → IsMiss k w s f (record { row = Level 7; times = pos 1 })
floor_miss k w s f weight some e h = record { there = some; sign = refl; one = inl refl; short = omega (arith, ints, e) }

pub target_miss : (k : Packing) (w : Weights) (s : Stage) (f : Fixing) (j : ℕ) → 1 ≤ j → j < s.level → s.level ≤ 7 → total (w.weight j) f.one <ℤ target_of s.targets j → IsMiss k w s f (record { row = Level j; times = negsuc 0 })
target_miss k w s f j low below few less =
    let other : (j == floor_level) ≡ false = ne_eqb j floor_level (λ e. absurd (omega arith)) in
    let same : total (level_coefficient w j) f.one ≡ total (w.weight j) f.one = total-same (level_coefficient w j) (w.weight j) f.one (λ p. ap (λ b. if b then pos 0 -ℤ floor_weight w.floor p else w.weight j p) other) in
    let side : right_side w s (Level j) ≡ target_of s.targets j = ap (λ b. if b then pos 0 -ℤ floor_number w.floor else target_of s.targets j) other in
    record {
      there = ap (λ b. if b then is_some w.floor else nat_le 1 j && nat_lt j s.level) other ∙ and_from (nat_le 1 j) (nat_lt j s.level) (le-leb 1 j low) (lt-ltb j s.level below);
      sign = ap (λ b. if b then int_le (pos 0) (negsuc 0) else true) other;
      one = inr refl;
      short = omega (arith, ints, same, side);
    }

no_cover : (k : Packing) (f : Fixing) → has_free k f ≡ false → (p : ℕ) → p < k.count → is_free k f p ≡ true → ⊥
no_cover k f none p l free = true≢false (sym free ∙ none_below (is_free k f) p k.count none l)

pub miss_closes : (k : Packing) (w : Weights) (s : Stage) (f : Fixing) (t : Term) → has_free k f ≡ false → IsMiss k w s f t → ends_at k w s f (record { scale = pos 0; terms = t ∷ [] }) ≡ true
miss_closes k w s f t none miss =
    let worth = t.times *ℤ side_left k w s f t.row in
    dual_closes k w s f (record { scale = pos 0; terms = t ∷ [] }) (t ∷ []) worth
    (record { not_negative = omega (arith, ints); fits = fits; covers = λ p l free. absurd (no_cover k f none p l free); worth_is = omega (arith, ints) })
    (record { same = λ g. refl }) fits (short s.best worth (total (w.weight s.level) f.one) miss.short)
  where
    fits : list_all (term_fits k w s) (t ∷ []) ≡ true
    fits = and_from (term_fits k w s t) true (and_from (is_there k w s t.row) (has_sign t.row t.times) miss.there miss.sign) refl

    short : (best : Option ℤ) (worth taken : ℤ) → worth <ℤ pos 0 → IsShort best (pos 0) worth taken
    short (Some v) worth taken h = omega (arith, ints, zero-*ℤ taken, zero-*ℤ (v +ℤ pos 1))
    short None worth taken h = (refl, h)

pub fine_term : (t : Term) → (t.times ≡ pos 1) ⊎ (t.times ≡ negsuc 0) → IsFineLeaf (record { scale = pos 0; terms = t ∷ [] })
fine_term t (inl e) = record { small_scale = refl; rising = refl; small = rw e refl; no_zero = rw e refl }
fine_term t (inr e) = record { small_scale = refl; rising = refl; small = rw e refl; no_zero = rw e refl }

pub plain_closes : (k : Packing) (w : Weights) (s : Stage) (f : Fixing) (weight : ℤ) → has_free k f ≡ false → weight ≡ total (w.weight s.level) f.one → is_at_most weight s.best ≡ true → ends_at k w s f (record { scale = pos 1; terms = [] }) ≡ true
plain_closes k w s f weight none e most =
    dual_closes k w s f (record { scale = pos 1; terms = [] }) [] (pos 0)
    (record { not_negative = omega (arith, ints); fits = refl; covers = λ p l free. absurd (no_cover k f none p l free); worth_is = refl })
    (record { same = λ g. refl }) refl (short s.best most)
  where
    one_times : (x : ℤ) → pos 1 *ℤ x ≡ x
    one_times x = omega (arith, ints)

    short : (best : Option ℤ) → is_at_most weight best ≡ true → IsShort best (pos 1) (pos 0) (total (w.weight s.level) f.one)
    short None h = absurd (true≢false (sym h))
    short (Some v) h = omega (arith, ints, one_times (total (w.weight s.level) f.one), one_times (v +ℤ pos 1), le_from weight v h, e)

pub fine_plain : IsFineLeaf (record { scale = pos 1; terms = [] })
fine_plain = record { small_scale = refl; rising = refl; small = refl; no_zero = refl }

pub is_better : (x : ℤ) (best : Option ℤ) → is_at_most x best ≡ false → IsMore best x
is_better x None h = tt
is_better x (Some v) h = lt_from x v h

-- the choice that the taken patterns make weighs what they weigh
made_weighs : (p : Facts) (one a : List ℕ) (f : ℕ → ℤ) → distinct one ≡ true → list_all (λ q. nat_lt q (packing p).count) one ≡ true → ((i : ℕ) → i < (packing p).count → choice_of p a i ≡ member i one)
    → value (choice_of p a) f (packing p).count ≡ total f one
made_weighs p one a f d b back =
    sum_below-same (λ i. picked (choice_of p a i) (f i)) (λ i. picked (member i one) (f i)) (packing p).count (λ i l. ap (λ x. picked x (f i)) (back i l))
    ∙ value-member f one (packing p).count d b

pub made_held : (p : Facts) (w : Weights) (s : Stage) (one a : List ℕ) → distinct one ≡ true → list_all (λ q. nat_lt q (packing p).count) one ≡ true → ((i : ℕ) → i < (packing p).count → choice_of p a i ≡ member i one)
    → IsLegal p a → MeetsAll w s.level s.targets one → IsHeld p w s.level s.targets a
made_held p w s one a d b back legal meets = record {
  legal = legal;
  targets_met = λ j low high. made_weighs p one a (w.weight j) d b back ∙ meets.has_targets j low high;
  floor = go w.floor meets.floor;
}
  where
    go : (floor : Option ((ℕ → ℤ) × ℤ)) → ReachesFloor floor one → meets_floor (packing p) (choice_of p a) floor ≡ true
    go None h = refl
    go (Some x) h = le_true x.1 (value (choice_of p a) x.0 (packing p).count) (omega (arith, ints, made_weighs p one a x.0 d b back))

pub made_more : (p : Facts) (w : Weights) (level : ℕ) (best : Option ℤ) (one a : List ℕ) (weight : ℤ) → distinct one ≡ true → list_all (λ q. nat_lt q (packing p).count) one ≡ true → ((i : ℕ) → i < (packing p).count → choice_of p a i ≡ member i one)
    → weight ≡ total (w.weight level) one → is_at_most weight best ≡ false → IsMore best (weighs p w level a)
made_more p w level best one a weight d b back e h = subst (IsMore best) (e ∙ sym (made_weighs p one a (w.weight level) d b back)) (is_better weight best h)

pub plain : (z : ℤ) → IsWithin (4000 * 10 ^ 9) z → to_z w64 (of_z w64 z) ≡ z
plain z h = omega (arith, ints, h.low, h.high)

pub plain_value : (z : ℤ) → IsWithin (10 ^ 12) z → to_z w64 (of_z w64 z) ≡ z
plain_value z h = omega (arith, ints, h.low, h.high)

pub target_hit : (k : Packing) (w : Weights) (s : Stage) (f : Fixing) (j : ℕ) → 1 ≤ j → j < s.level → s.level ≤ 7 → target_of s.targets j <ℤ total (w.weight j) f.one → IsMiss k w s f (record { row = Level j; times = pos 1 })
target_hit k w s f j low below few more =
    let other : (j == floor_level) ≡ false = ne_eqb j floor_level (λ e. absurd (omega arith)) in
    let same : total (level_coefficient w j) f.one ≡ total (w.weight j) f.one = total-same (level_coefficient w j) (w.weight j) f.one (λ p. ap (λ b. if b then pos 0 -ℤ floor_weight w.floor p else w.weight j p) other) in
    let side : right_side w s (Level j) ≡ target_of s.targets j = ap (λ b. if b then pos 0 -ℤ floor_number w.floor else target_of s.targets j) other in
    record {
      there = ap (λ b. if b then is_some w.floor else nat_le 1 j && nat_lt j s.level) other ∙ and_from (nat_le 1 j) (nat_lt j s.level) (le-leb 1 j low) (lt-ltb j s.level below);
      sign = ap (λ b. if b then int_le (pos 0) (pos 1) else true) other;
      one = inl refl;
      short = omega (arith, ints, same, side);
    }

pub decided : (a b : ℤ) → int_eq a b ≡ false → int_lt b a ≡ false → a <ℤ b
decided a b h k = grind (arith, ints)

pub less_is : (a b : ℤ) → int_lt a b ≡ true → a <ℤ b
less_is a b h = grind (arith, ints)

pub le_is : (a b : ℤ) → int_le a b ≡ true → a ≤ℤ b
le_is a b h = grind (arith, ints)

pub le_not : (a b : ℤ) → int_le a b ≡ false → b <ℤ a
le_not a b h = grind (arith, ints)

pub equal_is : (a b : ℤ) → int_eq a b ≡ true → a ≡ b
equal_is a b h = (Decides-int_eq a b).0 h

-- patterns that differ and do not clash are few
pub few_taken : (p : Facts) (f : TakenOut) → length p.events ≤ 4000 → ((list : List ℕ) → AreClashless p (patterns_of p) list → length list ≤ length p.events) → IsValidFixing (packing p) f → length f.one ≤ 4000
few_taken p f few each fixing =
    let free : AreClashless p (patterns_of p) f.one = record { known = λ j l. known_at (length (patterns_of p)) f.one j fixing.of_packing.one l; differ = fixing.differ; apart = fixing.apart } in
    omega (arith, each f.one free, few)

-- where the walk over the patterns came to its end, none is free
pub none_at_end : (test : ℕ → Bool) (n r : ℕ) → first_from test 0 n ≡ first_from test r (n - r) → n ≤ r → any_below test n ≡ false
none_at_end test n r e l =
    let gone : n - r ≡ 0 = omega arith in
    any_below_none test n (λ k m. none_passes test 0 n k (e ∙ ap (first_from test r) gone) (omega arith) (omega arith))
