-- A leaf that closes caps every choice that follows its fixing.
use Rattle.std.proofs.Common.{ℕ, ◌≡◌, ◌<◌, arith, refl, sym, ◌∙◌, ap, Bool, true, false, not, ◌&&◌, List, [], ◌∷◌, inl, inr, length}
use Rattle.std.specs.Prelude.{if◌then◌else◌, ℤ, pos, ◌+ℤ◌, ◌*ℤ◌, ◌-ℤ◌, ◌≤ℤ◌, ◌<ℤ◌, ◌==◌, nat_lt, nat_le, int_le, int_lt, Option, Some, None, is_some}
use Rattle.std.specs.List.{list_all, list_any}
use Rattle.std.proofs.lemmas.Int.{ints}
use Rattle.std.proofs.lemmas.Bool.{and_parts, and_from, not-true, not_from_false, or_parts, or_cases, cases_eq, eq-eqb, eqb-true, ne_eqb, ltb-true, leb-true, true≢false, cases_Bool, and_cases}
use Rattle.std.proofs.Math.IntN.{zero-*ℤ}
use Rattle.numbers.specs.Algebra.{*ℤ-≤ℤ}
use Rattle.numbers.specs.Below.{any_below, none_below}
use Rattle.numbers.specs.Sums.{picked, value, total, member, sum_below-same, sum_below-le, sum_below-zero, value-+ℤ, value-*ℤ, value-member, at_most_one}
use Rattle.duality.specs.declared.row.RowName.{RowName}
use Rattle.duality.specs.declared.row.RowName.TheVariants.{Base, Cut, Level}
use Rattle.duality.specs.declared.row.Term.{Term}
use Rattle.duality.specs.declared.leaf.Leaf.{Leaf}
use Rattle.duality.specs.Packing.{Packing, Weights, Stage, Fixing, coefficient, right_side, is_there, has_sign, is_free, as_number, floor_weight, floor_number, floor_level, cut_at, target_of, AreCliques, IsPacking, meets_floor, Meets, Follows, IsFixing}
use Rattle.duality.specs.Sums.{is_clique}
use Rattle.duality.specs.Leaf.{priced, worth, reduced, term_fits, costs, left_side, is_under, closes, IsCapped}

pub int_le-true : (a b : ℤ) → int_le a b ≡ true → a ≤ℤ b
int_le-true a b h = grind (arith, ints)

pub int_lt-true : (a b : ℤ) → int_lt a b ≡ true → a <ℤ b
int_lt-true a b h = grind (arith, ints)

pub int_lt-false : (a b : ℤ) → int_lt a b ≡ false → b ≤ℤ a
int_lt-false a b h = grind (arith, ints)

-- ---- rows

picked_one : (a b : Bool) → picked a (as_number b) ≡ picked (a && b) (pos 1)
picked_one true b = refl
picked_one false b = refl

picked_none : (b : Bool) → picked b (pos 0) ≡ pos 0
picked_none true = refl
picked_none false = refl

-- a choice takes at most one pattern of a clique
clique_row : (k : Packing) (has mem : ℕ → Bool) → IsPacking k has → ((p q : ℕ) → p < q → q < k.count → mem p ≡ true → mem q ≡ true → k.clash p q ≡ true) → value has (λ p. as_number (mem p)) k.count ≤ℤ pos 1
clique_row k has mem packs clique =
    let same = sum_below-same (λ p. picked (has p) (as_number (mem p))) (λ p. picked (has p && mem p) (pos 1)) k.count (λ i l. picked_one (has i) (mem i)) in
    let one = at_most_one (λ p. has p && mem p) k.count (λ p q l m a b.
    let a2 = and_parts (has p) (mem p) a in
    let b2 = and_parts (has q) (mem q) b in
    true≢false (sym (clique p q l m a2.1 b2.1) ∙ packs.apart p q (omega arith) m (λ e. absurd (omega arith)) a2.0 b2.0)) in
    omega (arith, ints)

-- a choice takes at most one pattern of a base row or cut
pub row_met : (k : Packing) (w : Weights) (s : Stage) (has : ℕ → Bool) (row : RowName) → AreCliques k s.cuts → IsPacking k has → is_there k w s row ≡ true → is_clique row ≡ true
    → value has (coefficient k w s row) k.count ≤ℤ pos 1
row_met k w s has (Base r) cliques packs there is = clique_row k has (k.in_base r) packs (λ p q l m. cliques.base r p q (ltb-true r k.base_len there) l m)
row_met k w s has (Cut c) cliques packs there is = clique_row k has (λ p. member p (cut_at s c)) packs (λ p q l m. cliques.cut c p q (ltb-true c (length s.cuts) there) l m)
row_met k w s has (Level j) cliques packs there is = absurd (true≢false (sym is))

value-neg : (has : ℕ → Bool) (f : ℕ → ℤ) (n : ℕ) → value has (λ p. pos 0 -ℤ f p) n ≡ pos 0 -ℤ value has f n
value-neg has f n =
    let none : value has (λ p. pos 0) n ≡ pos 0 = sum_below-zero (λ p. picked (has p) (pos 0)) n (λ i l. picked_none (has i)) in
    let both = value-+ℤ has (λ p. pos 0 -ℤ f p) f n in
    let zero_each = sum_below-same (λ p. picked (has p) ((pos 0 -ℤ f p) +ℤ f p)) (λ p. picked (has p) (pos 0)) n (λ i l. ap (picked (has i)) (omega (arith, ints))) in
    omega (arith, ints)

floor_row : (k : Packing) (has : ℕ → Bool) (floor : Option ((ℕ → ℤ) × ℤ)) → meets_floor k has floor ≡ true → value has (λ p. pos 0 -ℤ floor_weight floor p) k.count ≤ℤ (pos 0 -ℤ floor_number floor)
floor_row k has None h = omega (arith, ints, value-neg has (λ p. pos 0) k.count)
floor_row k has (Some f) h = omega (arith, ints, value-neg has f.0 k.count, int_le-true f.1 (value has f.0 k.count) h)

-- a level row is an equation, and the floor's row says "at most"
level_bound : (k : Packing) (w : Weights) (s : Stage) (has : ℕ → Bool) → Meets k w s has → (j : ℕ) (times : ℤ) → (is_there k w s (Level j) && has_sign (Level j) times) ≡ true
    → (times *ℤ value has (coefficient k w s (Level j)) k.count) ≤ℤ (times *ℤ right_side w s (Level j))
level_bound k w s has meets j times h = go (j == floor_level) h
  where
    go : (b : Bool) → ((if b then is_some w.floor else nat_le 1 j && nat_lt j s.level) && (if b then int_le (pos 0) times else true)) ≡ true
        → (times *ℤ value has (λ p. if b then pos 0 -ℤ floor_weight w.floor p else w.weight j p) k.count) ≤ℤ (times *ℤ (if b then pos 0 -ℤ floor_number w.floor else target_of s.targets j))
    go true h =
        let parts = and_parts (is_some w.floor) (int_le (pos 0) times) h in
        *ℤ-≤ℤ times _ _ (int_le-true (pos 0) times parts.1) (floor_row k has w.floor meets.floor)
    go false h =
        let parts = and_parts (nat_le 1 j && nat_lt j s.level) true h in
        let range = and_parts (nat_le 1 j) (nat_lt j s.level) parts.0 in
        let same = meets.targets j (leb-true 1 j range.0) (ltb-true j s.level range.1) in
        omega (arith, ints, ap (λ x. times *ℤ x) same)

-- one term: what it costs the choice is at most what it is worth
term_bound : (k : Packing) (w : Weights) (s : Stage) (has : ℕ → Bool) → AreCliques k s.cuts → IsPacking k has → Meets k w s has → (row : RowName) (times : ℤ) → (is_there k w s row && has_sign row times) ≡ true
    → (times *ℤ value has (coefficient k w s row) k.count) ≤ℤ (times *ℤ right_side w s row)
term_bound k w s has cliques packs meets (Base r) times h =
    let parts = and_parts (nat_lt r k.base_len) (int_le (pos 0) times) h in
    *ℤ-≤ℤ times _ _ (int_le-true (pos 0) times parts.1) (clique_row k has (k.in_base r) packs (λ p q l m. cliques.base r p q (ltb-true r k.base_len parts.0) l m))
term_bound k w s has cliques packs meets (Cut c) times h =
    let parts = and_parts (nat_lt c (length s.cuts)) (int_le (pos 0) times) h in
    *ℤ-≤ℤ times _ _ (int_le-true (pos 0) times parts.1) (clique_row k has (λ p. member p (cut_at s c)) packs (λ p q l m. cliques.cut c p q (ltb-true c (length s.cuts) parts.0) l m))
term_bound k w s has cliques packs meets (Level j) times h = level_bound k w s has meets j times h

value-none : (has : ℕ → Bool) (n : ℕ) → value has (λ p. pos 0) n ≡ pos 0
value-none has n = sum_below-zero (λ p. picked (has p) (pos 0)) n (λ i l. picked_none (has i))

-- all terms
priced_bound : (k : Packing) (w : Weights) (s : Stage) (has : ℕ → Bool) → AreCliques k s.cuts → IsPacking k has → Meets k w s has → (terms : List Term) → list_all (term_fits k w s) terms ≡ true
    → value has (priced k w s terms) k.count ≤ℤ worth w s terms
priced_bound k w s has cliques packs meets [] h = omega (arith, ints, value-none has k.count)
priced_bound k w s has cliques packs meets (t ∷ ts) h =
    let parts = and_parts (term_fits k w s t) (list_all (term_fits k w s) ts) h in
    let rest = priced_bound k w s has cliques packs meets ts parts.1 in
    let here = term_bound k w s has cliques packs meets t.row t.times parts.0 in
    let split = value-+ℤ has (λ p. t.times *ℤ coefficient k w s t.row p) (priced k w s ts) k.count in
    let out = value-*ℤ has t.times (coefficient k w s t.row) k.count in
    omega (arith, ints)

-- ---- the fixing

member_has : (has : ℕ → Bool) (p : ℕ) (ps : List ℕ) → list_all has ps ≡ true → member p ps ≡ true → has p ≡ true
member_has has p [] all h = absurd (true≢false (sym h))
member_has has p (q ∷ qs) all h =
    let parts = and_parts (has q) (list_all has qs) all in
    elim (or_cases (q == p) (member p qs) h) [
      | inl same ↦ ap has (sym (eqb-true q p same)) ∙ parts.0
      | inr later ↦ member_has has p qs parts.1 later
    ]

member_zero : (has : ℕ → Bool) (p : ℕ) (ps : List ℕ) → list_any has ps ≡ false → has p ≡ true → member p ps ≡ false
member_zero has p [] none h = refl
member_zero has p (q ∷ qs) none h =
    let parts = or_parts (has q) (list_any has qs) none in
    elim (cases_eq q p) [
      | inl same ↦ absurd (true≢false (sym h ∙ ap has (sym same) ∙ parts.0))
      | inr ne ↦ rw (ne_eqb q p ne) (member_zero has p qs parts.1 h)
    ]

none_clash : (k : Packing) (has : ℕ → Bool) (p : ℕ) (ps : List ℕ) → IsPacking k has → p < k.count → has p ≡ true → list_all has ps ≡ true → list_all (λ q. nat_lt q k.count) ps ≡ true → member p ps ≡ false → list_any (k.clash p) ps ≡ false
none_clash k has p [] packs l h all known not_in = refl
none_clash k has p (q ∷ qs) packs l h all known not_in =
    let a = and_parts (has q) (list_all has qs) all in
    let b = and_parts (nat_lt q k.count) (list_all (λ q. nat_lt q k.count) qs) known in
    let c = or_parts (q == p) (member p qs) not_in in
    let here : k.clash p q ≡ false = packs.apart p q l (ltb-true q k.count b.0) (λ e. true≢false (sym (eq-eqb q p (sym e)) ∙ c.0)) h a.0 in
    rw here (none_clash k has p qs packs l h a.1 b.1 c.1)

-- a pattern that is chosen is free, or one of the ones
chosen_is_free : (k : Packing) (f : Fixing) (has : ℕ → Bool) (p : ℕ) → IsPacking k has → IsFixing k f → Follows f has → p < k.count → has p ≡ true → member p f.one ≡ false → is_free k f p ≡ true
chosen_is_free k f has p packs fixes follows l h not_in =
    and_from (not (member p f.zero)) _ (not_from_false _ (member_zero has p f.zero follows.zero h))
    (and_from (not (member p f.one)) _ (not_from_false _ not_in)
    (not_from_false _ (none_clash k has p f.one packs l h follows.one fixes.known not_in)))

-- so what the choice's reduced weights sum to is at most what those of the ones do
reduced_bound : (k : Packing) (f : Fixing) (has : ℕ → Bool) (rc : ℕ → ℤ) → IsPacking k has → IsFixing k f → Follows f has
    → any_below (λ p. is_free k f p && int_lt (pos 0) (rc p)) k.count ≡ false → value has rc k.count ≤ℤ total rc f.one
reduced_bound k f has rc packs fixes follows none =
    let same = value-member rc f.one k.count fixes.differ fixes.known in
    let each : (i : ℕ) → i < k.count → picked (has i) (rc i) ≤ℤ picked (member i f.one) (rc i) = λ i l.
    elim (cases_Bool (member i f.one)) [
      | inl within ↦ rw (within, member_has has i f.one follows.one within) (omega (arith, ints))
      | inr outside ↦ elim (cases_Bool (has i)) [
        | inl h ↦
            let free = chosen_is_free k f has i packs fixes follows l h outside in
            let low : int_lt (pos 0) (rc i) ≡ false = elim (and_cases (is_free k f i) (int_lt (pos 0) (rc i)) (none_below (λ p. is_free k f p && int_lt (pos 0) (rc p)) i k.count none l)) [
              | inl not_free ↦ absurd (true≢false (sym free ∙ not_free))
              | inr low ↦ low
            ] in
            rw (h, outside) (int_lt-false (pos 0) (rc i) low)
        | inr h ↦ rw (h, outside) (omega (arith, ints))
      ]
    ] in
    let le = sum_below-le (λ p. picked (has p) (rc p)) (λ p. picked (member p f.one) (rc p)) k.count each in
    omega (arith, ints)

-- ---- weak duality

capped : (best : Option ℤ) (scale left w : ℤ) → pos 0 ≤ℤ scale → (scale *ℤ w) ≤ℤ left → is_under best scale left ≡ true → IsCapped best w
capped (Some v) scale left w k h under =
    let low = int_lt-true left (scale *ℤ (v +ℤ pos 1)) under in
    elim (cases_Bool (int_lt v w)) [
      | inl more ↦
          let high : (v +ℤ pos 1) ≤ℤ w = omega (arith, ints, int_lt-true v w more) in
          absurd (omega (arith, ints, *ℤ-≤ℤ scale (v +ℤ pos 1) w k high, low, h))
      | inr less ↦ int_lt-false v w less
    ]
capped None scale left w k h under =
    let parts = and_parts (int_le scale (pos 0)) (int_lt left (pos 0)) under in
    let none : scale ≡ pos 0 = omega (arith, ints, int_le-true scale (pos 0) parts.0) in
    omega (arith, ints, ap (λ x. x *ℤ w) none, zero-*ℤ w, int_lt-true left (pos 0) parts.1)

-- what the choice is worth, scaled, is at most the left side
leaf_bound : (k : Packing) (w : Weights) (s : Stage) (f : Fixing) (leaf : Leaf) (has : ℕ → Bool)
    → AreCliques k s.cuts → IsFixing k f → closes k w s f leaf ≡ true
    → IsPacking k has → Meets k w s has → Follows f has
    → (leaf.scale *ℤ value has (w.weight s.level) k.count) ≤ℤ left_side k w s f leaf
leaf_bound k w s f leaf has cliques fixes closed packs meets follows =
    let parts = and_parts (list_all (term_fits k w s) leaf.terms) (not (any_below (costs k w s f leaf) k.count) && is_under s.best leaf.scale (left_side k w s f leaf)) closed in
    let later = and_parts (not (any_below (costs k w s f leaf) k.count)) (is_under s.best leaf.scale (left_side k w s f leaf)) parts.1 in
    let rc = reduced k w s leaf in
    let n = k.count in
    let weigh = w.weight s.level in
    let price = priced k w s leaf.terms in
    let dear = priced_bound k w s has cliques packs meets leaf.terms parts.0 in
    let low = reduced_bound k f has rc packs fixes follows (not-true _ later.0) in
    let split = value-+ℤ has rc price n in
    let back = sum_below-same (λ p. picked (has p) (rc p +ℤ price p)) (λ p. picked (has p) (leaf.scale *ℤ weigh p)) n (λ i l. ap (picked (has i)) (omega (arith, ints))) in
    let out = value-*ℤ has leaf.scale weigh n in
    omega (arith, ints)

under : (k : Packing) (w : Weights) (s : Stage) (f : Fixing) (leaf : Leaf) → closes k w s f leaf ≡ true → is_under s.best leaf.scale (left_side k w s f leaf) ≡ true
under k w s f leaf closed =
    (and_parts (not (any_below (costs k w s f leaf) k.count)) (is_under s.best leaf.scale (left_side k w s f leaf))
    (and_parts (list_all (term_fits k w s) leaf.terms) (not (any_below (costs k w s f leaf) k.count) && is_under s.best leaf.scale (left_side k w s f leaf)) closed).1).1

pub leaf_caps : (k : Packing) (w : Weights) (s : Stage) (f : Fixing) (leaf : Leaf) (has : ℕ → Bool)
    → AreCliques k s.cuts → IsFixing k f → pos 0 ≤ℤ leaf.scale → closes k w s f leaf ≡ true
    → IsPacking k has → Meets k w s has → Follows f has
    → IsCapped s.best (value has (w.weight s.level) k.count)
leaf_caps k w s f leaf has cliques fixes scaled closed packs meets follows =
    capped s.best leaf.scale (left_side k w s f leaf) (value has (w.weight s.level) k.count) scaled (leaf_bound k w s f leaf has cliques fixes closed packs meets follows) (under k w s f leaf closed)

emptied : (best : Option ℤ) (scale left w : ℤ) → scale ≡ pos 0 → (scale *ℤ w) ≤ℤ left → is_under best scale left ≡ true → ⊥
emptied (Some v) scale left w e h under =
    omega (arith, ints, h, ap (λ x. x *ℤ w) e, zero-*ℤ w, ap (λ x. x *ℤ (v +ℤ pos 1)) e, zero-*ℤ (v +ℤ pos 1), int_lt-true left (scale *ℤ (v +ℤ pos 1)) under)
emptied None scale left w e h under =
    omega (arith, ints, h, ap (λ x. x *ℤ w) e, zero-*ℤ w, int_lt-true left (pos 0) (and_parts (int_le scale (pos 0)) (int_lt left (pos 0)) under).1)

-- at scale 0 no choice is left
pub leaf_empties : (k : Packing) (w : Weights) (s : Stage) (f : Fixing) (leaf : Leaf) (has : ℕ → Bool)
    → AreCliques k s.cuts → IsFixing k f → leaf.scale ≡ pos 0 → closes k w s f leaf ≡ true
    → IsPacking k has → Meets k w s has → Follows f has → ⊥
leaf_empties k w s f leaf has cliques fixes none closed packs meets follows =
    emptied s.best leaf.scale (left_side k w s f leaf) (value has (w.weight s.level) k.count) none (leaf_bound k w s f leaf has cliques fixes closed packs meets follows) (under k w s f leaf closed)
