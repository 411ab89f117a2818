-- The places of rows: each place has one row, and each row one place.
use Rattle.std.proofs.Common.{ℕ, ◌≡◌, ◌+◌, ◌-◌, ◌<◌, ◌≤◌, arith, refl, sym, ◌∙◌, ap, ap₂, zero, suc, Bool, true, false, not, ◌&&◌, ◌||◌, List, [], ◌∷◌, ◌++◌, length, get_or, inl, inr}
use Rattle.std.specs.Prelude.{ℤ, pos, ◌+ℤ◌, ◌==◌, nat_lt, nat_le, if◌then◌else◌, Option, Some, None, is_some}
use Rattle.std.proofs.lemmas.Int.{ints}
use Rattle.std.proofs.lemmas.Bool.{and_parts, and_from, not-true, not_from_false, eq-eqb, ne_eqb, eqb-true, lt-ltb, ltb-true, leb-true, le-leb, true≢false, cases_eq, cases_lt, cases_Bool}
use Rattle.std.proofs.lemmas.List.{length-append, get_or_append_left, get_or-append_right, append_assoc}
use Rattle.numbers.specs.Sums.{picked}
use Rattle.duality.specs.declared.row.RowName.{RowName}
use Rattle.duality.specs.declared.row.RowName.TheVariants.{Base, Cut, Level}
use Rattle.duality.specs.Packing.{Packing, Weights, Stage, coefficient, floor_level, level_coefficient}
use Rattle.duality.specs.Sums.{same_row, member_row, distinct_rows, AreRowsOf}
use Rattle.duality.proofs.PricedLaws.{same_row-is}
use Rattle.packing_model.proofs.CutLemmas.{member_row-append, distinct_rows-append}
use Rattle.node_bound.specs.Tasks.{stretch, names_of, floor_names, name_at}
use Rattle.node_bound.specs.Places.{is_placed, base_place, level_place, place_of, floor_count, row_count, stretch_from, later_row, names_in, level_names, IsLayout, AreOf, hits, put_total, row_number}
use Rattle.node_bound.specs.declared.places.Places.{Places}

-- ---- stretches of rows

pub length-stretch : (name : ℕ → RowName) (from n : ℕ) → length (stretch name from n) ≡ n
length-stretch name from zero = refl
length-stretch name from (suc n) = ap suc (length-stretch name (suc from) n)

stretch-at : (name : ℕ → RowName) (from n i : ℕ) (d : RowName) → i < n → get_or (stretch name from n) i d ≡ name (from + i)
stretch-at name from zero i d l = absurd (omega (arith, l))
stretch-at name from (suc n) zero d l = ap name (omega arith)
stretch-at name from (suc n) (suc i) d l = stretch-at name (suc from) n i d (omega (arith, l)) ∙ ap name (omega arith)

pub stretch-more : (name : ℕ → RowName) (from n : ℕ) → stretch name from (suc n) ≡ stretch name from n ++ name (from + n) ∷ []
stretch-more name from zero = ap (λ x. name x ∷ []) (omega arith)
stretch-more name from (suc n) = ap (λ xs. name from ∷ xs) (stretch-more name (suc from) n ∙ ap (λ x. stretch name (suc from) n ++ name x ∷ []) (omega arith))

in_stretch : (name : ℕ → RowName) (from n i : ℕ) (ys : List RowName) (d : RowName) → i < n → get_or (stretch name from n ++ ys) i d ≡ name (from + i)
in_stretch name from n i ys d l = get_or_append_left (stretch name from n) ys d i (omega (arith, l, length-stretch name from n)) ∙ stretch-at name from n i d l

past_stretch : (name : ℕ → RowName) (from n i : ℕ) (ys : List RowName) (d : RowName) → n ≤ i → get_or (stretch name from n ++ ys) i d ≡ get_or ys (i - n) d
past_stretch name from n i ys d l = get_or-append_right (stretch name from n) ys n i d (length-stretch name from n) l

pub from_more : (first : RowName) (n : ℕ) → stretch_from first (n + 1) ≡ stretch_from first n ++ later_row first n ∷ []
from_more (Base r) n = let e : n + 1 ≡ suc n = omega arith in ap (stretch Base r) e ∙ stretch-more Base r n
from_more (Cut c) n = let e : n + 1 ≡ suc n = omega arith in ap (stretch Cut c) e ∙ stretch-more Cut c n
from_more (Level j) n = let e : n + 1 ≡ suc n = omega arith in ap (stretch Level j) e ∙ stretch-more Level j n

regroup : (a b c d e f : List RowName) → a ++ b ++ c ++ d ++ e ++ f ≡ a ++ (b ++ (c ++ (d ++ (e ++ f))))
regroup a b c d e f = simp append_assoc refl

-- ---- the names and their places

module _ (v : Places) (layout : IsLayout v) where
  abbrev others : ℕ
  others = v.base - v.lead

  abbrev high : ℕ
  high = (v.level - 1) - v.low

  abbrev floors : List RowName
  floors = stretch Level floor_level (floor_count v.has_floor)

  abbrev after_cuts : List RowName
  after_cuts = stretch Level (v.low + 1) high ++ floors

  abbrev after_others : List RowName
  after_others = stretch Cut 0 v.cuts ++ after_cuts

  abbrev after_low : List RowName
  after_low = stretch Base v.lead others ++ after_others

  abbrev after_lead : List RowName
  after_lead = stretch Level 1 v.low ++ after_low

  nested : names_in v ≡ stretch Base 0 v.lead ++ after_lead
  nested = regroup (stretch Base 0 v.lead) (stretch Level 1 v.low) (stretch Base v.lead others) (stretch Cut 0 v.cuts) (stretch Level (v.low + 1) high) floors

  pub length-names : length (names_in v) ≡ row_count v
  length-names =
      let a : length (names_in v) ≡ length (stretch Base 0 v.lead) + length after_lead = ap length nested ∙ length-append (stretch Base 0 v.lead) after_lead in
      let b = length-append (stretch Level 1 v.low) after_low in
      let c = length-append (stretch Base v.lead others) after_others in
      let d = length-append (stretch Cut 0 v.cuts) after_cuts in
      let e = length-append (stretch Level (v.low + 1) high) floors in
      omega (arith, a, b, c, d, e, length-stretch Base 0 v.lead, length-stretch Level 1 v.low, length-stretch Base v.lead others, length-stretch Cut 0 v.cuts, length-stretch Level (v.low + 1) high, length-stretch Level floor_level (floor_count v.has_floor), layout.lead, layout.one, layout.low)

  -- what stands behind each stretch
  at_lead : (i : ℕ) → i < v.lead → name_at (names_in v) i ≡ Base i
  at_lead i l = ap (λ xs. get_or xs i (Base 0)) nested ∙ in_stretch Base 0 v.lead i after_lead (Base 0) l ∙ ap Base (omega arith)

  past_lead : (i : ℕ) → v.lead ≤ i → name_at (names_in v) i ≡ get_or after_lead (i - v.lead) (Base 0)
  past_lead i l = ap (λ xs. get_or xs i (Base 0)) nested ∙ past_stretch Base 0 v.lead i after_lead (Base 0) l

  at_low : (i : ℕ) → v.lead ≤ i → i < v.lead + v.low → name_at (names_in v) i ≡ Level (1 + (i - v.lead))
  at_low i l m = past_lead i l ∙ in_stretch Level 1 v.low (i - v.lead) after_low (Base 0) (omega (arith, l, m))

  past_low : (i : ℕ) → v.lead + v.low ≤ i → name_at (names_in v) i ≡ get_or after_low (i - v.lead - v.low) (Base 0)
  past_low i l = past_lead i (omega (arith, l)) ∙ past_stretch Level 1 v.low (i - v.lead) after_low (Base 0) (omega (arith, l))

  at_others : (i : ℕ) → v.lead + v.low ≤ i → i < v.base + v.low → name_at (names_in v) i ≡ Base (i - v.low)
  at_others i l m =
      past_low i l ∙ in_stretch Base v.lead others (i - v.lead - v.low) after_others (Base 0) (omega (arith, l, m, layout.lead)) ∙ ap Base (omega (arith, l, m))

  past_others : (i : ℕ) → v.base + v.low ≤ i → name_at (names_in v) i ≡ get_or after_others (i - v.lead - v.low - others) (Base 0)
  past_others i l = past_low i (omega (arith, l, layout.lead)) ∙ past_stretch Base v.lead others (i - v.lead - v.low) after_others (Base 0) (omega (arith, l, layout.lead))

  at_cuts : (i : ℕ) → v.base + v.low ≤ i → i < v.base + v.low + v.cuts → name_at (names_in v) i ≡ Cut (i - (v.base + v.low))
  at_cuts i l m =
      past_others i l ∙ in_stretch Cut 0 v.cuts (i - v.lead - v.low - others) after_cuts (Base 0) (omega (arith, l, m, layout.lead)) ∙ ap Cut (omega (arith, l, m, layout.lead))

  past_cuts : (i : ℕ) → v.base + v.low + v.cuts ≤ i → name_at (names_in v) i ≡ get_or after_cuts (i - v.lead - v.low - others - v.cuts) (Base 0)
  past_cuts i l = past_others i (omega (arith, l)) ∙ past_stretch Cut 0 v.cuts (i - v.lead - v.low - others) after_cuts (Base 0) (omega (arith, l, layout.lead))

  at_high : (i : ℕ) → v.base + v.low + v.cuts ≤ i → i < v.base + v.cuts + (v.level - 1) → name_at (names_in v) i ≡ Level (i - (v.base + v.cuts) + 1)
  at_high i l m =
      past_cuts i l ∙ in_stretch Level (v.low + 1) high (i - v.lead - v.low - others - v.cuts) floors (Base 0) (omega (arith, l, m, layout.lead, layout.low)) ∙ ap Level (omega (arith, l, m, layout.lead))

  at_floor : v.has_floor ≡ true → name_at (names_in v) (v.base + v.cuts + (v.level - 1)) ≡ Level floor_level
  at_floor has =
      let i = v.base + v.cuts + (v.level - 1) in
      let first : i - v.lead - v.low - others - v.cuts - high ≡ 0 = omega (arith, layout.lead, layout.low) in
      past_cuts i (omega (arith, layout.low))
      ∙ past_stretch Level (v.low + 1) high (i - v.lead - v.low - others - v.cuts) floors (Base 0) (omega (arith, layout.lead, layout.low))
      ∙ ap (λ n. get_or floors n (Base 0)) first
      ∙ ap (λ b. get_or (stretch Level floor_level (floor_count b)) 0 (Base 0)) has

  -- the row of a place
  pub record HasRow (i : ℕ) : Type 0 where
    pub row : RowName
    pub is : name_at (names_in v) i ≡ row
    pub placed : is_placed v row ≡ true
    pub place : place_of v row ≡ i

  base_below : (r : ℕ) → r < v.lead → base_place v r ≡ r
  base_below r l = rw (lt-ltb r v.lead l) refl

  not_lt : (a b : ℕ) → b ≤ a → nat_lt a b ≡ false
  not_lt a b l = elim (cases_Bool (nat_lt a b)) [ inl h ↦ absurd (omega (arith, l, ltb-true a b h)) | inr h ↦ h ]

  not_le : (a b : ℕ) → b < a → nat_le a b ≡ false
  not_le a b l = elim (cases_Bool (nat_le a b)) [ inl h ↦ absurd (omega (arith, l, leb-true a b h)) | inr h ↦ h ]

  base_above : (r : ℕ) → v.lead ≤ r → base_place v r ≡ r + v.low
  base_above r l = rw (not_lt r v.lead l) refl

  not_floor : (j : ℕ) → j < v.level → (j == floor_level) ≡ false
  not_floor j l = ne_eqb j floor_level (λ e. absurd (omega (arith, l, layout.few_levels, e)))

  level_low : (j : ℕ) → j < v.level → j ≤ v.low → level_place v j ≡ v.lead + (j - 1)
  level_low j l m = rw (not_floor j l, le-leb j v.low m) refl

  level_high : (j : ℕ) → j < v.level → v.low < j → level_place v j ≡ v.base + v.cuts + (j - 1)
  level_high j l m = rw (not_floor j l, not_le j v.low m) refl

  level_placed : (j : ℕ) → 1 ≤ j → j < v.level → is_placed v (Level j) ≡ true
  level_placed j l m = rw (not_floor j m) (and_from (nat_le 1 j) (nat_lt j v.level) (le-leb 1 j l) (lt-ltb j v.level m))

  pub row_of : (i : ℕ) → i < row_count v → HasRow i
  row_of i l = elim (cases_lt i v.lead) [
    | inl m ↦ record { row = Base i; is = at_lead i m; placed = lt-ltb i v.base (omega (arith, m, layout.lead)); place = base_below i m }
    | inr m ↦ elim (cases_lt i (v.lead + v.low)) [
      | inl n ↦
          let j = 1 + (i - v.lead) in
          let below : j < v.level = omega (arith, n, m, layout.low, layout.one) in
          record { row = Level j; is = at_low i m n; placed = level_placed j (omega arith) below; place = level_low j below (omega (arith, m, n)) ∙ omega (arith, m, n) }
      | inr n ↦ elim (cases_lt i (v.base + v.low)) [
        | inl o ↦ record { row = Base (i - v.low); is = at_others i n o; placed = lt-ltb (i - v.low) v.base (omega (arith, n, o)); place = base_above (i - v.low) (omega (arith, n, o)) ∙ omega (arith, n, o) }
        | inr o ↦ elim (cases_lt i (v.base + v.low + v.cuts)) [
          | inl q ↦ record { row = Cut (i - (v.base + v.low)); is = at_cuts i o q; placed = lt-ltb (i - (v.base + v.low)) v.cuts (omega (arith, o, q)); place = omega (arith, o, q) }
          | inr q ↦ elim (cases_lt i (v.base + v.cuts + (v.level - 1))) [
            | inl u ↦
                let j = i - (v.base + v.cuts) + 1 in
                let below : j < v.level = omega (arith, q, u, layout.one) in
                record { row = Level j; is = at_high i q u; placed = level_placed j (omega arith) below; place = level_high j below (omega (arith, q, u)) ∙ omega (arith, q, u) }
            | inr u ↦ elim (cases_Bool v.has_floor) [
              | inl has ↦
                  let e : v.base + v.cuts + (v.level - 1) ≡ i = let k : floor_count v.has_floor ≡ 1 = ap floor_count has in omega (arith, l, u, k) in
                  record { row = Level floor_level; is = ap (name_at (names_in v)) (sym e) ∙ at_floor has; placed = has; place = e }
              | inr none ↦ let k : floor_count v.has_floor ≡ 0 = ap floor_count none in absurd (omega (arith, l, u, k))
            ]
          ]
        ]
      ]
    ]
  ]

  -- the place of a row
  pub record HasPlace (r : RowName) : Type 0 where
    pub below : place_of v r < row_count v
    pub is : name_at (names_in v) (place_of v r) ≡ r

  is_level : (j : ℕ) → (j == floor_level) ≡ false → is_placed v (Level j) ≡ true → (1 ≤ j) × (j < v.level)
  is_level j e h =
      let both : (nat_le 1 j && nat_lt j v.level) ≡ true = sym (ap (λ b. if b then v.has_floor else nat_le 1 j && nat_lt j v.level) e) ∙ h in
      let parts = and_parts (nat_le 1 j) (nat_lt j v.level) both in
      (leb-true 1 j parts.0, ltb-true j v.level parts.1)

  place_level : (j : ℕ) → is_placed v (Level j) ≡ true → HasPlace (Level j)
  place_level j h = elim (cases_eq j floor_level) [
    | inl same ↦
        let has : v.has_floor ≡ true = sym (ap (λ b. if b then v.has_floor else nat_le 1 j && nat_lt j v.level) (eq-eqb j floor_level same)) ∙ h in
        let at : place_of v (Level j) ≡ v.base + v.cuts + (v.level - 1) = rw (eq-eqb j floor_level same) refl in
        let one : floor_count v.has_floor ≡ 1 = ap floor_count has in
        record { below = omega (arith, at, one); is = ap (name_at (names_in v)) at ∙ at_floor has ∙ ap Level (sym same) }
    | inr ne ↦
        let e = ne_eqb j floor_level ne in
        let range = is_level j e h in
        elim (cases_lt v.low j) [
          | inl above ↦
              let at : place_of v (Level j) ≡ v.base + v.cuts + (j - 1) = level_high j range.1 above in
              record {
                below = omega (arith, at, range.0, range.1);
                is = ap (name_at (names_in v)) at ∙ at_high (v.base + v.cuts + (j - 1)) (omega (arith, above)) (omega (arith, range.0, range.1)) ∙ ap Level (omega (arith, range.0));
              }
          | inr low ↦
              let at : place_of v (Level j) ≡ v.lead + (j - 1) = level_low j range.1 low in
              record {
                below = omega (arith, at, range.0, range.1, layout.lead);
                is = ap (name_at (names_in v)) at ∙ at_low (v.lead + (j - 1)) (omega arith) (omega (arith, low, range.0)) ∙ ap Level (omega (arith, range.0));
              }
        ]
  ]

  pub place_is : (r : RowName) → is_placed v r ≡ true → HasPlace r
  place_is (Base r) h = elim (cases_lt r v.lead) [
    | inl m ↦
        let at = base_below r m in
        record { below = omega (arith, at, m, layout.lead); is = ap (name_at (names_in v)) at ∙ at_lead r m }
    | inr m ↦
        let at = base_above r m in
        let known = ltb-true r v.base h in
        record { below = omega (arith, at, known, layout.low); is = ap (name_at (names_in v)) at ∙ at_others (r + v.low) (omega (arith, m)) (omega (arith, known)) ∙ ap Base (omega arith) }
  ]
  place_is (Cut c) h =
      let known = ltb-true c v.cuts h in
      record { below = omega (arith, known, layout.low); is = at_cuts (v.base + v.low + c) (omega arith) (omega (arith, known)) ∙ ap Cut (omega arith) }
  place_is (Level j) h = place_level j h

  -- ---- what is given to a place

  same_row-refl : (r : RowName) → same_row r r ≡ true
  same_row-refl (Base a) = eq-eqb a a refl
  same_row-refl (Cut a) = eq-eqb a a refl
  same_row-refl (Level a) = eq-eqb a a refl

  -- a row has the place of another exactly where it is that row
  pub hits_is : (r : RowName) → is_placed v r ≡ true → (q : RowName) → hits v (place_of v r) q ≡ same_row q r
  hits_is r h q = elim (cases_Bool (same_row q r)) [
    | inl same ↦
        let e : q ≡ r = same_row-is q r same in
        and_from (is_placed v q) (place_of v q == place_of v r) (ap (is_placed v) e ∙ h) (eq-eqb (place_of v q) (place_of v r) (ap (place_of v) e)) ∙ sym same
    | inr other ↦ elim (cases_Bool (hits v (place_of v r) q)) [
      | inr no_hit ↦ no_hit ∙ sym other
      | inl hit ↦
          let parts = and_parts (is_placed v q) (place_of v q == place_of v r) hit in
          let e : q ≡ r = sym (place_is q parts.0).is ∙ ap (name_at (names_in v)) (eqb-true (place_of v q) (place_of v r) parts.1) ∙ (place_is r h).is in
          absurd (true≢false (sym (same_row-refl r) ∙ ap (λ x. same_row x r) (sym e) ∙ other))
    ]
  ]

  put_one : (r : RowName) → is_placed v r ≡ true → (g : RowName → ℤ) (q : RowName) → picked (hits v (place_of v r) q) (g q) ≡ picked (same_row q r) (g r)
  put_one r h g q = elim (cases_Bool (same_row q r)) [
    | inl same ↦ ap (λ b. picked b (g q)) (hits_is r h q) ∙ ap (λ x. picked (same_row q r) (g x)) (same_row-is q r same)
    | inr other ↦ ap (λ b. picked b (g q)) (hits_is r h q ∙ other) ∙ ap (λ b. picked b (g r)) (sym other)
  ]

  -- of different rows a place has what its row gives, where it is among them
  pub put_is : (r : RowName) → is_placed v r ≡ true → (g : RowName → ℤ) (rows : List RowName) → distinct_rows rows ≡ true → put_total v (place_of v r) g rows ≡ picked (member_row r rows) (g r)
  put_is r h g [] d = refl
  put_is r h g (q ∷ qs) d =
      let parts = and_parts (not (member_row q qs)) (distinct_rows qs) d in
      let later = put_is r h g qs parts.1 in
      elim (cases_Bool (same_row q r)) [
        | inl same ↦
            let none : member_row r qs ≡ false = ap (λ x. member_row x qs) (sym (same_row-is q r same)) ∙ not-true (member_row q qs) parts.0 in
            let here : picked (hits v (place_of v r) q) (g q) ≡ g r = put_one r h g q ∙ ap (λ b. picked b (g r)) same in
            let rest : put_total v (place_of v r) g qs ≡ pos 0 = later ∙ ap (λ b. picked b (g r)) none in
            let all : picked (member_row r (q ∷ qs)) (g r) ≡ g r = ap (λ b. picked (b || member_row r qs) (g r)) same in
            omega (arith, ints, here, rest, all)
        | inr other ↦
            let here : picked (hits v (place_of v r) q) (g q) ≡ pos 0 = put_one r h g q ∙ ap (λ b. picked b (g r)) other in
            let all : picked (member_row r (q ∷ qs)) (g r) ≡ picked (member_row r qs) (g r) = ap (λ b. picked (b || member_row r qs) (g r)) other in
            omega (arith, ints, here, later, all)
      ]

-- ---- the level rows among the names

other_kind : (r : RowName) (from n : ℕ) → ((j : ℕ) → same_row (Level j) r ≡ false) → member_row r (stretch Level from n) ≡ false
other_kind r from zero h = refl
other_kind r from (suc n) h = ap₂ (λ a b. a || b) (h from) (other_kind r (suc from) n h)

level_in : (j from n : ℕ) → from ≤ j → j < from + n → member_row (Level j) (stretch Level from n) ≡ true
level_in j from zero l m = absurd (omega (arith, l, m))
level_in j from (suc n) l m = elim (cases_eq from j) [
  | inl same ↦ ap (λ b. b || member_row (Level j) (stretch Level (suc from) n)) (eq-eqb from j same)
  | inr ne ↦ ap₂ (λ a b. a || b) (ne_eqb from j ne) (level_in j (suc from) n (omega (arith, l, ne)) (omega (arith, m)))
]

level_out : (j from n : ℕ) → ((i : ℕ) → from ≤ i → i < from + n → i ≡ j → ⊥) → member_row (Level j) (stretch Level from n) ≡ false
level_out j from zero h = refl
level_out j from (suc n) h = ap₂ (λ a b. a || b) (ne_eqb from j (h from (omega arith) (omega arith))) (level_out j (suc from) n (λ i l m. h i (omega (arith, l)) (omega (arith, m))))

stretch_differs : (from n : ℕ) → distinct_rows (stretch Level from n) ≡ true
stretch_differs from zero = refl
stretch_differs from (suc n) =
    and_from (not (member_row (Level from) (stretch Level (suc from) n))) (distinct_rows (stretch Level (suc from) n))
    (not_from_false (member_row (Level from) (stretch Level (suc from) n)) (level_out from (suc from) n (λ i l m e. absurd (omega (arith, l, e)))))
    (stretch_differs (suc from) n)

apart_kinds : (v : Places) → v.level ≤ 7 → (q : RowName) → member_row q (stretch Level 1 (v.level - 1)) ≡ true → member_row q (stretch Level floor_level (floor_count v.has_floor)) ≡ false
apart_kinds v few (Base r) h = other_kind (Base r) floor_level (floor_count v.has_floor) (λ j. refl)
apart_kinds v few (Cut c) h = other_kind (Cut c) floor_level (floor_count v.has_floor) (λ j. refl)
apart_kinds v few (Level j) h = level_out j floor_level (floor_count v.has_floor) (λ i l m e. absurd (true≢false (sym h ∙ level_out j 1 (v.level - 1) (λ k a b d. absurd (omega (arith, few, l, e, a, b, d))))))

pub levels_differ : (v : Places) → IsLayout v → distinct_rows (level_names v) ≡ true
levels_differ v layout =
    distinct_rows-append (stretch Level 1 (v.level - 1)) (stretch Level floor_level (floor_count v.has_floor)) (stretch_differs 1 (v.level - 1)) (stretch_differs floor_level (floor_count v.has_floor)) (apart_kinds v layout.few_levels)

no_level : (v : Places) (r : RowName) → ((j : ℕ) → same_row (Level j) r ≡ false) → member_row r (level_names v) ≡ false
no_level v r h =
    member_row-append r (stretch Level 1 (v.level - 1)) (stretch Level floor_level (floor_count v.has_floor))
    ∙ ap₂ (λ a b. a || b) (other_kind r 1 (v.level - 1) h) (other_kind r floor_level (floor_count v.has_floor) h)

or_true : (a : Bool) → (a || true) ≡ true
or_true true = refl
or_true false = refl

has_level : (v : Places) → IsLayout v → (j : ℕ) → is_placed v (Level j) ≡ true → member_row (Level j) (level_names v) ≡ true
has_level v layout j h =
    member_row-append (Level j) (stretch Level 1 (v.level - 1)) (stretch Level floor_level (floor_count v.has_floor)) ∙ elim (cases_eq j floor_level) [
      | inl same ↦
          let has : v.has_floor ≡ true = sym (ap (λ b. if b then v.has_floor else nat_le 1 j && nat_lt j v.level) (eq-eqb j floor_level same)) ∙ h in
          let one : floor_count v.has_floor ≡ 1 = ap floor_count has in
          ap (λ b. member_row (Level j) (stretch Level 1 (v.level - 1)) || b) (level_in j floor_level (floor_count v.has_floor) (omega (arith, same)) (omega (arith, same, one))) ∙ or_true _
      | inr ne ↦
          let range = is_level v layout j (ne_eqb j floor_level ne) h in
          ap (λ b. b || member_row (Level j) (stretch Level floor_level (floor_count v.has_floor))) (level_in j 1 (v.level - 1) range.0 (omega (arith, range.1)))
    ]

-- ---- the numbers of a column

-- what a pattern's rows and the level rows give a row is its coefficient there
pub given_is : (k : Packing) (w : Weights) (s : Stage) (v : Places) → AreOf k w s v → (p : ℕ) (rows : List RowName) → AreRowsOf k s rows p → (r : RowName) → is_placed v r ≡ true
    → picked (member_row r rows) (row_number w p r) +ℤ picked (member_row r (level_names v)) (row_number w p r) ≡ coefficient k w s r p
given_is k w s v are p rows of_pattern (Base r) h =
    let none = no_level v (Base r) (λ j. refl) in
    let in_row = of_pattern.base r (omega (arith, ltb-true r v.base h, are.base)) in
    ap₂ (λ a b. picked a (pos 1) +ℤ picked b (pos 1)) in_row none ∙ omega (arith, ints)
given_is k w s v are p rows of_pattern (Cut c) h =
    let none = no_level v (Cut c) (λ j. refl) in
    let in_row = of_pattern.cut c (omega (arith, ltb-true c v.cuts h, are.cuts)) in
    ap₂ (λ a b. picked a (pos 1) +ℤ picked b (pos 1)) in_row none ∙ omega (arith, ints)
given_is k w s v are p rows of_pattern (Level j) h =
    ap₂ (λ a b. picked a (level_coefficient w j p) +ℤ picked b (level_coefficient w j p)) (of_pattern.level j) (has_level v are.layout j h) ∙ omega (arith, ints)

pub put_both : (v : Places) → IsLayout v → (r : RowName) → is_placed v r ≡ true → (g : RowName → ℤ) (rows : List RowName) → distinct_rows rows ≡ true
    → put_total v (place_of v r) g rows +ℤ put_total v (place_of v r) g (level_names v) ≡ picked (member_row r rows) (g r) +ℤ picked (member_row r (level_names v)) (g r)
put_both v layout r h g rows d = ap₂ (λ a b. a +ℤ b) (put_is v layout r h g rows d) (put_is v layout r h g (level_names v) (levels_differ v layout))

-- ---- the names of the task

floor_is : (floor : Option ((ℕ → ℤ) × ℤ)) → stretch Level floor_level (floor_count (is_some floor)) ≡ floor_names floor
floor_is None = refl
floor_is (Some floor) = refl

pub names_are : (k : Packing) (w : Weights) (s : Stage) (v : Places) → AreOf k w s v → names_in v ≡ names_of k w s v.lead v.low
names_are k w s v are = rw (are.base, are.cuts, are.level, are.has_floor, floor_is w.floor) refl

pub placed_at : (v : Places) → IsLayout v → (names : List RowName) (i : ℕ) → names ≡ names_in v → i < length names → is_placed v (name_at names i) ≡ true
placed_at v layout names i e l =
    let n = ap length e in
    let row = row_of v layout i (omega (arith, l, n, length-names v layout)) in
    ap (is_placed v) (ap (λ xs. name_at xs i) e ∙ row.is) ∙ row.placed
