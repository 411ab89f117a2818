-- A point that gives patterns all or nothing is a choice of patterns.
use Rattle.std.proofs.Common.{ℕ, ◌≡◌, ◌≢◌, ◌<◌, arith, refl, sym, ◌∙◌, ap, subst, zero, suc, Bool, true, false, not, ◌&&◌, List, [], ◌∷◌, length, get_or, map, inl, inr}
use Rattle.std.specs.Prelude.{ℤ, pos, ◌+ℤ◌, ◌*ℤ◌, ◌≤ℤ◌, ◌<ℤ◌, ◌==◌, nat_lt, int_le, Option, Some, None, Result, Ok, Err, IfOk}
use Rattle.std.specs.List.{list_all, list_any}
use Rattle.std.specs.Ordering.{int_eq}
use Rattle.std.proofs.lemmas.Int.{ints}
use Rattle.std.proofs.lemmas.Bool.{cases_Bool, and_parts, or_parts}
use Rattle.std.proofs.lemmas.Bool.Decides.{Decides-int_eq}
use Rattle.std.proofs.lemmas.List.Folds.{list_all-map}
use Rattle.std.proofs.lemmas.List.{length-map}
use Rattle.std.proofs.Math.IntN.{*ℤ-zero, *ℤ_comm}
use Rattle.numbers.specs.Algebra.{*ℤ-<ℤ}
use Rattle.numbers.specs.Sums.{total, member, distinct, picked, sum_below-same, value-member}
use Rattle.numbers.proofs.TotalLaws.{total-*ℤ, total-same}
use Rattle.problem_core.specs.Facts.{Facts}
use Rattle.problem_core.specs.Choice.{IsLegal}
use Rattle.meeting_patterns.specs.Pattern.{patterns_of}
use Rattle.meeting_patterns.specs.Made.{AreClashless}
use Rattle.duality.specs.Packing.{Packing, Weights, Stage, Fixing, as_number, target_of}
use Rattle.packing_model.specs.Built.{packing}
use Rattle.packing_model.specs.Closing.{choice_of}
use Rattle.packing_model.proofs.RowLemmas.{first_event}
use Rattle.packing_model.specs.declared.point.Point.{Point}
use Rattle.packing_model.proofs.ListLemmas.{rising_distinct}
use Rattle.search_nodes.specs.Choices.{IsHeld, IsMore, weighs}
use Rattle.search_nodes.specs.SharedRows.{share_row}
use Rattle.search_nodes.specs.Points.{IsPointOf, IsAbove, ReachesFloor as AtFloor, entry_of, sum_at}
use Rattle.node_bound.specs.Answers.{IsNodePoint}
use Rattle.clique_cuts.specs.Better.{MeetsAll, ReachesFloor}
use Rattle.node_bound.specs.Fixed.{is_at_most}
use Rattle.node_bound.proofs.AmountLaws.{below_at, differ_at}
use Rattle.node_bound.proofs.FixedLaws.{made_held, made_more}
use Rattle.node_bound.proofs.RayLaws.{as_number-low}

-- the patterns that are listed
abbrev pub numbers : List (ℕ × ℤ) → List ℕ
numbers es = map (λ (e : ℕ × ℤ). e.0) es

-- no entry is in part
abbrev pub IsWhole : Point → Type 0
IsWhole x = list_any (λ (e : ℕ × ℤ). not (int_eq e.1 x.den)) x.entries ≡ false

not_not : (b : Bool) → not b ≡ false → b ≡ true
not_not true h = refl
not_not false h = absurd (cc)

whole_gives : (den : ℤ) (es : List (ℕ × ℤ)) (p : ℕ) → list_any (λ (e : ℕ × ℤ). not (int_eq e.1 den)) es ≡ false → entry_of es p ≡ picked (member p (numbers es)) den
whole_gives den [] p h = refl
whole_gives den (e ∷ es) p h =
    let parts = or_parts (not (int_eq e.1 den)) (list_any (λ (y : ℕ × ℤ). not (int_eq y.1 den)) es) h in
    let all : e.1 ≡ den = (Decides-int_eq e.1 den).0 (not_not (int_eq e.1 den) parts.0) in
    elim (cases_Bool (e.0 == p)) [
      | inl here ↦ rw here all
      | inr other ↦ rw other (whole_gives den es p parts.1)
    ]

picked_times : (b : Bool) (f x : ℤ) → f *ℤ picked b x ≡ picked b (f *ℤ x)
picked_times true f x = refl
picked_times false f x = *ℤ-zero f

pub listed_known : (k : Packing) (x : Point) → IsPointOf k x → list_all (λ p. nat_lt p k.count) (numbers x.entries) ≡ true
listed_known k x is = list_all-map (λ p. nat_lt p k.count) (λ (e : ℕ × ℤ). e.0) x.entries ∙ is.known

pub listed_differ : (k : Packing) (x : Point) → IsPointOf k x → distinct (numbers x.entries) ≡ true
listed_differ k x is = rising_distinct (numbers x.entries) is.rising

pub whole_sum : (k : Packing) (x : Point) → IsPointOf k x → IsWhole x → (g : ℕ → ℤ) → sum_at k g x ≡ x.den *ℤ total g (numbers x.entries)
whole_sum k x is whole g =
    let ps = numbers x.entries in
    sum_below-same (λ p. g p *ℤ entry_of x.entries p) (λ p. picked (member p ps) (g p *ℤ x.den)) k.count (λ p l. ap (λ z. g p *ℤ z) (whole_gives x.den x.entries p whole) ∙ picked_times (member p ps) (g p) x.den)
    ∙ value-member (λ p. g p *ℤ x.den) ps k.count (listed_differ k x is) (listed_known k x is)
    ∙ total-same (λ p. g p *ℤ x.den) (λ p. x.den *ℤ g p) ps (λ p. *ℤ_comm (g p) x.den) ∙ total-*ℤ x.den g ps

-- ---- a positive factor on both sides

le_is : (a b : ℤ) → int_le a b ≡ true → a ≤ℤ b
le_is a b h = grind (arith, ints)

le_not : (a b : ℤ) → int_le a b ≡ false → b <ℤ a
le_not a b h = grind (arith, ints)

pub less_cancelled : (d a b : ℤ) → pos 0 <ℤ d → (d *ℤ a) ≤ℤ (d *ℤ b) → a ≤ℤ b
less_cancelled d a b positive h = elim (cases_Bool (int_le a b)) [
  | inl is ↦ le_is a b is
  | inr more ↦ let over = *ℤ-<ℤ b a d (le_not a b more) positive in absurd (omega (arith, ints, *ℤ_comm a d, *ℤ_comm b d))
]

pub cancelled : (d a b : ℤ) → pos 0 <ℤ d → d *ℤ a ≡ d *ℤ b → a ≡ b
cancelled d a b positive h =
    let low = less_cancelled d a b positive (omega (arith, ints)) in
    let high = less_cancelled d b a positive (omega (arith, ints)) in
    omega (arith, ints)

-- ---- two patterns of one row

part_of : (f : ℕ → ℤ) (xs : List ℕ) (i : ℕ) → ((p : ℕ) → pos 0 ≤ℤ f p) → i < length xs → f (get_or xs i 0) ≤ℤ total f xs
part_of f [] i low l = absurd (omega arith)
part_of f (x ∷ xs) zero low l = let rest = total_low f xs low in omega (arith, ints)
  where
    total_low : (f : ℕ → ℤ) (xs : List ℕ) → ((p : ℕ) → pos 0 ≤ℤ f p) → pos 0 ≤ℤ total f xs
    total_low f [] low = omega (arith, ints)
    total_low f (x ∷ xs) low = let here = low x in let rest = total_low f xs low in omega (arith, ints)
part_of f (x ∷ xs) (suc i) low l = let here = low x in let rest = part_of f xs i low (omega arith) in omega (arith, ints)

two_of : (f : ℕ → ℤ) (xs : List ℕ) (i j : ℕ) → ((p : ℕ) → pos 0 ≤ℤ f p) → i < j → j < length xs → (f (get_or xs i 0) +ℤ f (get_or xs j 0)) ≤ℤ total f xs
two_of f [] i j low l m = absurd (omega arith)
two_of f (x ∷ xs) i zero low l m = absurd (omega arith)
two_of f (x ∷ xs) zero (suc j) low l m = let rest = part_of f xs j low (omega arith) in omega (arith, ints)
two_of f (x ∷ xs) (suc i) (suc j) low l m = let here = low x in let rest = two_of f xs i j low (omega arith) (omega arith) in omega (arith, ints)

one_is : (b : Bool) → b ≡ true → as_number b ≡ pos 1
one_is b h = ap as_number h

-- a row that gives its patterns at most the denominator has one of them at most
pub one_of_row : (k : Packing) (x : Point) (r i j : ℕ) → IsPointOf k x → IsWhole x → sum_at k (λ p. as_number (k.in_base r p)) x ≤ℤ x.den → i < j → j < length x.entries
    → k.in_base r (get_or (numbers x.entries) i 0) ≡ true → k.in_base r (get_or (numbers x.entries) j 0) ≡ true → ⊥
one_of_row k x r i j is whole sum l m hi hj =
    let ps = numbers x.entries in
    let f : ℕ → ℤ = λ p. as_number (k.in_base r p) in
    let most : total f ps ≤ℤ pos 1 = less_cancelled x.den (total f ps) (pos 1) is.positive (omega (arith, ints, whole_sum k x is whole f, *ℤ_comm x.den (pos 1))) in
    let two = two_of f ps i j (λ p. as_number-low (k.in_base r p)) l (omega (arith, length-map x.entries (λ (e : ℕ × ℤ). e.0))) in
    omega (arith, ints, one_is (k.in_base r (get_or ps i 0)) hi, one_is (k.in_base r (get_or ps j 0)) hj)

-- ---- the choice

-- the listed patterns don't clash: they would share a base row
pub whole_apart : (p : Facts) (x : Point) → IsPointOf (packing p) x → IsWhole x → ((r : ℕ) → r < (packing p).base_len → sum_at (packing p) (λ q. as_number ((packing p).in_base r q)) x ≤ℤ x.den)
    → ((i j : ℕ) → i < (packing p).count → j < (packing p).count → i ≢ j → (packing p).clash i j ≡ true → share_row (packing p) i j ≡ true)
    → AreClashless p (patterns_of p) (numbers x.entries)
whole_apart p x is whole base shared =
    let k = packing p in
    let ps = numbers x.entries in
    let known : (i : ℕ) → i < length ps → get_or ps i 0 < k.count = λ i l. below_at k.count ps i (listed_known k x is) l in
    let differ : (i j : ℕ) → i < j → j < length ps → get_or ps i 0 ≢ get_or ps j 0 = λ i j l m. differ_at ps i j (listed_differ k x is) l m in
    record {
      known = known;
      differ = λ i j l m same. differ i j l m same;
      apart = λ i j l m. elim (cases_Bool (k.clash (get_or ps i 0) (get_or ps j 0))) [
        | inr clear ↦ clear
        | inl hit ↦
            let row = first_event (λ r. k.in_base r (get_or ps i 0) && k.in_base r (get_or ps j 0)) k.base_len (shared (get_or ps i 0) (get_or ps j 0) (known i (omega arith)) (known j m) (differ i j l m) hit) in
            let both = and_parts (k.in_base row.0 (get_or ps i 0)) (k.in_base row.0 (get_or ps j 0)) row.2 in
            absurd (one_of_row k x row.0 i j is whole (base row.0 row.1) l (omega (arith, m, length-map x.entries (λ (e : ℕ × ℤ). e.0))) both.0 both.1)
      ];
    }

pub whole_meets : (k : Packing) (w : Weights) (s : Stage) (f : Fixing) (x : Point) → IsNodePoint k w s f x → IsWhole x → MeetsAll w s.level s.targets (numbers x.entries)
whole_meets k w s f x is whole = record {
  has_targets = λ j low high. cancelled x.den (total (w.weight j) (numbers x.entries)) (target_of s.targets j) is.point.positive (sym (whole_sum k x is.point whole (w.weight j)) ∙ is.targets j low high);
  floor = go w.floor is.floor;
}
  where
    go : (floor : Option ((ℕ → ℤ) × ℤ)) → AtFloor k floor x → ReachesFloor floor (numbers x.entries)
    go None h = tt
    go (Some fl) h = less_cancelled x.den fl.1 (total fl.0 (numbers x.entries)) is.point.positive (subst (λ z. (x.den *ℤ fl.1) ≤ℤ z) (whole_sum k x is.point whole fl.0) h)

above_is : (v t : ℤ) → (v +ℤ pos 1) ≤ℤ t → int_le t v ≡ false
above_is v t h = grind (arith, ints)

pub whole_above : (k : Packing) (best : Option ℤ) (g : ℕ → ℤ) (x : Point) → IsPointOf k x → IsWhole x → IsAbove best x.den (sum_at k g x) → is_at_most (total g (numbers x.entries)) best ≡ false
whole_above k None g x is whole h = refl
whole_above k (Some v) g x is whole h =
    let ps = numbers x.entries in
    above_is v (total g ps) (less_cancelled x.den (v +ℤ pos 1) (total g ps) is.positive (subst (λ z. (x.den *ℤ (v +ℤ pos 1)) ≤ℤ z) (whole_sum k x is whole g) h))

-- what the choice that they make is
pub whole_held : (p : Facts) (w : Weights) (s : Stage) (f : Fixing) (x : Point) (a : List ℕ) → IsNodePoint (packing p) w s f x → IsWhole x → IsAbove s.best x.den (sum_at (packing p) (w.weight s.level) x)
    → IsLegal p a → ((i : ℕ) → i < (packing p).count → choice_of p a i ≡ member i (numbers x.entries)) → IsHeld p w s.level s.targets a × IsMore s.best (weighs p w s.level a)
whole_held p w s f x a is whole above legal back =
    let k = packing p in
    let ps = numbers x.entries in
    let differ = listed_differ k x is.point in
    let known = listed_known k x is.point in (
      made_held p w s ps a differ known back legal (whole_meets k w s f x is whole),
      made_more p w s.level s.best ps a (total (w.weight s.level) ps) differ known back refl (whole_above k s.best (w.weight s.level) x is.point whole above),
    )

pub both_ok : {A E : Type 0} (r : Result A E) (P Q R : A → Type 0) → ((a : A) → P a → Q a → R a) → IfOk r P → IfOk r Q → IfOk r R
both_ok (Ok a) P Q R h p q = h a p q
both_ok (Err e) P Q R h p q = tt
