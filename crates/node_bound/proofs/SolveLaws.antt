-- What the answer of a node's linear program says at the node.
use Rattle.std.proofs.Common.{ℕ, ◌≡◌, ◌≤◌, ◌+◌, ◌-◌, arith, refl, sym, ◌∙◌, ap, subst, zero, suc, true, List, ◌++◌, length, inl, inr}
use Rattle.std.specs.Prelude.{ℤ, pos, ◌+ℤ◌, ◌*ℤ◌, ◌≤ℤ◌, ◌<ℤ◌, ◌⊎◌, int_le, not, Option, Some, None, MatchOption, Ok}
use Rattle.std.specs.List.{list_any}
use Rattle.std.specs.Ordering.{int_eq}
use Rattle.std.proofs.lemmas.Int.{ints}
use Rattle.std.proofs.lemmas.List.{length-append}
use Rattle.std.proofs.lemmas.Bool.{cases_Bool}
use Rattle.std.proofs.Math.IntN.{*ℤ_comm}
use Rattle.numbers.specs.Algebra.{*ℤ-+ℤ, +ℤ-*ℤ, *ℤ_assoc, *ℤ-<ℤ, *ℤ-≤ℤ}
use Rattle.numbers.specs.Below.{any_below_at, first_from, first_from_finds}
use Rattle.problem_core.specs.Facts.{Facts}
use Rattle.duality.specs.declared.row.RowName.{RowName}
use Rattle.duality.specs.declared.row.RowName.TheVariants.{Base, Cut, Level}
use Rattle.duality.specs.Packing.{Packing, Weights, Stage, Fixing, is_free}
use Rattle.duality.specs.Units.{free_count}
use Rattle.packing_model.specs.declared.point.Point.{Point}
use Rattle.search_nodes.specs.Points.{IsAbove, IsGapPoint, sum_at}
use Rattle.exact_simplex.specs.declared.task.Lp.{Lp}
use Rattle.exact_simplex.specs.declared.task.LpAnswer.{LpAnswer}
use Rattle.exact_simplex.specs.declared.task.LpAnswer.TheVariants as answer
use Rattle.exact_simplex.specs.Answer.{Answers}
use Rattle.exact_simplex.specs.Task.{IsBest, IsRay, pivot_limit, gain_sum, side_sum}
use Rattle.node_bound.specs.Answers.{IsFeasible, IsCover, LeavesRoom, IsNodePoint}
use Rattle.node_bound.specs.Bounds.{Bounds, Decides, has_free, limit_of, floor_rows}
use Rattle.node_bound.specs.Exact.{BoundsExactly, Shows}
use Rattle.node_bound.specs.Tasks.{IsNodeTask, names_of, stretch, floor_names}
use Rattle.node_bound.specs.declared.bounded.Bounded.{Bounded}
use Rattle.node_bound.specs.declared.bounded.Bounded.TheVariants.{Closed, Better, Gap, Wide, Stalled}
use Rattle.node_bound.specs.declared.task.NodeTask.{NodeTask}

-- ---- one answer as another

pub shown_bounds : (p : Facts) (w : Weights) (s : Stage) (f : Fixing) (wides wides' steps steps' : ℕ) (bounded : Bounded) → Shows p w s f bounded → BoundsExactly p w s f wides wides' steps steps' bounded
shown_bounds p w s f wides wides' steps steps' (Closed leaf) h = h
shown_bounds p w s f wides wides' steps steps' (Better a) h = h
shown_bounds p w s f wides wides' steps steps' (Gap x) h = h
shown_bounds p w s f wides wides' steps steps' (Wide before after) h = absurd h
shown_bounds p w s f wides wides' steps steps' (Stalled pivots) h = absurd h

pub decided_shows : (p : Facts) (w : Weights) (s : Stage) (f : Fixing) (bounded : Bounded) → Decides p w s f bounded → Shows p w s f bounded
decided_shows p w s f (Closed leaf) h = h
decided_shows p w s f (Better a) h = h
decided_shows p w s f (Gap x) h = absurd h
decided_shows p w s f (Wide before after) h = absurd h
decided_shows p w s f (Stalled pivots) h = absurd h

pub exactly_bounds : (p : Facts) (w : Weights) (s : Stage) (f : Fixing) (wides wides' steps steps' : ℕ) (bounded : Bounded) → BoundsExactly p w s f wides wides' steps steps' bounded → Bounds p w s f wides wides' steps steps' bounded
exactly_bounds p w s f wides wides' steps steps' (Closed leaf) h = h
exactly_bounds p w s f wides wides' steps steps' (Better a) h = h
exactly_bounds p w s f wides wides' steps steps' (Gap x) h = h
exactly_bounds p w s f wides wides' steps steps' (Wide before after) h = h
exactly_bounds p w s f wides wides' steps steps' (Stalled pivots) h = (omega (arith, h.0), omega (arith, h.1), h.2)

-- ---- the pivots that the program may spend

length-stretch : (name : ℕ → RowName) (from n : ℕ) → length (stretch name from n) ≡ n
length-stretch name from zero = refl
length-stretch name from (suc n) = ap suc (length-stretch name (suc from) n)

length-floor : (floor : Option ((ℕ → ℤ) × ℤ)) → length (floor_names floor) ≡ floor_rows floor
length-floor None = refl
length-floor (Some x) = refl

six_lengths : (a b c d e g : List RowName) → length (((((a ++ b) ++ c) ++ d) ++ e) ++ g) ≡ ((((length a + length b) + length c) + length d) + length e) + length g
six_lengths a b c d e g =
    length-append ((((a ++ b) ++ c) ++ d) ++ e) g
    ∙ ap (λ n. n + length g) (length-append (((a ++ b) ++ c) ++ d) e ∙ ap (λ n. n + length e) (length-append ((a ++ b) ++ c) d ∙ ap (λ n. n + length d) (length-append (a ++ b) c ∙ ap (λ n. n + length c) (length-append a b))))

length-names : (k : Packing) (w : Weights) (s : Stage) (lead low : ℕ) → lead ≤ k.base_len → low ≤ s.level - 1 → length (names_of k w s lead low) ≡ k.base_len + length s.cuts + (s.level - 1) + floor_rows w.floor
length-names k w s lead low l m =
    six_lengths (stretch Base 0 lead) (stretch Level 1 low) (stretch Base lead (k.base_len - lead)) (stretch Cut 0 (length s.cuts)) (stretch Level (low + 1) ((s.level - 1) - low)) (floor_names w.floor)
    ∙ omega (
      arith,
      l,
      m,
      length-stretch Base 0 lead,
      length-stretch Level 1 low,
      length-stretch Base lead (k.base_len - lead),
      length-stretch Cut 0 (length s.cuts),
      length-stretch Level (low + 1) ((s.level - 1) - low),
      length-floor w.floor,
    )

pub limit_is : (k : Packing) (w : Weights) (s : Stage) (f : Fixing) (t : NodeTask) → IsNodeTask k w s f t → pivot_limit t.lp ≡ limit_of k w s f
limit_is k w s f t is =
    let rows : length t.lp.rows ≡ k.base_len + length s.cuts + (s.level - 1) + floor_rows w.floor = is.row_count ∙ ap length is.names ∙ length-names k w s t.lead t.low is.lead is.low in
    let columns : t.lp.columns ≡ free_count k f = is.column_count ∙ is.columns.count in
    omega (arith, rows, columns)

-- ---- the point and the multipliers of an answer

pub covers : (lp : Lp) (x : List ℤ) (xden : ℤ) (y : List ℤ) (yden : ℤ) → IsBest lp x xden y yden → IsCover lp y yden
covers lp x xden y yden is = record { one_each = is.y_length; small = is.y_small; positive = is.yden_positive; sign = is.y_sign; covers = is.covers }

pub feasible : (lp : Lp) (x : List ℤ) (xden : ℤ) (y : List ℤ) (yden : ℤ) → IsBest lp x xden y yden → IsFeasible lp x xden
feasible lp x xden y yden is = record { one_each = is.x_length; small = is.x_small; positive = is.xden_positive; sign = is.x_sign; rows = is.rows }

le_or : (a b : ℤ) → (a ≤ℤ b) ⊎ (b <ℤ a)
le_or a b = elim (cases_Bool (int_le a b)) [
  | inl less ↦ inl (grind (arith, ints))
  | inr more ↦ inr (grind (arith, ints))
]

-- a bound on the multipliers' worth is one on the gain of the point
scaled : (x y v worth taken gain : ℤ) → pos 0 <ℤ x → pos 0 <ℤ y → (y *ℤ v) ≤ℤ (worth +ℤ (y *ℤ taken)) → gain *ℤ y ≡ worth *ℤ x → (x *ℤ v) ≤ℤ (gain +ℤ (x *ℤ taken))
scaled x y v worth taken gain px py room same = elim (le_or (x *ℤ v) (gain +ℤ (x *ℤ taken))) [
  | inl holds ↦ holds
  | inr less ↦
      let low = *ℤ-<ℤ (gain +ℤ (x *ℤ taken)) (x *ℤ v) y less py in
      let high = *ℤ-≤ℤ x (y *ℤ v) (worth +ℤ (y *ℤ taken)) (omega (arith, ints, px)) room in
      let sum = +ℤ-*ℤ gain (x *ℤ taken) y in
      let split = *ℤ-+ℤ x worth (y *ℤ taken) in
      let turn : (z : ℤ) → x *ℤ (y *ℤ z) ≡ (x *ℤ z) *ℤ y = λ z. ap (λ u. x *ℤ u) (*ℤ_comm y z) ∙ sym (*ℤ_assoc x z y) in
      absurd (omega (arith, ints, low, high, sum, split, turn v, turn taken, *ℤ_comm x worth, same))
]

pub is_above : (best : Option ℤ) (lp : Lp) (x : List ℤ) (xden : ℤ) (y : List ℤ) (yden taken sum : ℤ) → IsBest lp x xden y yden → LeavesRoom best yden (side_sum lp y) taken → sum ≡ gain_sum lp x +ℤ (xden *ℤ taken) → IsAbove best xden sum
is_above None lp x xden y yden taken sum is room value = tt
is_above (Some v) lp x xden y yden taken sum is room value = omega (arith, ints, value, scaled xden yden (v +ℤ pos 1) (side_sum lp y) taken (gain_sum lp x) is.xden_positive is.yden_positive room is.same_value)

pub is_gap : (k : Packing) (w : Weights) (s : Stage) (f : Fixing) (x : Point) → IsNodePoint k w s f x → IsAbove s.best x.den (sum_at k (w.weight s.level) x) → list_any (λ (e : ℕ × ℤ). not (int_eq e.1 x.den)) x.entries ≡ true → IsGapPoint k w s f x
is_gap k w s f x is above part = record { point = is.point; taken = is.taken; none = is.none; base = is.base; cuts = is.cuts; targets = is.targets; floor = is.floor; value = above; in_part = part }

pub some_free : (k : Packing) (f : Fixing) (p : ℕ) → first_from (is_free k f) 0 k.count ≡ p + 1 → has_free k f ≡ true
some_free k f p found = let there = first_from_finds (is_free k f) 0 k.count p found in any_below_at (is_free k f) p k.count (omega (arith, there.1)) there.0

pub none_gives : {A : Type 0} (r : Option A) (P : Type 0) (F : A → Type 0) → r ≡ None → MatchOption r P F → P
none_gives r P F e h = subst (λ o. MatchOption o P F) e h

pub ray_answer : (lp : Lp) (before now steps steps' : ℕ) (a : LpAnswer) (x : List ℤ) → a ≡ answer.Ray x → Answers lp before now steps steps' (Ok a) → IsRay lp x
ray_answer lp before now steps steps' a x e h = (subst (λ r. Answers lp before now steps steps' (Ok r)) e h).1.0

stalled_answer : (lp : Lp) (before now steps steps' : ℕ) (a : LpAnswer) (pivots : ℕ) → a ≡ answer.Stalled pivots → Answers lp before now steps steps' (Ok a) → (pivots ≡ pivot_limit lp) × (steps' ≡ steps + pivot_limit lp)
stalled_answer lp before now steps steps' a pivots e h = (subst (λ r. Answers lp before now steps steps' (Ok r)) e h).1

pub stalled_bounds : (k : Packing) (w : Weights) (s : Stage) (f : Fixing) (t : NodeTask) (before now steps steps' : ℕ) (a : LpAnswer) (pivots : ℕ) → IsNodeTask k w s f t → a ≡ answer.Stalled pivots → Answers t.lp before now steps steps' (Ok a)
    → (pivots ≡ limit_of k w s f) × (steps' ≡ steps + pivots)
stalled_bounds k w s f t before now steps steps' a pivots is e h =
    let spent = stalled_answer t.lp before now steps steps' a pivots e h in
    (spent.0 ∙ limit_is k w s f t is, spent.1 ∙ ap (λ n. steps + n) (sym spent.0))
