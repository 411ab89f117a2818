-- A dual point whose worth is short closes its node.
use Rattle.std.proofs.Common.{ℕ, ◌≡◌, ◌<◌, arith, refl, sym, ◌∙◌, ap, ap₂, zero, suc, true, false, not, ◌&&◌, ◌||◌, List, inl, inr}
use Rattle.std.specs.Prelude.{ℤ, pos, ◌+ℤ◌, ◌-ℤ◌, ◌*ℤ◌, ◌≤ℤ◌, ◌<ℤ◌, int_le, int_lt, Option, Some, None}
use Rattle.std.specs.List.{list_all}
use Rattle.std.proofs.lemmas.Int.{ints}
use Rattle.std.proofs.lemmas.Bool.{and_from, not_from_false, cases_Bool}
use Rattle.std.proofs.Math.IntN.{zero-*ℤ}
use Rattle.numbers.specs.Algebra.{*ℤ-+ℤ}
use Rattle.numbers.specs.Below.{any_below}
use Rattle.numbers.specs.Sums.{total}
use Rattle.numbers.proofs.TotalLaws.{total--ℤ, total-*ℤ, total-same, total-exchanged}
use Rattle.duality.specs.declared.row.Term.{Term}
use Rattle.duality.specs.declared.leaf.Leaf.{Leaf}
use Rattle.duality.specs.Packing.{Packing, Weights, Stage, Fixing, coefficient, right_side, is_free}
use Rattle.duality.specs.Leaf.{priced, worth, reduced, term_fits, costs, left_side, is_under, closes}
use Rattle.duality.specs.Tree.{ends_at}
use Rattle.node_bound.specs.Duals.{side_left, IsDual, SameTimes, IsShort}

lt_true : (a b : ℤ) → a <ℤ b → int_lt a b ≡ true
lt_true a b h = grind (arith, ints)

le_true : (a b : ℤ) → a ≤ℤ b → int_le a b ≡ true
le_true a b h = grind (arith, ints)

not_lt : (a b : ℤ) → b ≤ℤ a → int_lt a b ≡ false
not_lt a b h = grind (arith, ints)

times-less : (a b c : ℤ) → a *ℤ (b -ℤ c) ≡ (a *ℤ b) -ℤ (a *ℤ c)
times-less a b c =
    let e : a *ℤ ((b -ℤ c) +ℤ c) ≡ (a *ℤ (b -ℤ c)) +ℤ (a *ℤ c) = *ℤ-+ℤ a (b -ℤ c) c in
    let back : a *ℤ ((b -ℤ c) +ℤ c) ≡ a *ℤ b = ap (λ z. a *ℤ z) (omega (arith, ints)) in
    omega (arith, ints)

module _ (k : Packing) (w : Weights) (s : Stage) (f : Fixing) (leaf : Leaf) (ys : List Term) (value : ℤ) where
  -- what is left of the sides, and what the taken patterns weigh
  pub left_is : IsDual k w s f leaf.scale ys value → SameTimes leaf.terms ys → left_side k w s f leaf ≡ value +ℤ (leaf.scale *ℤ total (w.weight s.level) f.one)
  left_is dual same =
      let price : ℕ → ℤ = priced k w s leaf.terms in
      let times_sides : ℤ = total (λ t. t.times *ℤ right_side w s t.row) ys in
      let taken_prices : ℤ = total (λ t. t.times *ℤ total (coefficient k w s t.row) f.one) ys in
      let worth_is : worth w s leaf.terms ≡ times_sides = same.same (right_side w s) in
      let split : value ≡ times_sides -ℤ taken_prices = sym dual.worth_is ∙ total-same (λ (t : Term). t.times *ℤ side_left k w s f t.row) (λ t. (t.times *ℤ right_side w s t.row) -ℤ (t.times *ℤ total (coefficient k w s t.row) f.one)) ys
      (λ t. times-less t.times (right_side w s t.row) (total (coefficient k w s t.row) f.one))
      ∙ total--ℤ (λ (t : Term). t.times *ℤ right_side w s t.row) (λ t. t.times *ℤ total (coefficient k w s t.row) f.one) ys in
      let one_prices : total price f.one ≡ taken_prices =
      total-same price (λ p. total (λ t. t.times *ℤ coefficient k w s t.row p) ys) f.one (λ p. same.same (λ r. coefficient k w s r p))
      ∙ total-exchanged (λ p (t : Term). t.times *ℤ coefficient k w s t.row p) f.one ys
      ∙ total-same (λ (t : Term). total (λ p. t.times *ℤ coefficient k w s t.row p) f.one) (λ t. t.times *ℤ total (coefficient k w s t.row) f.one) ys (λ t. total-*ℤ t.times (coefficient k w s t.row) f.one) in
      let reduced_one : total (reduced k w s leaf) f.one ≡ (leaf.scale *ℤ total (w.weight s.level) f.one) -ℤ total price f.one =
      total--ℤ (λ p. leaf.scale *ℤ w.weight s.level p) price f.one ∙ ap (λ z. z -ℤ total price f.one) (total-*ℤ leaf.scale (w.weight s.level) f.one) in
      omega (arith, ints)

  none_costly : IsDual k w s f leaf.scale ys value → SameTimes leaf.terms ys → (n : ℕ) → ((p : ℕ) → p < n → p < k.count) → any_below (costs k w s f leaf) n ≡ false
  none_costly dual same zero inside = refl
  none_costly dual same (suc n) inside = ap₂ (λ a b. a || b) here (none_costly dual same n (λ p l. inside p (omega arith)))
    where
      here : costs k w s f leaf n ≡ false
      here = elim (cases_Bool (is_free k f n)) [
        | inl free ↦
            let cover = dual.covers n (inside n (omega arith)) free in
            let price : priced k w s leaf.terms n ≡ total (λ t. t.times *ℤ coefficient k w s t.row n) ys = same.same (λ r. coefficient k w s r n) in
            let low : reduced k w s leaf n ≤ℤ pos 0 = omega (arith, ints) in
            ap₂ (λ a b. a && b) free (not_lt (pos 0) (reduced k w s leaf n) low)
        | inr taken ↦ ap (λ b. b && int_lt (pos 0) (reduced k w s leaf n)) taken
      ]

  under_is : (best : Option ℤ) (scale left worth taken : ℤ) → left ≡ worth +ℤ (scale *ℤ taken) → IsShort best scale worth taken → is_under best scale left ≡ true
  under_is (Some v) scale left worth taken e h = lt_true left (scale *ℤ (v +ℤ pos 1)) (omega (arith, ints))
  under_is None scale left worth taken e h =
      let z : scale *ℤ taken ≡ pos 0 = ap (λ x. x *ℤ taken) h.0 ∙ zero-*ℤ taken in
      and_from (int_le scale (pos 0)) (int_lt left (pos 0)) (le_true scale (pos 0) (omega (arith, ints, h.0))) (lt_true left (pos 0) (omega (arith, ints, z, h.1)))

  pub dual_closes : IsDual k w s f leaf.scale ys value → SameTimes leaf.terms ys → list_all (term_fits k w s) leaf.terms ≡ true → IsShort s.best leaf.scale value (total (w.weight s.level) f.one) → ends_at k w s f leaf ≡ true
  dual_closes dual same fits short =
      and_from (int_le (pos 0) leaf.scale) (closes k w s f leaf) (le_true (pos 0) leaf.scale dual.not_negative)
      (and_from (list_all (term_fits k w s) leaf.terms) _ fits
      (and_from (not (any_below (costs k w s f leaf) k.count)) _ (not_from_false _ (none_costly dual same k.count (λ p l. l)))
      (under_is s.best leaf.scale (left_side k w s f leaf) value (total (w.weight s.level) f.one) (left_is dual same) short)))
