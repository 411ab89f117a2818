use Rattle.std.proofs.Common.{arith, refl, ◌∙◌, sym, ap, subst, length, ◌≡◌}
use Rattle.exact_num.specs.Ops.{neg_ℚ, inv_ℚ}
use Rattle.exact_num.specs.Whole.{int_ℚ-one, int_ℚ-neg}
use Rattle.std.specs.Prelude.{pos}
use Rattle.simplex_tableau.specs.Sparse.{Rises, PlacesBelow}
use Rattle.simplex_tableau.proofs.SparseLaws.{places-below}
use Rattle.simplex_tableau.specs.Inverse.{RowTimes}
use Rattle.simplex_tableau.proofs.TableauLaws.{pivots_to, divisor_some, written, added_from, turns_from}
use Rattle.simplex_tableau.proofs.basis.pivot.Goals as goal

pub row_over-requires-clause-some : goal.row_over-requires-clause-some
row_over-requires-clause-some g c =
    let value = g.A.Num.Fraction.value in
    divisor_some (value c.args.number) (value c.in_ok-minus.minus) (value c.in_ok-divisor.divisor) c.requires.some (c.in_ok-minus.ensures.value ∙ int_ℚ-neg (pos 1) ∙ ap neg_ℚ int_ℚ-one) c.in_ok-divisor.ensures.value

pub step_values-requires-clause-some : goal.step_values-requires-clause-some
step_values-requires-clause-some g c =
    let value = g.A.Num.Fraction.value in
    divisor_some (value c.args.number) (value c.in_ok-minus.minus) (value c.in_ok-divisor.divisor) c.requires.some (c.in_ok-minus.ensures.value ∙ int_ℚ-neg (pos 1) ∙ ap neg_ℚ int_ℚ-one) c.in_ok-divisor.ensures.value

pub step_values-requires-2-clause-some : goal.step_values-requires-2-clause-some
step_values-requires-2-clause-some g c =
    let value = g.A.Num.Fraction.value in
    divisor_some (value c.args.number) (value c.in_ok-minus.minus) (value c.in_ok-divisor.divisor) c.requires.some (c.in_ok-minus.ensures.value ∙ int_ℚ-neg (pos 1) ∙ ap neg_ℚ int_ℚ-one) c.in_ok-divisor.ensures.value

pub step_values-requires-clause-less : goal.step_values-requires-clause-less
step_values-requires-clause-less g c =
    let size = length c.args.tableau.now.point.items in
    let less : Rises 0 size c.in_ok-less.less = c.in_ok-less.ensures.1.rises size c.requires.rises (omega arith, c.requires.below, tt) in
    subst (λ xs. PlacesBelow (length xs) c.as_slice.result.now) (sym c.deref_mut.ensures.value) (subst (λ l. PlacesBelow size l) (sym c.as_slice.ensures) (places-below 0 size c.in_ok-less.less less))

pub step_values-requires-2-clause-less : goal.step_values-requires-2-clause-less
step_values-requires-2-clause-less g c =
    let size = length c.args.tableau.now.point.items in
    let less : Rises 0 size c.in_ok-less.less = c.in_ok-less.ensures.1.rises size c.requires.rises (omega arith, c.requires.below, tt) in
    let tie : size ≡ length c.deref_mut-2.result.now = sym (ap length c.deref_mut-2.ensures.value ∙ c.requires.shape.tie_length) in
    subst (λ m. PlacesBelow m c.as_slice-2.result.now) tie (subst (λ l. PlacesBelow size l) (sym c.as_slice-2.ensures) (places-below 0 size c.in_ok-less.less less))

pub turn_columns-requires : goal.turn_columns-requires
turn_columns-requires g c =
    let value = g.A.Num.Fraction.value in
    let row = c.in_ok-row.ensures.1 in
    let below = places-below 0 (length c.deref.result.now) c.in_ok-row.row row.rises in
    subst (λ m. PlacesBelow m c.as_slice-3.result.now) (ap length (c.deref.ensures.value ∙ sym c.deref_mut-3.ensures.value)) (subst (λ l. PlacesBelow (length c.deref.result.now) l) (sym c.as_slice-3.ensures) below)

pub returns : goal.returns
returns g c =
    let value = g.A.Num.Fraction.value in
    let t = c.args.tableau.now in
    let size = length t.point.items in
    let divisor = value c.in_ok-divisor.divisor in (
      c.in_ok-turn_columns.ensures.0 ∙ c.in_ok-step_values-2.ensures.0 ∙ c.in_ok-step_values.ensures.0 ∙ c.in_ok-row.ensures.0 ∙ c.in_ok-less.ensures.0 ∙ c.in_ok-divisor.ensures.kept ∙ c.in_ok-minus.ensures.kept ∙ c.in_ok-one.ensures.kept,
      pivots_to value size c.args.place c.args.entering c.args.made.now t _ c.in_ok-row.row c.in_ok-less.less (value c.args.number) (value c.in_ok-minus.minus) divisor (record { place = c.args.place; number = c.in_ok-one.one })
          c.requires.shape c.requires.below c.requires.number c.requires.some c.requires.rises refl (c.in_ok-one.ensures.value ∙ int_ℚ-one) (c.in_ok-minus.ensures.value ∙ int_ℚ-neg (pos 1) ∙ ap neg_ℚ int_ℚ-one) c.in_ok-divisor.ensures.value
          c.in_ok-less.ensures.1
          (subst (λ xs. RowTimes value xs c.args.place (inv_ℚ divisor) c.in_ok-row.row) c.deref.ensures.value c.in_ok-row.ensures.1)
          (added_from value c.deref_mut.result.now t.point.items c.step_values.new.values _ c.in_ok-less.less c.as_slice.result.now c.args.place (inv_ℚ divisor) c.deref_mut.ensures.value c.as_slice.ensures
          (written t.point c.step_values.new.values (c.step_values.auto.values ∙ ap length c.deref_mut.ensures.value)) c.in_ok-step_values.ensures.1)
          (ap length (written t.point c.step_values.new.values (c.step_values.auto.values ∙ ap length c.deref_mut.ensures.value)) ∙ c.step_values.auto.values ∙ ap length c.deref_mut.ensures.value)
          (ap length (written t.tie c.step_values-2.new.values (c.step_values-2.auto.values ∙ ap length c.deref_mut-2.ensures.value)) ∙ c.step_values-2.auto.values ∙ ap length c.deref_mut-2.ensures.value)
          (turns_from value c.deref_mut-3.result.now t.inverse.items c.turn_columns.new.inverse _ c.in_ok-row.row c.as_slice-3.result.now c.in_ok-less.less c.as_slice-4.result.now c.deref_mut-3.ensures.value c.as_slice-3.ensures c.as_slice-4.ensures
          (written t.inverse c.turn_columns.new.inverse (c.turn_columns.auto.inverse ∙ ap length c.deref_mut-3.ensures.value)) c.in_ok-turn_columns.ensures.1)
          refl,
    )
