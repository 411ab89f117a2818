use Rattle.std.proofs.Common.{◌∙◌, ap, subst, length, pos, replicate, ◌++◌, ◌∷◌, []}
use Rattle.exact_num.specs.Ops.{neg_ℚ}
use Rattle.exact_num.specs.Whole.{int_ℚ-one, int_ℚ-neg, int_ℚ-zero}
use Rattle.simplex_tableau.proofs.EndsLaws.{ends_after}
use Rattle.simplex_tableau.specs.Dense.{Added}
use Rattle.simplex_tableau.proofs.TableauLaws.{written}
use Rattle.exact_simplex.proofs.AnswerLemmas.{direction_from}
use Rattle.exact_simplex.proofs.solve.direction.Goals as goal

pub returns : goal.returns
returns g c =
    let value = g.A.Num.Fraction.value in
    let t = c.args.task.now in
    ends_after _ _ _ _ _ c.values_of_columns.result
    (c.in_ok-add_times.ensures.0 ∙ c.in_ok-minus.ensures.kept ∙ c.in_ok-one.ensures.kept ∙ c.in_ok-zero.ensures.kept)
    (λ v h. direction_from value t c.args.progress.now c.args.entering c.args.made.now c.in_ok-moves.moves.items c.add_times.new.x c.deref-3.result.now v.items c.deref-2.result.now c.in_ok-zero.zero c.in_ok-one.one c.in_ok-minus.minus
    c.requires.basis (c.in_ok-zero.ensures.value ∙ int_ℚ-zero) (c.in_ok-one.ensures.value ∙ int_ℚ-one) (c.in_ok-minus.ensures.value ∙ int_ℚ-neg (pos 1) ∙ ap neg_ℚ int_ℚ-one)
    (c.in_ok-moves.ensures.ok ∙ ap (λ k. replicate k c.in_ok-zero.zero) (c.len.ensures ∙ t.sides.ok.0))
    (c.add_times.auto.x ∙ ap length c.deref_mut.ensures.value)
    (subst (λ xs. Added value xs (value c.in_ok-minus.minus) c.args.made.now c.add_times.new.x) c.deref_mut.ensures.value c.in_ok-add_times.ensures.1)
    (c.deref-3.ensures.value ∙ c.in_ok-append_number.ensures.ok ∙ ap (λ xs. xs ++ c.in_ok-one.one ∷ []) (written c.in_ok-moves.moves c.add_times.new.x (c.add_times.auto.x ∙ ap length c.deref_mut.ensures.value)))
    (c.deref-2.ensures.value ∙ c.in_ok-append_number-2.ensures.ok ∙ ap (λ xs. xs ++ c.args.entering ∷ []) (c.in_ok-variables.ensures.items ∙ c.deref.ensures.value))
    h) c.values_of_columns.ensures
