use Rattle.std.proofs.Common.{◌∙◌, ap, subst, refl, [], ◌≡◌, replicate}
use Rattle.exact_num.specs.Whole.{int_ℚ-one}
use Rattle.exact_simplex.specs.Build.{HasUnits}
use Rattle.exact_simplex.specs.Start.{AreSlacks}
use Rattle.exact_simplex.specs.Progress.{size_of}
use Rattle.simplex_tableau.specs.declared.state.RowState.TheVariants as state
use Rattle.exact_simplex.proofs.StartLemmas.{starts_from}
use Rattle.exact_simplex.proofs.start.start.Goals as goal

pub returns : goal.returns
returns g c =
    let value = g.A.Num.Fraction.value in
    let t = c.args.task.now in
    let rows : c.len-rows.result ≡ size_of t = c.len-rows.ensures ∙ t.sides.ok.0 in (
      c.in_ok-tie.ensures.0 ∙ c.in_ok-one.ensures.kept,
      starts_from value t _ c.in_ok-one.one c.requires.few c.requires.slacks (c.in_ok-one.ensures.value ∙ int_ℚ-one)
          (subst (λ k. AreSlacks t.columns k c.in_ok-basis.basis.items) rows c.in_ok-basis.ensures.ok)
          (subst (λ k. HasUnits c.in_ok-one.one k [] c.append_units.new.lists.items) rows (subst (λ xs. HasUnits c.in_ok-one.one c.len-rows.result xs c.append_units.new.lists.items) c.new-inverse.ensures.items c.in_ok-append_units.ensures.ok))
          (c.in_ok-point.ensures.items ∙ c.deref.ensures.value) (c.in_ok-tie.ensures.1 ∙ rows)
          (c.in_ok-states.ensures.ok ∙ ap (λ k. replicate k state.Waiting) rows) refl,
    )
