use Rattle.std.proofs.Common.{◌∙◌, ◌+◌, ap, subst, refl, length}
use Rattle.exact_num.specs.Whole.{int_ℚ-one}
use Rattle.simplex_tableau.proofs.TableauLaws.{written}
use Rattle.exact_simplex.specs.Build.{HasUnits, FillsColumns, AreSides}
use Rattle.exact_simplex.proofs.BuildLemmas.{describes_from}
use Rattle.exact_simplex.proofs.build.build.Goals as goal

pub returns : goal.returns
returns g c =
    let value = g.A.Num.Fraction.value in
    let lp = c.args.lp.now in
    let units = c.append_units.new.lists.items in (
      c.in_ok-sides.ensures.0 ∙ c.in_ok-fill_columns.ensures.0 ∙ c.in_ok-one.ensures.kept,
      describes_from value lp _ c.in_ok-lists.lists.items units c.fill_columns.new.lists c.in_ok-one.one c.requires (c.in_ok-one.ensures.value ∙ int_ℚ-one)
          c.in_ok-lists.ensures.ok
          (subst (λ k. HasUnits c.in_ok-one.one (k + 1) c.in_ok-lists.lists.items units) c.len.ensures c.in_ok-append_units.ensures.ok)
          (subst (λ xs. FillsColumns value xs lp c.fill_columns.new.lists) c.deref_mut.ensures.value c.in_ok-fill_columns.ensures.1)
          (subst (λ rows. AreSides value rows c.in_ok-sides.sides.items) c.as_slice.ensures c.in_ok-sides.ensures.1)
          refl (written c.append_units.new.lists c.fill_columns.new.lists (c.fill_columns.auto.lists ∙ ap length c.deref_mut.ensures.value)),
    )
