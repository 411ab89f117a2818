use Rattle.std.proofs.Common.{◌<◌, ◌∙◌, ap, sym, subst, take}
use Rattle.simplex_tableau.specs.Dense.{num}
use Rattle.exact_simplex.specs.Empty.{ShowsEmptyFraction}
use Rattle.exact_simplex.proofs.AnswerLemmas.{empty_same, num-take, forces_empty}
use Rattle.exact_simplex.proofs.solve.solve.Goals as goal

pub empty-requires-clause-shows : goal.empty-requires-clause-shows
empty-requires-clause-shows g c =
    let value = g.A.Num.Fraction.value in
    let lp = c.args.lp.now in
    let k = c.len.result in
    let y = c.in-Some-Empty.y.items in
    subst (λ xs. ShowsEmptyFraction lp (num value (take k xs))) (sym (c.deref.ensures.value ∙ ap (λ v. v.items) c.in-Some-Empty.y-is))
    (empty_same lp (num value y) (num value (take k y)) (λ i l. num-take value k y i (subst (λ n. i < n) (sym c.len.ensures) l))
    (forces_empty value lp c.in_ok-task.task c.limit_of-limit.result c.lead_rows.new.progress c.force_rows.new.progress c.args.steps.now c.force_rows.new.steps c.in_ok-force_rows.field-0 c.in-Some-Empty.field-0 c.in-Some-Empty.y c.in-Some-Empty.is c.in-Some-Empty.field-0-is c.in_ok-force_rows.ensures.ends.1))
