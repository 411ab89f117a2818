use Rattle.std.proofs.Common.{◌∙◌, sym, subst}
use Rattle.exact_num.specs.Order.{<ℚ-≤ℚ, ≤ℚ_refl, ◌≤ℚ◌}
use Rattle.exact_num.specs.Ops.{zero_ℚ}
use Rattle.exact_simplex.proofs.ForceLemmas.{point_is}
use Rattle.exact_simplex.proofs.force.force_row.Goals as goal

pub force_positive-requires-clause-side : goal.force_positive-requires-clause-side
force_positive-requires-clause-side g c =
    let value = g.A.Num.Fraction.value in
    let p = c.args.progress.now in
    subst (λ q. zero_ℚ ≤ℚ q) (sym (point_is value c.args.task.now c.args.row p c.index.result.now c.requires.progress c.requires.row c.index.ensures ∙ c.in-Equal.ensures)) (≤ℚ_refl zero_ℚ)

pub force_positive-requires-in-Greater-clause-side : goal.force_positive-requires-in-Greater-clause-side
force_positive-requires-in-Greater-clause-side g c =
    let value = g.A.Num.Fraction.value in
    let p = c.args.progress.now in
    subst (λ q. zero_ℚ ≤ℚ q) (sym (point_is value c.args.task.now c.args.row p c.index.result.now c.requires.progress c.requires.row c.index.ensures)) (<ℚ-≤ℚ zero_ℚ (value c.index.result.now) c.in-Greater.ensures)
