use Rattle.std.proofs.Common.{◌∙◌, subst}
use Rattle.exact_simplex.specs.Keeping.{StepsKept}
use Rattle.exact_simplex.proofs.KeepingLaws.{drives_on}
use Rattle.exact_simplex.proofs.keeping.drive_kept.Goals as goal

pub returns-in-Some-clause-ends : goal.returns-in-Some-clause-ends
returns-in-Some-clause-ends g c =
    let value = g.A.Num.Fraction.value in
    let t = c.args.task.now in
    let step = subst (λ o. StepsKept value t c.args.row c.args.limit c.drive.progress c.step_kept.new.progress c.step_kept.new.y c.drive.steps c.step_kept.new.steps o) c.in-Some.is c.in_ok-left.ensures.ends.1 in (
      c.in_ok-left.ensures.ends.0 ∙ c.drive.invariant.wides,
      drives_on value t c.args.row c.args.limit c.args.progress.now c.drive.progress c.step_kept.new.progress c.args.steps.now c.drive.steps c.step_kept.new.steps c.drive.y c.step_kept.new.y c.in-Some.left c.drive.invariant.keeps c.drive.invariant.there step,
    )
