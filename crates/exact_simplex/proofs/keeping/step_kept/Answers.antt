use Rattle.std.proofs.Common.{◌∙◌, sym, subst}
use Rattle.exact_simplex.specs.Keeping.{StepsKept}
use Rattle.exact_simplex.proofs.KeepingLaws.{accepted_below, accepted_helps, steps_kept}
use Rattle.exact_simplex.proofs.keeping.step_kept.Goals as goal

pub bring_in-requires-clause-below : goal.bring_in-requires-clause-below
bring_in-requires-clause-below g c =
    accepted_below g.A.Num.Fraction.value c.args.task.now c.deref.result.now c.args.y.now c.args.up c.in_ok-entering.field-0 c.in-Some.entering c.in-Some.is c.in_ok-entering.ensures.1

pub bring_in-requires-clause-helps : goal.bring_in-requires-clause-helps
bring_in-requires-clause-helps g c =
    accepted_helps g.A.Num.Fraction.value c.args.task.now c.args.progress.now.states.items c.deref.result.now c.args.y.now c.args.up c.in_ok-entering.field-0 c.in-Some.entering c.in-Some.is c.deref.ensures.value c.in_ok-entering.ensures.1

pub returns-clause-ends : goal.returns-clause-ends
returns-clause-ends g c =
    let value = g.A.Num.Fraction.value in (
      c.in_ok-went.ensures.ends.0 ∙ c.in_ok-entering.ensures.0,
      subst (λ k. StepsKept value c.args.task.now c.args.row c.args.limit c.args.progress.now c.bring_in.new.progress c.bring_in.new.y c.args.steps.now c.bring_in.new.steps k) (sym c.rest_of.ensures)
          (steps_kept value c.args.task.now c.args.row c.args.up c.args.limit c.args.progress.now c.bring_in.new.progress c.bring_in.new.y c.args.steps.now c.bring_in.new.steps c.in_ok-went.went c.in_ok-went.ensures.ends.1),
    )
