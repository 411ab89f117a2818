use Rattle.std.proofs.Common.{◌∙◌, ap, sym, subst, length}
use Rattle.simplex_tableau.proofs.EndsLaws.{ends_after}
use Rattle.simplex_tableau.proofs.TableauLaws.{written}
use Rattle.exact_simplex.specs.Force.{Settles}
use Rattle.exact_simplex.proofs.ForceLemmas.{stuck_after, never_unbounded, forced_here, forced_from}
use Rattle.exact_simplex.proofs.force.drive_fully.Goals as goal

pub settle_or_show-requires-clause-end : goal.settle_or_show-requires-clause-end
settle_or_show-requires-clause-end g c =
    let value = g.A.Num.Fraction.value in
    let t = c.args.task.now in
    stuck_after value t c.args.row c.args.limit c.args.up c.args.progress.now c.drive.new.progress c.args.y.items c.drive.new.y _ c.args.steps.now c.drive.new.steps c.in_ok-drive.field-0
    c.requires.row c.requires.driven c.in_ok-drive.ensures.ends.1.0 (written c.args.y c.drive.new.y (c.drive.auto.y ∙ ap length c.deref_mut.ensures.value)) c.in-Stuck.is c.in_ok-drive.ensures.ends.1.1

pub unreachable-requires : goal.unreachable-requires
unreachable-requires g c =
    let value = g.A.Num.Fraction.value in
    let t = c.args.task.now in
    never_unbounded value t c.args.row c.args.limit c.args.up c.args.progress.now c.drive.new.progress c.args.y.items c.drive.new.y c.args.steps.now c.drive.new.steps c.in-Unbounded.entering c.in-Unbounded.made
    c.requires.task c.requires.row c.requires.driven c.in_ok-drive.ensures.ends.1.0 c.in_ok-drive.field-0 c.in-Unbounded.is c.in_ok-drive.ensures.ends.1.1

pub returns-in-Left-clause-ends : goal.returns-in-Left-clause-ends
returns-in-Left-clause-ends g c =
    let value = g.A.Num.Fraction.value in
    let t = c.args.task.now in
    let second = subst (λ s. Settles value t c.args.row s c.drive.new.progress c.set_state.new.progress) c.state_in_force.ensures c.set_state.ensures in
    (c.in_ok-drive.ensures.ends.0, forced_here value t c.args.row c.args.limit c.args.kind c.args.progress.now c.drive.new.progress c.set_state.new.progress c.args.steps.now c.drive.new.steps c.in_ok-drive.ensures.ends.1.0 second)

pub returns-in-Stuck-clause-ends : goal.returns-in-Stuck-clause-ends
returns-in-Stuck-clause-ends g c =
    let value = g.A.Num.Fraction.value in
    let t = c.args.task.now in
    ends_after _ _ _ _ _ c.settle_or_show.result c.in_ok-drive.ensures.ends.0
    (λ v h. forced_from value t c.args.row c.args.limit c.args.kind c.args.progress.now c.drive.new.progress c.settle_or_show.new.progress c.args.steps.now c.drive.new.steps v c.in_ok-drive.ensures.ends.1.0 h) c.settle_or_show.ensures
