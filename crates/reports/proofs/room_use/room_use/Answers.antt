use Rattle.std.proofs.Common.{◌∙◌, sym, subst, List}
use Rattle.reports.specs.Groups.{AreFit}
use Rattle.reports.specs.declared.session.Session.{Session}
use Rattle.reports.proofs.RoomLaws.{sessions-fit}
use Rattle.reports.proofs.room_use.room_use.Goals as goal

pub gathered-requires-clause-fit : goal.gathered-requires-clause-fit
gathered-requires-clause-fit c =
    let i = c.args.instance.now in
    subst (λ (xs : List Session). AreFit i xs) (sym (c.as_slice.ensures ∙ c.in_ok-sessions.ensures))
    (sessions-fit i c.args.times.now c.args.problem.now c.args.choice.now.entries c.requires.times c.laws.ensures c.requires.problem c.requires.legal)
