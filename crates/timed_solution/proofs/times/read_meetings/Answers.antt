use Rattle.std.proofs.Common.{sym, ◌∙◌, ap}
use Rattle.timed_solution.specs.Placed.{has_place}
use Rattle.timed_solution.proofs.TimesLemmas.{meeting_of-ok, admitted-few}
use Rattle.timed_solution.proofs.PlacedLemmas.{place-known}
use Rattle.timed_solution.proofs.times.read_meetings.Goals as goal

pub push-requires-clause-placed : goal.push-requires-clause-placed
push-requires-clause-placed c =
    let new = meeting_of-ok c.args.i.now c.loop-placed.placed.meetings c.in-Some.row.fields c.in-Ok.meeting (sym c.in-Ok.ensures) in
    ap (λ n. has_place n c.in-Ok.meeting) c.loop-placed.invariant.same ∙ place-known c.args.i.now c.in-Ok.meeting c.requires.instance new.known

pub push-requires-clause-few : goal.push-requires-clause-few
push-requires-clause-few c =
    let new = meeting_of-ok c.args.i.now c.loop-placed.placed.meetings c.in-Some.row.fields c.in-Ok.meeting (sym c.in-Ok.ensures) in
    admitted-few c.args.i.now c.loop-placed.placed.meetings c.in-Ok.meeting c.requires.instance new
