use Rattle.std.proofs.Common.{◌≡◌, [], ◌∷◌}
use Rattle.reports.specs.Rooms.{each_below, session_at}
use Rattle.reports.proofs.session.sessions.Given as goal

abbrev pub invariant-loop-event : goal.invariant-loop-event
invariant-loop-event l = l.found ≡ each_below (λ e. session_at l.times l.problem l.choice.entries e ∷ []) l.event
