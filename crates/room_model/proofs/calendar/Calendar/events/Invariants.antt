use Rattle.std.proofs.Common.{◌≡◌, ◌++◌, map, drop}
use Rattle.room_model.specs.ProblemOf.{event_part}
use Rattle.room_model.proofs.calendar.Calendar.events.Given as goal

abbrev pub invariant-loop-meeting : goal.invariant-loop-meeting
invariant-loop-meeting l = l.events ++ map (event_part l.self.instance.periods l.self.measures) (drop l.meeting-index l.meetings) ≡ map (event_part l.self.instance.periods l.self.measures) l.meetings
