use Rattle.std.proofs.Common.{◌≡◌, ◌++◌, drop}
use Rattle.reports.specs.Lines.{meeting_lines}
use Rattle.reports.proofs.meetings.meeting_lines.Given as goal

abbrev pub invariant-loop-event : goal.invariant-loop-event
invariant-loop-event l = record {
  rest : l.text.items ++ meeting_lines l.instance (drop l.event l.meetings) (drop l.event l.entries) ≡ meeting_lines l.instance l.meetings l.entries;
}
