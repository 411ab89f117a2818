use Rattle.std.proofs.Common.{◌≡◌, ◌++◌, drop, true}
use Rattle.std.specs.List.{flat_map}
use Rattle.reports.specs.Rooms.{are_known}
use Rattle.reports.specs.Report.{roomed_line}
use Rattle.reports.proofs.report.push_roomed.Given as goal

abbrev pub invariant-loop-session : goal.invariant-loop-session
invariant-loop-session l = record {
  text : l.text.items ++ flat_map (roomed_line l.instance) (drop l.session-index l.sessions) ≡ l.fn.text.items ++ flat_map (roomed_line l.instance) l.sessions;
  known : are_known l.instance (drop l.session-index l.sessions) ≡ true;
}
