use Rattle.std.proofs.Common.{◌≡◌, map, take}
use Rattle.serde_json.specs.View.{view}
use Rattle.reports.specs.Json.{session_data}
use Rattle.reports.proofs.json_parts.session_list.Given as goal

abbrev pub invariant-loop-session : goal.invariant-loop-session
invariant-loop-session l = record {
  so_far : map view l.list.items ≡ map (session_data l.instance) (take l.session-index l.sessions);
}
