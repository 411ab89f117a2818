use Rattle.std.proofs.Common.{◌≡◌, map, take}
use Rattle.serde_json.specs.View.{view}
use Rattle.reports.specs.Json.{used_data}
use Rattle.reports.proofs.json_parts.used_list.Given as goal

abbrev pub invariant-loop-used : goal.invariant-loop-used
invariant-loop-used l = record {
  so_far : map view l.list.items ≡ map (used_data l.instance) (take l.used-index l.pairs);
}
