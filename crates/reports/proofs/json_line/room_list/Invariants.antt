use Rattle.std.proofs.Common.{◌≡◌, [], ◌∷◌, map, slice_index_or}
use Rattle.serde_json.specs.View.{view}
use Rattle.reports.specs.Rooms.{each_below}
use Rattle.reports.specs.Json.{room_with}
use Rattle.reports.proofs.json_line.room_list.Given as goal

abbrev pub invariant-loop-r : goal.invariant-loop-r
invariant-loop-r l = record {
  so_far : map view l.list.items ≡ each_below (λ r. room_with l.instance r (slice_index_or l.by_room r []) ∷ []) l.r;
}
