use Rattle.std.proofs.Common.{◌≡◌, [], ◌∷◌, map, slice_index_or}
use Rattle.serde_json.specs.View.{view}
use Rattle.reports.specs.Rooms.{each_below}
use Rattle.reports.specs.Json.{course_with}
use Rattle.reports.proofs.json_line.course_list.Given as goal

abbrev pub invariant-loop-c : goal.invariant-loop-c
invariant-loop-c l = record {
  so_far : map view l.list.items ≡ each_below (λ c. course_with l.instance c (slice_index_or l.by_course c []) ∷ []) l.c;
}
