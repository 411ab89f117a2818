use Rattle.std.proofs.Common.{◌≡◌, ◌<◌, ◌+◌, not, length, drop}
use Rattle.std.specs.Prelude.{slice_index, ◌==◌}
use Rattle.std.specs.List.{list_any, AllByRecursion}
use Rattle.problem_core.specs.Courses.{place_of}
use Rattle.meeting_patterns.specs.Pattern.{has_bit, is_equal}
use Rattle.meeting_patterns.proofs.choose.differs.Given as goal

abbrev pub invariant-loop-event : goal.invariant-loop-event
invariant-loop-event l = record {
  rest : list_any (λ e. not (is_equal (has_bit l.x.mask (place_of l.p e)) (slice_index l.entries e == l.x.room + 1))) l.events
      ≡ list_any (λ e. not (is_equal (has_bit l.x.mask (place_of l.p e)) (slice_index l.entries e == l.x.room + 1))) (drop l.event-index l.events);
  known : AllByRecursion (λ e. e < length l.p.events) (drop l.event-index l.events);
}
