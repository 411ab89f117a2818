use Rattle.std.proofs.Common.{ℕ, ◌≡◌, ◌<◌, ◌+◌, ◌&&◌, length, drop, take, cond}
use Rattle.std.specs.Prelude.{slice_index, ◌==◌}
use Rattle.std.specs.List.{list_any, AllByRecursion}
use Rattle.problem_core.specs.Courses.{place_of}
use Rattle.meeting_patterns.specs.Pattern.{has_bit}
use Rattle.meeting_patterns.proofs.choose.place.Given as goal

abbrev pub invariant-loop-event : goal.invariant-loop-event
invariant-loop-event l = record {
  one_each : length l.entries.items ≡ length l.p.events;
  placed : (e : ℕ) → slice_index l.entries.items e ≡ cond (list_any (λ f. (f == e) && has_bit l.x.mask (place_of l.p f)) (take l.event-index l.events)) (l.x.room + 1) (slice_index l.fn.entries.items e);
  known : AllByRecursion (λ e. e < length l.p.events) (drop l.event-index l.events);
}
