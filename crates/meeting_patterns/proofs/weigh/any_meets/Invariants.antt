use Rattle.std.proofs.Common.{◌≡◌, ◌<◌, ◌&&◌, length, drop}
use Rattle.std.specs.List.{list_any, AllByRecursion}
use Rattle.problem_core.specs.Courses.{place_of, events_of}
use Rattle.problem_core.specs.Facts.{share_slot}
use Rattle.meeting_patterns.specs.Pattern.{has_bit}
use Rattle.meeting_patterns.proofs.weigh.any_meets.Given as goal

abbrev pub invariant-loop-event : goal.invariant-loop-event
invariant-loop-event l = record {
  rest : list_any (λ e. has_bit l.a.mask (place_of l.p e) && list_any (λ f. has_bit l.b.mask (place_of l.p f) && share_slot l.p e f) (events_of l.p l.b.course)) l.events
      ≡ list_any (λ e. has_bit l.a.mask (place_of l.p e) && list_any (λ f. has_bit l.b.mask (place_of l.p f) && share_slot l.p e f) (events_of l.p l.b.course)) (drop l.event-index l.events);
  known : AllByRecursion (λ e. e < length l.p.events) (drop l.event-index l.events);
}
