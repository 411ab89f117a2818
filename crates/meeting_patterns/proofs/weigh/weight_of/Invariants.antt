use Rattle.std.proofs.Common.{◌≡◌, ◌<◌, ◌*◌, true, length, drop}
use Rattle.std.specs.Prelude.{◌+ℤ◌, pos}
use Rattle.std.specs.List.{AllByRecursion}
use Rattle.numbers.specs.Sums.{picked, total}
use Rattle.problem_core.specs.Courses.{place_of, is_of_course}
use Rattle.problem_core.specs.Measures.{gain}
use Rattle.problem_core.specs.Kept.{IsWithin}
use Rattle.meeting_patterns.specs.Pattern.{has_bit}
use Rattle.meeting_patterns.proofs.weigh.weight_of.Given as goal

abbrev pub invariant-loop-event : goal.invariant-loop-event
invariant-loop-event l = record {
  rest : l.sum +ℤ total (λ e. picked (has_bit l.a.mask (place_of l.p e)) (gain l.p l.level e l.a.room)) (drop l.event-index l.events)
      ≡ total (λ e. picked (has_bit l.a.mask (place_of l.p e)) (gain l.p l.level e l.a.room)) l.events;
  small : IsWithin (pos (l.event-index * 48000000)) l.sum;
  known : AllByRecursion (λ e. e < length l.p.events) (drop l.event-index l.events);
  of_course : AllByRecursion (λ e. is_of_course l.p l.a.course e ≡ true) (drop l.event-index l.events);
}
