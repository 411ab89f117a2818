use Rattle.std.proofs.Common.{◌≡◌, ◌<◌, ◌&&◌, length, drop}
use Rattle.std.specs.List.{list_any, AllByRecursion}
use Rattle.problem_core.specs.Courses.{place_of}
use Rattle.problem_core.specs.Facts.{share_slot}
use Rattle.meeting_patterns.specs.Pattern.{has_bit}
use Rattle.meeting_patterns.proofs.weigh.meets_one.Given as goal

abbrev pub invariant-loop-other : goal.invariant-loop-other
invariant-loop-other l = record {
  rest : list_any (λ f. has_bit l.mask (place_of l.p f) && share_slot l.p l.event f) l.others ≡ list_any (λ f. has_bit l.mask (place_of l.p f) && share_slot l.p l.event f) (drop l.other-index l.others);
  known : AllByRecursion (λ e. e < length l.p.events) (drop l.other-index l.others);
}
