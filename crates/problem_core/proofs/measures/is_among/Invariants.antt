use Rattle.std.proofs.Common.{◌≡◌, ◌<◌, length, drop}
use Rattle.std.specs.Prelude.{slice_index, ◌==◌}
use Rattle.std.specs.List.{list_any, AllByRecursion}
use Rattle.problem_core.proofs.measures.is_among.Given as goal

abbrev pub invariant-loop-event : goal.invariant-loop-event
invariant-loop-event l = record {
  rest : list_any (λ e. slice_index l.entries e == l.entry) l.events ≡ list_any (λ e. slice_index l.entries e == l.entry) (drop l.event-index l.events);
  known : AllByRecursion (λ e. e < length l.entries) (drop l.event-index l.events);
}
