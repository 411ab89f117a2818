use Rattle.std.proofs.Common.{◌≡◌, ◌*◌, ◌<◌, ℕ, length, take}
use Rattle.numbers.specs.Below.{first_from}
use Rattle.problem_core.specs.Choice.{entry}
use Rattle.problem_core.specs.FirstChoice.{can_take}
use Rattle.problem_core.specs.Taken.{IsTaken}
use Rattle.problem_core.proofs.greedy.first_choice.Given as goal

abbrev pub invariant-loop-event : goal.invariant-loop-event
invariant-loop-event l = record {
  one_each : length l.entries ≡ l.event;
  lowest : (e : ℕ) → e < l.event → entry l.entries e ≡ first_from (can_take l.p (take e l.entries) e) 0 (length l.p.capacity);
  whole : length l.taken ≡ length l.p.capacity * l.p.slots;
  taken : IsTaken l.p l.entries l.event l.taken;
}
