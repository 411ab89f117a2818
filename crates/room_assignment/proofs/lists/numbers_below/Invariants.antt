use Rattle.std.proofs.Common.{◌≡◌, ◌<◌, length, IfSome}
use Rattle.std.specs.List.{All}
use Rattle.room_assignment.proofs.lists.numbers_below.Given as goal

abbrev pub invariant-loop-at : goal.invariant-loop-at
invariant-loop-at l = record {
  count : length l.numbers ≡ l.at;
  below : All (λ number. IfSome number (λ n. n < l.limit)) l.numbers;
}
