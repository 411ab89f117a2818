use Rattle.std.proofs.Common.{◌≡◌, ◌<◌, ◌/◌, ◌%◌, ℕ, Bool, length, get_or}
use Rattle.problem_core.specs.Facts.{seats}
use Rattle.problem_core.specs.OfParts.{facts_of}
use Rattle.problem_core.proofs.grid.seating.Given as goal

abbrev pub invariant-loop-i : goal.invariant-loop-i
invariant-loop-i l = record {
  whole : length l.cells.items ≡ l.i;
  cells : (k : ℕ) (d : Bool) → k < l.i → get_or l.cells.items k d ≡ seats (facts_of l.parts) (k / l.rooms) (k % l.rooms);
}
