use Rattle.std.proofs.Common.{ℕ, ◌≡◌, ◌<◌, ◌≤◌, false}
use Rattle.search_nodes.specs.Marks.{is_filled}
use Rattle.search_nodes.proofs.marks.Marks.meets_run.Given as goal

abbrev pub invariant-loop-row : goal.invariant-loop-row
invariant-loop-row l = (r : ℕ) → l.fn.run.first ≤ r → r < l.row → is_filled l.self r ≡ false
