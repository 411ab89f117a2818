use Rattle.std.proofs.Common.{ℕ, ◌≡◌, true, false, take}
use Rattle.search_nodes.specs.Marks.{in_runs, is_filled}
use Rattle.search_nodes.proofs.marks.Marks.meets.Given as goal

abbrev pub invariant-loop-run : goal.invariant-loop-run
invariant-loop-run l = (r : ℕ) → in_runs (take l.run-index l.runs) r ≡ true → is_filled l.self r ≡ false
