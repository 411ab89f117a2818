use Rattle.std.proofs.Common.{◌≡◌, drop}
use Rattle.problem_core.specs.OfParts.{all_pairs, rows_rise}
use Rattle.problem_core.proofs.parts.all_rise.Given as goal

abbrev pub invariant-loop-i : goal.invariant-loop-i
invariant-loop-i l = all_pairs rows_rise (drop l.i l.rows) ≡ all_pairs rows_rise l.rows
