use Rattle.std.proofs.Common.{◌≡◌, drop}
use Rattle.problem_core.specs.OfParts.{all_pairs, preferences_differ}
use Rattle.problem_core.proofs.parts.all_differ.Given as goal

abbrev pub invariant-loop-i : goal.invariant-loop-i
invariant-loop-i l = all_pairs preferences_differ (drop l.i l.prefer) ≡ all_pairs preferences_differ l.prefer
