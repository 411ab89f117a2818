use Rattle.std.proofs.Common.{◌≡◌, drop}
use Rattle.problem_core.specs.OfParts.{all_pairs, events_agree}
use Rattle.problem_core.proofs.parts.all_agree.Given as goal

abbrev pub invariant-loop-i : goal.invariant-loop-i
invariant-loop-i l = all_pairs events_agree (drop l.i l.events) ≡ all_pairs events_agree l.events
