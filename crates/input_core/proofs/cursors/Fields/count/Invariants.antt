use Rattle.std.proofs.Common.{◌≡◌, ◌+◌, ◌-◌, ◌≤◌, length, drop}
use Rattle.input_core.specs.Lines.{fields_of}
use Rattle.input_core.proofs.cursors.Fields.count.Given as goal

abbrev pub invariant-loop-to : goal.invariant-loop-to
invariant-loop-to l = record {
  within : l.at ≤ length l.self-inside.line.now;
  counted : l.count + length (fields_of (drop l.at l.self-inside.line.now)) ≡ length (fields_of (drop l.self-inside.at l.self-inside.line.now));
  small : l.count ≤ l.at;
}

abbrev pub decreases-loop-to : goal.decreases-loop-to
decreases-loop-to l = length l.self-inside.line.now - l.at
