use Rattle.std.proofs.Common.{◌≡◌, drop}
use Rattle.input_core.specs.Memory.{bytes_before}
use Rattle.input_core.proofs.sink.listed.Given as goal

abbrev pub invariant-loop-entry : goal.invariant-loop-entry
invariant-loop-entry l = bytes_before (drop l.entry-index l.failing) l.call ≡ bytes_before l.failing l.call
