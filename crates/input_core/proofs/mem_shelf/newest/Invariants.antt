use Rattle.std.proofs.Common.{◌≡◌, drop}
use Rattle.std.specs.Prelude.{option_map}
use Rattle.input_core.specs.Memory.{held_by, held_after}
use Rattle.input_core.proofs.mem_shelf.newest.Given as goal

abbrev pub invariant-loop-file : goal.invariant-loop-file
invariant-loop-file l = held_after (option_map (λ bytes. bytes.now) l.found) (drop l.file-index l.files) l.name ≡ held_by l.files l.name
