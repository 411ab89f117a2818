use Rattle.std.proofs.Common.{◌≡◌, ◌++◌, drop}
use Rattle.std.specs.List.{flat_map}
use Rattle.packing_model.specs.Keys.{named}
use Rattle.packing_model.proofs.runs.put_rows.Given as goal

abbrev pub invariant-loop-key : goal.invariant-loop-key
invariant-loop-key l = l.rows.items ++ flat_map (named l.numbers) (drop l.key-index l.keys) ≡ flat_map (named l.numbers) l.keys
