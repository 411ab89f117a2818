use Rattle.std.proofs.Common.{◌≡◌, ◌++◌, drop}
use Rattle.std.specs.List.{flat_map}
use Rattle.week_page.specs.Escaped.{escaped_byte}
use Rattle.week_page.proofs.names.push_escaped.Given as goal

abbrev pub invariant-loop-byte : goal.invariant-loop-byte
invariant-loop-byte l = l.text.items ++ flat_map escaped_byte (drop l.byte-index l.name) ≡ l.fn.text.items ++ flat_map escaped_byte l.name
