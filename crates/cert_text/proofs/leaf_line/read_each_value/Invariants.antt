use Rattle.std.proofs.Common.{◌≡◌, length}
use Rattle.cert_text.specs.Numbers.{each_of}
use Rattle.cert_text.specs.Spelling.{value_of}
use Rattle.cert_text.proofs.ReadLaws.{behind}
use Rattle.cert_text.proofs.leaf_line.read_each_value.Given as goal

abbrev pub invariant-loop-field : goal.invariant-loop-field
invariant-loop-field l = behind l.values (each_of value_of l.fields) ≡ each_of value_of l.fn.fields

abbrev pub decreases-loop-field : goal.decreases-loop-field
decreases-loop-field l = length l.fields
