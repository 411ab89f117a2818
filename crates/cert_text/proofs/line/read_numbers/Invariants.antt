use Rattle.std.proofs.Common.{◌≡◌, length}
use Rattle.cert_text.specs.Numbers.{each_of}
use Rattle.cert_text.specs.Spelling.{small_number}
use Rattle.cert_text.proofs.ReadLaws.{behind}
use Rattle.cert_text.proofs.line.read_numbers.Given as goal

abbrev pub invariant-loop-field : goal.invariant-loop-field
invariant-loop-field l = behind l.numbers (each_of small_number l.fields) ≡ each_of small_number l.fn.fields

abbrev pub decreases-loop-field : goal.decreases-loop-field
decreases-loop-field l = length l.fields
