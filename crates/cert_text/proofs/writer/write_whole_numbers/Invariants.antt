use Rattle.std.proofs.Common.{◌≡◌, ◌++◌, drop, map}
use Rattle.std.specs.Fmt.{signed_decimal}
use Rattle.cert_text.specs.Writing.{blank_before}
use Rattle.cert_text.proofs.writer.write_whole_numbers.Given as goal

abbrev pub invariant-loop-value : goal.invariant-loop-value
invariant-loop-value l = l.bytes.items ++ (blank_before (map signed_decimal (drop l.value-index l.values))) ≡ l.fn.bytes.items ++ blank_before (map signed_decimal l.values)
