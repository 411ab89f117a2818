use Rattle.std.proofs.Common.{◌≡◌, ◌++◌, drop, map}
use Rattle.std.specs.Fmt.{decimal}
use Rattle.cert_text.specs.Writing.{blank_before}
use Rattle.cert_text.proofs.writer.write_numbers.Given as goal

abbrev pub invariant-loop-number : goal.invariant-loop-number
invariant-loop-number l = l.bytes.items ++ (blank_before (map decimal (drop l.number-index l.numbers))) ≡ l.fn.bytes.items ++ blank_before (map decimal l.numbers)
