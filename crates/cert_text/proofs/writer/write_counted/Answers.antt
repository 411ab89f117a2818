use Rattle.std.proofs.Common.{map, length}
use Rattle.std.specs.Fmt.{decimal}
use Rattle.cert_text.proofs.WriteLaws.{field_line}
use Rattle.cert_text.proofs.writer.write_counted.Goals as goal

pub returns : goal.returns
returns c =
    field_line c.args.bytes.now.items c.extend_from_slice.new.self.items c.write_natural.new.bytes.items c.write_numbers.new.bytes.items c.push.new.self.items c.args.word.now (decimal (length c.args.numbers.now)) (map decimal c.args.numbers.now)
    c.in_ok-extend_from_slice.ensures.items c.in_ok-write_natural.ensures c.in_ok-write_numbers.ensures c.in_ok-push.ensures.items
