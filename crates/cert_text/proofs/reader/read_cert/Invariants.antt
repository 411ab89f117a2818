use Rattle.std.proofs.Common.{◌≡◌, ◌+◌, ◌<◌, ◌≤◌, length}
use Rattle.cert_text.specs.Text.{whole_lines, rest_of, read_from, certificate_of}
use Rattle.cert_text.specs.Reading.{standing_of, IsSoundReader}
use Rattle.cert_text.proofs.reader.read_cert.Given as goal

abbrev pub invariant-lines : goal.invariant-lines
invariant-lines l = record {
  read : read_from (standing_of l.reader) l.number (whole_lines l.rest) (rest_of l.rest) ≡ certificate_of l.bytes;
  sound : IsSoundReader l.reader;
  few : length l.reader.nodes < l.number;
  within : l.number + length l.rest ≤ length l.bytes + 1;
}

abbrev pub decreases-lines : goal.decreases-lines
decreases-lines l = length l.rest
