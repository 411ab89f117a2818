use Rattle.std.proofs.Common.{◌≡◌, ◌∙◌, ◌∷◌, ◌++◌, ◌+◌, ◌<◌, [], ap, arith, length, take, drop, length-drop}
use Rattle.cert_text.specs.Numbers.{cut}
use Rattle.cert_text.specs.Text.{pieces_before, last_of, whole_lines, rest_of}
use Rattle.cert_text.proofs.NumberLaws.{cut_all, split_at}
use Rattle.cert_text.proofs.TextLaws.{next_whole}
use Rattle.cert_text.proofs.reader.next_line.Goals as goal

pub returns-then-size-bytes : goal.returns-then-size-bytes
returns-then-size-bytes c =
    let whole : cut 10 c.args.bytes.now ≡ c.args.bytes.now ∷ [] = cut_all 10 c.args.bytes.now c.length_to-size.result c.if-size-bytes.true c.length_to-size.ensures.before in
    (ap pieces_before whole, ap last_of whole)

pub returns : goal.returns
returns c =
    let bytes = c.args.bytes.now in
    let n = c.length_to-size.result in
    let l : n < length bytes = omega arith in
    let split : bytes ≡ take n bytes ++ (10 ∷ drop (n + 1) bytes) = split_at 10 bytes n l (c.length_to-size.ensures.found l) in
    let next = next_whole (take n bytes) (drop (n + 1) bytes) c.length_to-size.ensures.before in
    rw (c.split_at.ensures.front, c.split_at-2.ensures.back) (ap whole_lines split ∙ next.0, ap rest_of split ∙ next.1, omega (arith, length-drop (n + 1) bytes))
