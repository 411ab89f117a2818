use Rattle.cert_text.proofs.ShareLaws.{share_plain, plain_writable, plain_of_one, share_of_two}
use Rattle.cert_text.proofs.PlainLaws.{flat_lines}
use Rattle.cert_text.proofs.laws.share_laws.Goals as goal

pub returns : goal.returns
returns c = record { one = share_plain; writable = plain_writable; first = plain_of_one; second = share_of_two; lines = flat_lines }
