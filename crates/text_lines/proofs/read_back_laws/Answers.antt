use Rattle.text_lines.proofs.ReadBack.{unread-written, number_of-decimal}
use Rattle.text_lines.proofs.read_back_laws.Goals as goal

pub returns : goal.returns
returns c = record { lines = unread-written; numbers = number_of-decimal }
