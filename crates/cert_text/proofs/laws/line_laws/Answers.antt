use Rattle.cert_text.proofs.SpellingLaws.{line_of-is, line_of-reads}
use Rattle.cert_text.proofs.laws.line_laws.Goals as goal

pub returns : goal.returns
returns c = record { spelled = line_of-is; read = line_of-reads }
