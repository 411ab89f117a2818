use Rattle.cert_text.proofs.TextLaws.{text_reads, text_is, fault_is, one_certificate}
use Rattle.cert_text.proofs.laws.text_laws.Goals as goal

pub returns : goal.returns
returns c = record { read = text_reads; spelled = text_is; faulty = fault_is; one = one_certificate }
