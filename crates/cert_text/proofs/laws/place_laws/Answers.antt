use Rattle.cert_text.proofs.CountLaws.{step_counts}
use Rattle.cert_text.proofs.laws.place_laws.Goals as goal

pub returns : goal.returns
returns c = step_counts
