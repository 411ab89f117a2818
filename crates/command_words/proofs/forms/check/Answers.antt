use Rattle.command_words.specs.Forms.{check}
use Rattle.command_words.proofs.forms.check.Goals as goal

pub returns : goal.returns
unfolding check
returns c = c.on_certificate.ensures
