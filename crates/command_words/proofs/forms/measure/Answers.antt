use Rattle.command_words.specs.Forms.{measure}
use Rattle.command_words.proofs.forms.measure.Goals as goal

pub returns : goal.returns
unfolding measure
returns c = c.on_files.ensures
