use Rattle.input_core.proofs.LineLemmas.{length-lines_of}
use Rattle.input_core.proofs.cursors.Lines.new.Goals as goal

pub returns-clause-fits : goal.returns-clause-fits
returns-clause-fits c = length-lines_of c.args.bytes.now
