use Rattle.std.proofs.Common.{◌∙◌}
use Rattle.cert_checker.proofs.AtLaws.{at_finish}
use Rattle.cert_checker.proofs.reading.Reading.finish.Goals as goal

pub returns : goal.returns
returns c = λ f t at. c.finish.ensures f at.plain at.stands ∙ at_finish f c.args.self.now t c.args.self.now.progress.line c.args.rest.now at
