use Rattle.std.proofs.lemmas.Result.{IfOk-weaker}
use Rattle.demo_files.proofs.ReadLaws.{instance_again, times_again, measures_again}
use Rattle.demo_files.proofs.modelled.demo_model.Goals as goal

pub returns-clause-instance : goal.returns-clause-instance
returns-clause-instance c = IfOk-weaker c.read_back.result _ _ (λ l is. instance_again c.args.n _ _ _ l is c.in_ok-texts.ensures.instance) c.read_back.ensures

pub returns-clause-times : goal.returns-clause-times
returns-clause-times c = IfOk-weaker c.read_back.result _ _ (λ l is. times_again c.args.n _ _ _ l is c.in_ok-texts.ensures.instance c.in_ok-texts.ensures.times) c.read_back.ensures

pub returns-clause-measures : goal.returns-clause-measures
returns-clause-measures c = IfOk-weaker c.read_back.result _ _ (λ l is. measures_again c.args.n _ _ _ l is c.in_ok-texts.ensures.instance c.in_ok-texts.ensures.measures) c.read_back.ensures

pub returns-clause-known : goal.returns-clause-known
returns-clause-known c = IfOk-weaker c.read_back.result _ _ (λ l is. is.known) c.read_back.ensures

pub returns-clause-fits : goal.returns-clause-fits
returns-clause-fits c = IfOk-weaker c.read_back.result _ _ (λ l is. is.fits) c.read_back.ensures

pub returns-clause-model : goal.returns-clause-model
returns-clause-model c = IfOk-weaker c.read_back.result _ _ (λ l is. is.model) c.read_back.ensures
