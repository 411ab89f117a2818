use Rattle.demo_files.proofs.InstanceLaws.{instance_fits}
use Rattle.demo_files.proofs.TimesLaws.{times_fit}
use Rattle.demo_files.proofs.MeasuresLaws.{measures_fit}
use Rattle.demo_files.proofs.SizesLaws.{is_small}
use Rattle.demo_files.proofs.laws.demo_laws.Goals as goal

pub returns-clause-instance : goal.returns-clause-instance
returns-clause-instance c = instance_fits

pub returns-clause-times : goal.returns-clause-times
returns-clause-times c = times_fit

pub returns-clause-measures : goal.returns-clause-measures
returns-clause-measures c = measures_fit

pub returns-clause-small : goal.returns-clause-small
returns-clause-small c = is_small
