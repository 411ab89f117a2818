use Rattle.reports.proofs.StandingLaws.{each_stands_once}
use Rattle.reports.proofs.laws.report_laws.Goals as goal

pub returns : goal.returns
returns c = each_stands_once
