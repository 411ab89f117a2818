use Rattle.std.proofs.Common.{◌∙◌, ap}
use Rattle.std.proofs.lemmas.Result.{IfOk-weaker}
use Rattle.reports.specs.Rooms.{sessions}
use Rattle.reports.specs.Report.{sessions_text}
use Rattle.reports.proofs.ValueLaws.{small_values}
use Rattle.reports.proofs.RoomLaws.{use_text-is}
use Rattle.reports.proofs.report.text_report.Goals as goal

pub print-requires-clause-values : goal.print-requires-clause-values
print-requires-clause-values c = small_values c.values-values.result c.values-values.ensures.small

pub returns : goal.returns
returns c =
    let i = c.args.instance.now in
    let xs = sessions c.args.times.now c.args.problem.now c.args.choice.now.entries in
    IfOk-weaker c.print.result _ _
    (λ v h. h ∙ use_text-is i xs c.in_ok-found.found c.values-values.result c.in_ok-found.ensures ∙ ap (sessions_text i xs) c.values-values.ensures.values) c.print.ensures
