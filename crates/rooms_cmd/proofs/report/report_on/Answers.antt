use Rattle.std.proofs.Common.{◌∙◌}
use Rattle.std.proofs.lemmas.Result.{IfOk-weaker}
use Rattle.rooms_cmd.proofs.ReportLaws.{json_is, text_is}
use Rattle.rooms_cmd.proofs.report.report_on.Goals as goal

pub returns-then-json : goal.returns-then-json
returns-then-json c =
    let i = c.args.inputs.now in
    IfOk-weaker c.json_report.result _ _ (λ v h. h ∙ json_is c.args.json i.instance i.times i.measures i.problem c.args.choice.now.entries c.if-json.true c.requires.same c.requires.given) c.json_report.ensures

pub returns-else-json : goal.returns-else-json
returns-else-json c =
    let i = c.args.inputs.now in
    IfOk-weaker c.text_report.result _ _ (λ v h. h ∙ text_is c.args.json i.instance i.times i.measures i.problem c.args.choice.now.entries c.if-json.false c.requires.same c.requires.given) c.text_report.ensures
