use Rattle.std.proofs.Common.{◌∙◌, ◌++◌, ap, codes}
use Rattle.std.proofs.lemmas.Result.{IfOk-weaker}
use Rattle.serde_json.specs.Written.{compact_text}
use Rattle.serde_json.specs.Data.{Data}
use Rattle.reports.specs.Rooms.{sessions}
use Rattle.reports.specs.Json.{sessions_report}
use Rattle.reports.proofs.ValueLaws.{small_values}
use Rattle.reports.proofs.JsonLaws.{kept_is}
use Rattle.reports.proofs.json_line.json_report.Goals as goal

pub kept_line-requires-clause-values : goal.kept_line-requires-clause-values
kept_line-requires-clause-values c = small_values c.values-values.result c.values-values.ensures.small

pub returns : goal.returns
returns c =
    let i = c.args.instance.now in
    let xs = sessions c.args.times.now c.args.problem.now c.args.choice.now.entries in
    let same = kept_is i xs c.in_ok-parts.parts c.values-values.result c.in_ok-parts.ensures ∙ ap (sessions_report i xs) c.values-values.ensures.values in
    IfOk-weaker c.kept_line.result _ _ (λ v h. h ∙ ap (λ (d : Data). compact_text d ++ codes "\n") same) c.kept_line.ensures
