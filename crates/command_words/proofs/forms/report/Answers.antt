use Rattle.std.proofs.Common.{◌∙◌, ap₂}
use Rattle.std.proofs.lemmas.Result.{IfOk-weaker}
use Rattle.clap.specs.Words.{with_rule}
use Rattle.command_words.specs.Forms.{report}
use Rattle.command_words.proofs.forms.report.Goals as goal

pub returns : goal.returns
unfolding report
returns c = IfOk-weaker c.arg.result _ _ (λ r h. h.shape c.json.ensures.local ∙ ap₂ with_rule c.in_ok-command.ensures c.json.ensures.rule) c.arg.ensures
