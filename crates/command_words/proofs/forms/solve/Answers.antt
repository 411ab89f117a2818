use Rattle.std.proofs.Common.{◌∙◌, ap₂}
use Rattle.std.proofs.lemmas.Result.{IfOk-weaker}
use Rattle.clap.specs.Words.{with_rule}
use Rattle.command_words.specs.Forms.{solve}
use Rattle.command_words.proofs.forms.solve.Goals as goal

pub returns : goal.returns
unfolding solve
returns c = IfOk-weaker c.arg.result _ _ (λ r h. h.shape c.budget.ensures.local ∙ ap₂ with_rule c.in_ok-command.ensures c.budget.ensures.rule) c.arg.ensures
