use Rattle.std.proofs.Common.{◌∙◌, ap₂}
use Rattle.std.proofs.lemmas.Result.{IfOk-weaker}
use Rattle.clap.specs.Words.{with_rule}
use Rattle.command_words.specs.Forms.{demo}
use Rattle.command_words.proofs.forms.demo.Goals as goal

pub returns : goal.returns
unfolding demo
returns c =
    let one = c.in_ok-command.ensures.shape c.courses.ensures.local ∙ ap₂ with_rule c.bare-command.ensures c.courses.ensures.rule in
    IfOk-weaker c.arg-2.result _ _ (λ r h. h.shape c.budget.ensures.local ∙ ap₂ with_rule one c.budget.ensures.rule) c.arg-2.ensures
