use Rattle.std.proofs.Common.{◌∙◌, ap₂}
use Rattle.std.proofs.lemmas.Result.{IfOk-weaker}
use Rattle.clap.specs.Words.{with_rule}
use Rattle.command_words.proofs.forms.on_files.Goals as goal

pub returns : goal.returns
returns c =
    let one = c.in_ok-command.ensures.shape c.named.ensures.local ∙ ap₂ with_rule c.bare-command.ensures c.named.ensures.rule in
    let two = c.in_ok-command-2.ensures.shape c.named-2.ensures.local ∙ ap₂ with_rule one c.named-2.ensures.rule in
    IfOk-weaker c.arg-3.result _ _ (λ r h. h.shape c.named-3.ensures.local ∙ ap₂ with_rule two c.named-3.ensures.rule) c.arg-3.ensures
