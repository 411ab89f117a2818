use Rattle.std.proofs.Common.{◌∙◌, ap}
use Rattle.itc_score.specs.Texts.{score_text}
use Rattle.itc_score.proofs.command.answer_with_score.Goals as goal

pub returns-clause-text : goal.returns-clause-text
returns-clause-text c = c.in_ok-score_text.ensures ∙ ap score_text c.in_ok-counts.ensures.counts
