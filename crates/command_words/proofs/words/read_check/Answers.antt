use Rattle.std.proofs.Common.{ap, ◌∙◌}
use Rattle.clap.specs.Words.{is_simple_and_free}
use Rattle.command_words.proofs.FormLaws.{simple_check}
use Rattle.command_words.proofs.words.read_check.Goals as goal

pub matches_on-requires : goal.matches_on-requires
matches_on-requires c = ap is_simple_and_free c.in_ok-check.ensures ∙ simple_check
