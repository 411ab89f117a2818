use Rattle.std.proofs.Common.{ap, ◌∙◌}
use Rattle.clap.specs.Words.{is_simple_and_free}
use Rattle.command_words.proofs.FormLaws.{simple_report}
use Rattle.command_words.proofs.words.read_report.Goals as goal

pub matches_on-requires : goal.matches_on-requires
matches_on-requires c = ap is_simple_and_free c.in_ok-report.ensures ∙ simple_report
