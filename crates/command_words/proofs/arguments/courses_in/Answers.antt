use Rattle.std.proofs.Common.{◌∙◌, ap, sym, arith, codes}
use Rattle.std.specs.Prelude.{unwrap_or}
use Rattle.std.specs.Str.Parse.{ParsesUnsigned, ExplainsUnsignedError, HasUnsignedDigitsIfOk}
use Rattle.clap.specs.Words.{IsUnsignedIn, found_of, one_text}
use Rattle.command_words.specs.Words.{course_limit}
use Rattle.command_words.proofs.ArgumentLaws.{number_given, if_some}
use Rattle.command_words.proofs.arguments.courses_in.Goals as goal

pub returns-clause-exact : goal.returns-clause-exact
returns-clause-exact c =
    ap (λ o. unwrap_or o 0) (sym c.in-Some.is)
    ∙ number_given _ (λ bs r. ParsesUnsigned 32 10 bs r × ExplainsUnsignedError 10 bs r × HasUnsignedDigitsIfOk bs r) 32 1 course_limit 0 (found_of c.args.matches.now) (codes "n") c.get_one.result
    (λ u x g. g.0) (omega arith) (if_some (one_text (found_of c.args.matches.now) (codes "n")) (IsUnsignedIn 1 course_limit) c.requires) c.get_one.ensures.none c.get_one.ensures.value
