use Rattle.std.proofs.Common.{◌∙◌, ap, sym, arith, codes}
use Rattle.std.specs.Prelude.{unwrap_or}
use Rattle.std.specs.Str.Parse.{ParsesUnsigned, ExplainsUnsignedError, HasUnsignedDigitsIfOk}
use Rattle.clap.specs.Words.{found_of}
use Rattle.command_words.specs.Words.{budget_limit, default_budget}
use Rattle.command_words.proofs.ArgumentLaws.{number_given}
use Rattle.command_words.proofs.arguments.budget_in.Goals as goal

pub returns-in-Some-clause-exact : goal.returns-in-Some-clause-exact
returns-in-Some-clause-exact c =
    ap (λ o. unwrap_or o default_budget) (sym c.in-Some.is)
    ∙ number_given _ (λ bs r. ParsesUnsigned 64 10 bs r × ExplainsUnsignedError 10 bs r × HasUnsignedDigitsIfOk bs r) 64 0 budget_limit default_budget (found_of c.args.matches.now) (codes "budget") c.get_one.result
    (λ u x g. g.0) (omega arith) c.requires c.get_one.ensures.none c.get_one.ensures.value

pub returns-in-None-clause-exact : goal.returns-in-None-clause-exact
returns-in-None-clause-exact c =
    ap (λ o. unwrap_or o default_budget) (sym c.in-None.is)
    ∙ number_given _ (λ bs r. ParsesUnsigned 64 10 bs r × ExplainsUnsignedError 10 bs r × HasUnsignedDigitsIfOk bs r) 64 0 budget_limit default_budget (found_of c.args.matches.now) (codes "budget") c.get_one.result
    (λ u x g. g.0) (omega arith) c.requires c.get_one.ensures.none c.get_one.ensures.value
