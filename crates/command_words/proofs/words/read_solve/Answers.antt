use Rattle.std.proofs.Common.{ap, ◌∙◌, ◌≡◌, refl, subst, sym, Option, Some, None, codes}
use Rattle.std.specs.Prelude.{IfSome}
use Rattle.clap.specs.Words.{Text, IsParsedFrom, IsUnsignedIn, found_of, is_simple_and_free, one_text}
use Rattle.clap.specs.declared.builder.value_parser.ValueParser.TheVariants as parsers
use Rattle.command_words.specs.Forms.{budget, solve}
use Rattle.command_words.specs.Words.{budget_limit}
use Rattle.command_words.proofs.FormLaws.{simple_solve, free_solve, budget_in_solve}
use Rattle.command_words.proofs.ValueLaws.{value_read}
use Rattle.command_words.proofs.words.read_solve.Goals as goal

pub matches_on-requires : goal.matches_on-requires
matches_on-requires c = ap is_simple_and_free c.in_ok-solve.ensures ∙ simple_solve

pub budget_in-budget-requires : goal.budget_in-budget-requires
budget_in-budget-requires c = go (one_text (found_of c.in-Some.matches) (codes "budget")) refl
  where
    parsed : IsParsedFrom c.in_ok-solve.field-0 c.in-Some.matches
    parsed = subst (λ o. IfSome o (IsParsedFrom c.in_ok-solve.field-0)) c.in-Some.is c.in_ok-matches.ensures.parsed

    go : (o : Option Text) → one_text (found_of c.in-Some.matches) (codes "budget") ≡ o → IfSome o (IsUnsignedIn 0 budget_limit)
    go None e = tt
    go (Some t) e =
        let r = value_read c.in_ok-solve.field-0 c.in-Some.matches solve 4 budget (parsers.Unsigned 0 1000000) c.in_ok-solve.ensures free_solve budget_in_solve refl parsed t e in
        subst (IsUnsignedIn 0 budget_limit) (sym r.is) r.passed
