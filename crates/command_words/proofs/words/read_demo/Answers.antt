use Rattle.std.proofs.Common.{ap, ◌∙◌, ◌≡◌, refl, subst, sym, Option, Some, None, codes}
use Rattle.std.specs.Prelude.{IfSome, IsSomeAnd}
use Rattle.clap.specs.Words.{Text, IsParsedFrom, IsUnsignedIn, found_of, is_simple_and_free, one_text}
use Rattle.clap.specs.declared.builder.value_parser.ValueParser.TheVariants as parsers
use Rattle.command_words.specs.Forms.{budget, courses, demo}
use Rattle.command_words.specs.Words.{budget_limit, course_limit}
use Rattle.command_words.proofs.FormLaws.{simple_demo, free_demo, courses_in_demo, budget_in_demo}
use Rattle.command_words.proofs.ValueLaws.{text_there, value_read, value_there}
use Rattle.command_words.proofs.words.read_demo.Goals as goal

pub matches_on-requires : goal.matches_on-requires
matches_on-requires c = ap is_simple_and_free c.in_ok-demo.ensures ∙ simple_demo

pub courses_in-requires : goal.courses_in-requires
courses_in-requires c =
    let parsed = subst (λ o. IfSome o (IsParsedFrom c.in_ok-demo.field-0)) c.in-Some.is c.in_ok-matches.ensures.parsed in
    let t = text_there (found_of c.in-Some.matches) (codes "n") (value_there c.in_ok-demo.field-0 c.in-Some.matches demo 0 courses c.in_ok-demo.ensures free_demo courses_in_demo refl refl refl parsed) in
    let r = value_read c.in_ok-demo.field-0 c.in-Some.matches demo 0 courses (parsers.Unsigned 1 300) c.in_ok-demo.ensures free_demo courses_in_demo refl parsed t.0 t.1 in
    subst (λ (o : Option Text). IsSomeAnd o (IsUnsignedIn 1 course_limit)) (sym t.1) (subst (IsUnsignedIn 1 course_limit) (sym r.is) r.passed)

pub budget_in-requires : goal.budget_in-requires
budget_in-requires c = go (one_text (found_of c.in-Some.matches) (codes "budget")) refl
  where
    parsed : IsParsedFrom c.in_ok-demo.field-0 c.in-Some.matches
    parsed = subst (λ o. IfSome o (IsParsedFrom c.in_ok-demo.field-0)) c.in-Some.is c.in_ok-matches.ensures.parsed

    go : (o : Option Text) → one_text (found_of c.in-Some.matches) (codes "budget") ≡ o → IfSome o (IsUnsignedIn 0 budget_limit)
    go None e = tt
    go (Some t) e =
        let r = value_read c.in_ok-demo.field-0 c.in-Some.matches demo 1 budget (parsers.Unsigned 0 1000000) c.in_ok-demo.ensures free_demo budget_in_demo refl parsed t e in
        subst (IsUnsignedIn 0 budget_limit) (sym r.is) r.passed
