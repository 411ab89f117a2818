use Rattle.std.proofs.Common.{◌≡◌, ◌∙◌, subst, []}
use Rattle.std.specs.Prelude.{IfOk}
use Rattle.cert_text.specs.Text.{certificate_of}
use Rattle.cert_checker.specs.Verdicts.{verdict_of}
use Rattle.cert_checker.proofs.judge.judge.Goals as goal

pub returns : goal.returns
returns c =
    let bytes = c.args.bytes.now in
    let facts = c.in_ok-feed.ensures.facts ∙ c.new-checker.ensures.facts in
    subst (λ f. IfOk c.finish.result (λ v. v ≡ verdict_of f (certificate_of bytes))) facts (c.finish.ensures.verdict bytes (c.in_ok-feed.ensures.stands [] c.new-checker.ensures.stands))
