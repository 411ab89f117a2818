use Rattle.std.proofs.Common.{◌∙◌, ap, subst}
use Rattle.cert_text.specs.Text.{read_end}
use Rattle.cert_checker.specs.Verdicts.{verdict_of}
use Rattle.cert_checker.specs.Feeding.{IsFedAt}
use Rattle.cert_checker.proofs.FeedLaws.{fed_verdict, stopped_verdict}
use Rattle.cert_checker.proofs.feeding.Feeding.finish.Goals as goal

pub returns-in-Some : goal.returns-in-Some
returns-in-Some c = λ f bytes fed.
    let x = c.args.self.now in
    stopped_verdict f c.in-Some.line bytes (subst (λ o. IsFedAt f o x.reading x.rest bytes) c.in-Some.is fed)

pub returns-in-None : goal.returns-in-None
returns-in-None c = λ f bytes fed.
    let x = c.args.self.now in
    let going = subst (λ o. IsFedAt f o x.reading x.rest bytes) c.in-None.is fed in
    fed_verdict f x.reading x.rest bytes c.finish.result going (λ t at. c.finish.ensures f t at ∙ ap (λ rest. verdict_of f (read_end t.state x.reading.progress.line rest)) c.as_slice.ensures)
