use Rattle.std.proofs.Common.{◌∙◌, ◌++◌, ap, subst}
use Rattle.cert_text.specs.Text.{takes}
use Rattle.cert_text.proofs.LengthLaws.{kept_takes}
use Rattle.cert_checker.specs.Progresses.{TakesLine}
use Rattle.cert_checker.proofs.feeding.Feeding.take_line.Goals as goal

pub returns-clause-at : goal.returns-clause-at
returns-clause-at c = λ t at.
    let line = c.args.self.now.rest ++ c.args.line.now in
    subst (λ o. TakesLine c.args.m.now o c.take_bytes.new.self c.in_ok-ok.ok) (ap (takes t) c.as_slice.ensures ∙ kept_takes t line c.add.new.self c.in_ok-add.ensures) (c.in_ok-ok.ensures.at t at)
