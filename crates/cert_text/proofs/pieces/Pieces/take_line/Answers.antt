use Rattle.std.proofs.Common.{◌≡◌, ◌∙◌, ◌++◌, ap, subst, sym}
use Rattle.std.specs.Prelude.{Some}
use Rattle.std.proofs.lemmas.Result.{IfOk-weaker}
use Rattle.cert_text.specs.Spelling.{line_of}
use Rattle.cert_text.specs.Pieces.{TakesText}
use Rattle.cert_text.proofs.LengthLaws.{kept_line, kept_takes}
use Rattle.cert_text.proofs.PieceLaws.{no_line, spelled_as}
use Rattle.cert_text.proofs.pieces.Pieces.take_line.Goals as goal

pub returns-in-Some-clause-took : goal.returns-in-Some-clause-took
returns-in-Some-clause-took c =
    let line = c.args.self.now.rest ++ c.args.line.now in
    IfOk-weaker c.take.result _ _
    (λ read took t keeps. subst (λ o. TakesText o c.take.new.self read) (kept_takes t line c.add.new.self c.in_ok-add.ensures) (took t (record { place = keeps.place; named = keeps.named })))
    c.take.ensures.took

pub returns-in-Some-clause-spelled : goal.returns-in-Some-clause-spelled
returns-in-Some-clause-spelled c =
    let line = c.args.self.now.rest ++ c.args.line.now in
    let spells : line_of line ≡ Some c.in-Some.read = sym (kept_line line c.add.new.self c.in_ok-add.ensures) ∙ ap line_of (sym c.as_slice.ensures) ∙ sym c.in_ok-read.ensures ∙ c.in-Some.is in
    IfOk-weaker c.take.result _ _ (λ read same. spelled_as line read c.in-Some.read same spells) c.take.ensures.same

pub returns-in-None-clause-took : goal.returns-in-None-clause-took
returns-in-None-clause-took c = λ t keeps.
    let old = c.args.self.now in
    let line = old.rest ++ c.args.line.now in
    no_line t line (record { place = old.place; named = old.named; rest = c.add.new.self; line = old.line })
    (sym (kept_line line c.add.new.self c.in_ok-add.ensures) ∙ ap line_of (sym c.as_slice.ensures) ∙ sym c.in_ok-read.ensures ∙ c.in-None.is)
