use Rattle.std.proofs.Common.{sym}
use Rattle.cert_text.specs.Sharing.{named}
use Rattle.cert_text.proofs.TakeLaws.{took_line, name_goes}
use Rattle.cert_text.proofs.reader.Reader.take.Goals as goal

pub returns-in_ok-add-in-Some-clause-took : goal.returns-in_ok-add-in-Some-clause-took
returns-in_ok-add-in-Some-clause-took c =
    let names = name_goes (named c.args.self.now.named c.args.line) c.take.new.self c.in_ok-take-in-Some.field-0 c.in_ok-take-in-Some.ensures c.if-not-branch.false in
    (took_line c.args.self.now c.add.new.self c.args.line c.in-Some.place c.take.new.self c.requires.sound (sym c.in-Some.ensures) names c.in_ok-add-in-Some.ensures.place c.in_ok-add-in-Some.ensures.certificate c.in_ok-add-in-Some.ensures.nodes c.in_ok-add-in-Some.ensures.named).0

pub returns-in_ok-add-in-Some-clause-sound : goal.returns-in_ok-add-in-Some-clause-sound
returns-in_ok-add-in-Some-clause-sound c =
    let names = name_goes (named c.args.self.now.named c.args.line) c.take.new.self c.in_ok-take-in-Some.field-0 c.in_ok-take-in-Some.ensures c.if-not-branch.false in
    (took_line c.args.self.now c.add.new.self c.args.line c.in-Some.place c.take.new.self c.requires.sound (sym c.in-Some.ensures) names c.in_ok-add-in-Some.ensures.place c.in_ok-add-in-Some.ensures.certificate c.in_ok-add-in-Some.ensures.nodes c.in_ok-add-in-Some.ensures.named).1
