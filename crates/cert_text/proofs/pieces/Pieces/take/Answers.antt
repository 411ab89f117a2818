use Rattle.std.proofs.Common.{◌+◌, sym, refl}
use Rattle.cert_text.specs.Sharing.{named}
use Rattle.cert_text.proofs.TakeLaws.{name_goes}
use Rattle.cert_text.proofs.SoundLaws.{sound_behind}
use Rattle.cert_text.proofs.PieceLaws.{takes_line}
use Rattle.cert_text.proofs.pieces.Pieces.take.Goals as goal

pub returns-clause-took : goal.returns-clause-took
returns-clause-took c = λ t keeps.
    let old = c.args.self.now in
    let names = name_goes (named old.named c.args.line) c.take.new.self c.in_ok-take.field-0 c.in_ok-take.ensures c.if-not-branch.false in
    takes_line old (record { place = c.in-Some.place; named = c.take.new.self; rest = c.clear.new.self; line = old.line + 1 }) t old.rest c.args.line c.in-Some.place c.take.new.self
    c.requires.spelled keeps (sym c.in-Some.ensures) names refl refl

pub returns-clause-sound : goal.returns-clause-sound
returns-clause-sound c = sound_behind c.args.self.now.place c.in-Some.place c.args.line c.args.self.now.line (sym c.in-Some.ensures) c.requires.sound
