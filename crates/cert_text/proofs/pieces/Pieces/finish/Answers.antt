use Rattle.std.proofs.Common.{◌≡◌, ◌<◌, [], length, rules}
use Rattle.cert_text.proofs.PieceLaws.{ends_text, rest_no_text, place_no_text}
use Rattle.cert_text.proofs.pieces.Pieces.finish.Goals as goal

pub returns-then-not-is_empty : goal.returns-then-not-is_empty
returns-then-not-is_empty c = λ bytes is.
    let some : 0 < length c.args.self.now.rest = search rules in
    rest_no_text c.args.self.now bytes c.fault_at.result is some c.fault_at.ensures

pub returns-in-Over : goal.returns-in-Over
returns-in-Over c = λ bytes is.
    let none : c.args.self.now.rest ≡ [] = search rules in
    ends_text c.args.self.now bytes c.in-Over.levels is none c.in-Over.is

pub returns-in_default : goal.returns-in_default
returns-in_default c = λ bytes is. place_no_text c.args.self.now bytes c.fault_at-in_default.result is c.in_default.not-Over c.fault_at-in_default.ensures
