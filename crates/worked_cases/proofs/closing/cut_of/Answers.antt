use Rattle.std.proofs.Common.{◌≤◌, length, arith, ap}
use Rattle.meeting_patterns.specs.Pattern.{patterns_of}
use Rattle.packing_model.proofs.ListLemmas.{known_below}
use Rattle.worked_cases.proofs.closing.cut_of.Goals as goal

pub new-requires-2 : goal.new-requires-2
new-requires-2 c =
    let count = length (patterns_of c.args.model.now) in
    let many : 4 ≤ count = omega (arith, ap length c.patterns.ensures.patterns) in
    record { some = c.requires.some; few = c.requires.few; rising = c.requires.rising; known = known_below 4 count c.args.patterns.now many c.requires.known }
