use Rattle.std.proofs.Common.{◌<◌, ◌∙◌, ap, arith, length, refl, true}
use Rattle.problem_core.specs.Facts.{Facts, is_closed}
use Rattle.problem_core.specs.OfParts.{facts_of}
use Rattle.problem_core.specs.Grids.{read_cell, read_there}
use Rattle.problem_core.proofs.problem.Problem.is_closed_at.Goals as goal

pub cell-requires : goal.cell-requires
cell-requires c =
    let p = facts_of c.self.inside.parts in
    let row : c.args.room < length p.capacity = omega (arith, ap (λ (q : Facts). length q.capacity) c.self.view_is, c.requires.known_room) in
    let column : c.args.slot < p.slots = omega (arith, ap (λ (q : Facts). q.slots) c.self.view_is, c.requires.known) in
    read_there c.self.inside.closed.items c.deref.result.now (length p.capacity) (p.slots) c.self.inside.parts.slots (is_closed p) c.args.room c.args.slot c.self.invariant.1.closed_is c.deref.ensures.value refl row column

pub returns : goal.returns
returns c =
    let p = facts_of c.self.inside.parts in
    let row : c.args.room < length p.capacity = omega (arith, ap (λ (q : Facts). length q.capacity) c.self.view_is, c.requires.known_room) in
    let column : c.args.slot < p.slots = omega (arith, ap (λ (q : Facts). q.slots) c.self.view_is, c.requires.known) in
    read_cell c.self.inside.closed.items c.deref.result.now (length p.capacity) (p.slots) c.self.inside.parts.slots (is_closed p) c.args.room c.args.slot c.cell.result true c.self.invariant.1.closed_is c.deref.ensures.value refl row column (c.cell.ensures true)
    ∙ ap (λ (q : Facts). is_closed q c.args.room c.args.slot) c.self.view_is
