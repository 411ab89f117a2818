use Rattle.std.proofs.Common.{◌<◌, ◌∙◌, ap, arith, length, true}
use Rattle.problem_core.specs.Facts.{Facts, admits}
use Rattle.problem_core.specs.OfParts.{facts_of}
use Rattle.problem_core.specs.Grids.{read_cell, read_there}
use Rattle.problem_core.proofs.problem.Problem.admits.Goals as goal

pub cell-requires : goal.cell-requires
cell-requires c =
    let p = facts_of c.self.inside.parts in
    let row : c.args.course < length p.students = omega (arith, ap (λ (q : Facts). length q.students) c.self.view_is, c.requires.known) in
    let column : c.args.room < length p.capacity = omega (arith, ap (λ (q : Facts). length q.capacity) c.self.view_is, c.requires.known_room) in
    read_there c.self.inside.admitted.items c.deref.result.now (length p.students) (length p.capacity) c.len-rooms.result (admits p) c.args.course c.args.room c.self.invariant.1.admitted_is c.deref.ensures.value c.len-rooms.ensures row column

pub returns : goal.returns
returns c =
    let p = facts_of c.self.inside.parts in
    let row : c.args.course < length p.students = omega (arith, ap (λ (q : Facts). length q.students) c.self.view_is, c.requires.known) in
    let column : c.args.room < length p.capacity = omega (arith, ap (λ (q : Facts). length q.capacity) c.self.view_is, c.requires.known_room) in
    read_cell c.self.inside.admitted.items c.deref.result.now (length p.students) (length p.capacity) c.len-rooms.result (admits p) c.args.course c.args.room c.cell.result true c.self.invariant.1.admitted_is c.deref.ensures.value c.len-rooms.ensures row column (c.cell.ensures true)
    ∙ ap (λ (q : Facts). admits q c.args.course c.args.room) c.self.view_is
