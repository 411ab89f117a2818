use Rattle.std.proofs.Common.{◌≡◌, ◌<◌, ◌∙◌, sym, ap, arith, length, subst}
use Rattle.std.specs.Prelude.{pos}
use Rattle.problem_core.specs.Facts.{Facts}
use Rattle.problem_core.specs.Measures.{points_of}
use Rattle.problem_core.specs.OfParts.{facts_of}
use Rattle.problem_core.specs.Kept.{IsWithin}
use Rattle.problem_core.proofs.KeptLemmas.{points_within, points_same}
use Rattle.problem_core.specs.Grids.{read_cell, read_there}
use Rattle.problem_core.proofs.problem.Problem.points.Goals as goal

pub cell-requires : goal.cell-requires
cell-requires c =
    let p = facts_of c.self.inside.parts in
    let row : c.args.course < length p.students = omega (arith, ap (λ (q : Facts). length q.students) c.self.view_is, c.requires.known) in
    let column : c.args.room < length p.capacity = omega (arith, ap (λ (q : Facts). length q.capacity) c.self.view_is, c.requires.known_room) in
    read_there c.self.inside.points.items c.deref.result.now (length p.students) (length p.capacity) c.len-rooms.result (λ d r. points_of d r p.prefer) c.args.course c.args.room c.self.invariant.1.points_are c.deref.ensures.value c.len-rooms.ensures row column

kept : (c : goal.After-cell) → c.cell.result ≡ points_of c.args.course c.args.room c.self.inside.parts.prefer
kept c =
    let p = c.self.inside.parts in
    let row : c.args.course < length p.students = omega (arith, ap (λ (f : Facts). length f.students) c.self.view_is, c.requires.known) in
    let column : c.args.room < length p.capacity = omega (arith, ap (λ (f : Facts). length f.capacity) c.self.view_is, c.requires.known_room) in
    read_cell c.self.inside.points.items c.deref.result.now (length p.students) (length p.capacity) c.len-rooms.result (λ d r. points_of d r p.prefer) c.args.course c.args.room c.cell.result (pos 0) c.self.invariant.1.points_are c.deref.ensures.value c.len-rooms.ensures row column (c.cell.ensures (pos 0))

within : (c : goal.After-cell) → IsWithin (pos 1000000) c.cell.result
within c = subst (IsWithin (pos 1000000)) (sym (kept c)) (points_within c.args.course c.args.room c.self.inside.parts.prefer c.self.invariant.0.fit.points)

pub returns-clause-points : goal.returns-clause-points
returns-clause-points c = points_same c.cell.result (within c) ∙ kept c ∙ ap (λ (q : Facts). points_of c.args.course c.args.room q.prefer) c.self.view_is

pub returns-clause-small : goal.returns-clause-small
returns-clause-small c = subst (IsWithin (pos 1000000)) (sym (points_same c.cell.result (within c))) (within c)
