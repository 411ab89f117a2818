use Rattle.std.proofs.Common.{◌≡◌, ◌/◌, ◌%◌, ◌*◌, ◌+◌, ◌∙◌, ap, ap₂, arith, length}
use Rattle.std.proofs.lemmas.List.{length_push}
use Rattle.problem_core.specs.Facts.{seats}
use Rattle.problem_core.specs.OfParts.{facts_of}
use Rattle.problem_core.proofs.GridLemmas.{more_cells, IsGrid-cells}
use Rattle.problem_core.proofs.grid.seating.Goals as goal

pub loop-i-preserved : goal.loop-i-preserved
loop-i-preserved c = rw (c.in_ok-push.ensures.items) (record {
  whole = length_push c.loop-i.cells.items c.seats.result ∙ ap (λ n. n + 1) c.loop-i.invariant.whole;
  cells = more_cells c.loop-i.cells.items (λ k. seats (facts_of c.args.parts.now) (k / c.len-rooms.result) (k % c.len-rooms.result)) c.loop-i.i c.seats.result c.loop-i.invariant.whole c.loop-i.invariant.cells c.seats.ensures;
})

pub returns : goal.returns
returns c =
    let p = c.args.parts.now in
    let product : c.len.result * c.len-rooms.result ≡ length p.students * length p.capacity = ap₂ (λ m n. m * n) c.len.ensures c.len-rooms.ensures in
    let all : c.loop-i.i ≡ length p.students * length p.capacity = omega (arith, product, c.loop-i-test.false, c.loop-i.auto.i-end) in
    IsGrid-cells c.loop-i.cells.items (length p.students) (length p.capacity) (seats (facts_of p)) (c.loop-i.invariant.whole ∙ all)
    (λ k d l. c.loop-i.invariant.cells k d (omega (arith, all)) ∙ ap (λ w. seats (facts_of p) (k / w) (k % w)) c.len-rooms.ensures)
