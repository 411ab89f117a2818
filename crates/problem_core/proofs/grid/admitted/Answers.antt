use Rattle.std.proofs.Common.{◌&&◌, not, sym, ap, arith, length, drop}
use Rattle.std.specs.List.{list_any}
use Rattle.problem_core.specs.Facts.{seats, is_pair}
use Rattle.problem_core.specs.OfParts.{facts_of}
use Rattle.std.proofs.Math.Bool.{and-true}
use Rattle.std.proofs.Common.{true}
use Rattle.problem_core.specs.Grids.{IsGrid-same}
use Rattle.problem_core.proofs.GridLemmas.{denied_put, pair_there, IsGrid-ended, IsGrid-begun}
use Rattle.problem_core.proofs.grid.admitted.Goals as goal

pub put-requires : goal.put-requires
put-requires c =
    let p = c.args.parts.now in
    pair_there c.loop-left.cells.items (length p.students) (length p.capacity) c.len-rooms.result (λ r s. seats (facts_of p) r s && not (list_any (is_pair r s) (drop c.loop-left.left p.denied))) c.as_slice-denied.result.now p.denied c.loop-left.left
    c.loop-left.invariant.grid c.as_slice-denied.ensures c.len-rooms.ensures c.loop-left-test.true c.loop-left.invariant.within c.requires.denied

pub loop-left-init : goal.loop-left-init
loop-left-init c =
    let p = c.args.parts.now in
    record {
      within = omega (arith, ap length c.as_slice-denied.ensures);
      grid = IsGrid-begun c.in_ok-cells.cells.items (length p.students) (length p.capacity) c.as_slice-denied.result.now p.denied (λ ys r s. seats (facts_of p) r s && not (list_any (is_pair r s) ys)) c.as_slice-denied.ensures
          (IsGrid-same c.in_ok-cells.cells.items (length p.students) (length p.capacity) (seats (facts_of p)) (λ r s. seats (facts_of p) r s && true) c.in_ok-cells.ensures (λ r s _ _. sym (and-true (seats (facts_of p) r s))));
    }

pub loop-left-preserved : goal.loop-left-preserved
loop-left-preserved c =
    let p = c.args.parts.now in
    record {
      within = omega (arith, c.loop-left.invariant.within);
      grid = denied_put (seats (facts_of p)) c.loop-left.cells.items _ (length p.students) (length p.capacity) c.len-rooms.result c.as_slice-denied.result.now p.denied c.loop-left.left c.as_slice-denied.ensures c.len-rooms.ensures c.loop-left-test.true c.loop-left.invariant.within c.requires.denied c.put.ensures c.loop-left.invariant.grid;
    }

pub returns : goal.returns
returns c =
    let p = c.args.parts.now in
    IsGrid-ended c.loop-left.cells.items (length p.students) (length p.capacity) p.denied (λ ys r s. seats (facts_of p) r s && not (list_any (is_pair r s) ys)) c.loop-left.left c.loop-left.invariant.grid (omega arith)
