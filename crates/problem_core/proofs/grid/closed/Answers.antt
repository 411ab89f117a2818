use Rattle.std.proofs.Common.{◌≡◌, ap, arith, length, refl, drop}
use Rattle.std.proofs.Common.{replicate, rules, false, ◌*◌}
use Rattle.std.specs.List.{list_any}
use Rattle.problem_core.specs.Facts.{is_pair}
use Rattle.problem_core.proofs.GridLemmas.{closed_put, pair_there, IsGrid-replicated, IsGrid-ended, IsGrid-begun}
use Rattle.problem_core.proofs.grid.closed.Goals as goal

pub put-requires : goal.put-requires
put-requires c =
    let p = c.args.parts.now in
    pair_there c.loop-left.cells.items (length p.capacity) p.slots p.slots (λ r s. list_any (is_pair r s) (drop c.loop-left.left p.closed)) c.as_slice-closed.result.now p.closed c.loop-left.left
    c.loop-left.invariant.grid c.as_slice-closed.ensures refl c.loop-left-test.true c.loop-left.invariant.within c.requires.closed

pub loop-left-init : goal.loop-left-init
loop-left-init c =
    let p = c.args.parts.now in
    let filled : c.in_ok-cells.cells.items ≡ replicate (c.len.result * p.slots) false = search rules in
    record {
      within = omega (arith, ap length c.as_slice-closed.ensures);
      grid = IsGrid-begun c.in_ok-cells.cells.items (length p.capacity) p.slots c.as_slice-closed.result.now p.closed (λ ys r s. list_any (is_pair r s) ys) c.as_slice-closed.ensures
          (IsGrid-replicated false (length p.capacity) p.slots (c.len.result * p.slots) c.in_ok-cells.cells.items (λ r s. false) filled (ap (λ m. m * p.slots) c.len.ensures) (λ r s. refl));
    }

pub loop-left-preserved : goal.loop-left-preserved
loop-left-preserved c =
    let p = c.args.parts.now in
    record {
      within = omega (arith, c.loop-left.invariant.within);
      grid = closed_put c.loop-left.cells.items _ (length p.capacity) p.slots c.as_slice-closed.result.now p.closed c.loop-left.left c.as_slice-closed.ensures c.loop-left-test.true c.loop-left.invariant.within c.requires.closed c.put.ensures c.loop-left.invariant.grid;
    }

pub returns : goal.returns
returns c =
    let p = c.args.parts.now in
    IsGrid-ended c.loop-left.cells.items (length p.capacity) p.slots p.closed (λ ys r s. list_any (is_pair r s) ys) c.loop-left.left c.loop-left.invariant.grid (omega arith)
