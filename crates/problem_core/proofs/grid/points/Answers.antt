use Rattle.std.proofs.Common.{◌≡◌, ap, arith, length, refl, drop}
use Rattle.std.proofs.Common.{replicate, rules, ap₂, ◌*◌}
use Rattle.std.specs.Prelude.{pos}
use Rattle.problem_core.specs.Measures.{points_of}
use mir.Syntax.{w32}
use mir.Val.{to_z, of_z}
use Rattle.std.proofs.Common.{get_or, ◌-◌}
use Rattle.problem_core.proofs.KeptLemmas.{points_same}
use Rattle.problem_core.proofs.GridLemmas.{points_put, points_there, IsGrid-replicated, IsGrid-ended, IsGrid-begun}
use Rattle.problem_core.proofs.grid.points.Goals as goal

pub put-requires : goal.put-requires
put-requires c =
    let p = c.args.parts.now in
    points_there c.loop-left.cells.items (length p.students) (length p.capacity) c.len-rooms.result (λ r s. points_of r s (drop c.loop-left.left p.prefer)) c.as_slice-prefer.result.now p.prefer c.loop-left.left
    c.loop-left.invariant.grid c.as_slice-prefer.ensures c.len-rooms.ensures c.loop-left-test.true c.loop-left.invariant.within c.requires.prefer

pub loop-left-init : goal.loop-left-init
loop-left-init c =
    let p = c.args.parts.now in
    let filled : c.in_ok-cells.cells.items ≡ replicate (c.len.result * c.len-rooms.result) (pos 0) = search rules in
    record {
      within = omega (arith, ap length c.as_slice-prefer.ensures);
      grid = IsGrid-begun c.in_ok-cells.cells.items (length p.students) (length p.capacity) c.as_slice-prefer.result.now p.prefer (λ ys r s. points_of r s ys) c.as_slice-prefer.ensures
          (IsGrid-replicated (pos 0) (length p.students) (length p.capacity) (c.len.result * c.len-rooms.result) c.in_ok-cells.cells.items (λ r s. pos 0) filled (ap₂ (λ m w. m * w) c.len.ensures c.len-rooms.ensures) (λ r s. refl));
    }

value : (c : goal.After-put) → to_z w32 (of_z w32 (get_or c.as_slice-prefer.result.now (c.loop-left.left - 1) (0, 0, pos 0)).2) ≡ (get_or c.args.parts.now.prefer (c.loop-left.left - 1) (0, 0, pos 0)).2
value c =
    rw (c.as_slice-prefer.ensures) (points_same (get_or c.args.parts.now.prefer (c.loop-left.left - 1) (0, 0, pos 0)).2 (c.requires.points (c.loop-left.left - 1) (0, 0, pos 0) (omega (arith, c.loop-left.invariant.within, c.loop-left-test.true))))

pub loop-left-preserved : goal.loop-left-preserved
loop-left-preserved c =
    let p = c.args.parts.now in
    record {
      within = omega (arith, c.loop-left.invariant.within);
      grid = points_put c.loop-left.cells.items _ (length p.students) (length p.capacity) c.len-rooms.result c.as_slice-prefer.result.now p.prefer c.loop-left.left _ (value c) c.as_slice-prefer.ensures c.len-rooms.ensures c.loop-left-test.true c.loop-left.invariant.within c.requires.prefer c.put.ensures c.loop-left.invariant.grid;
    }

pub returns : goal.returns
returns c =
    let p = c.args.parts.now in
    IsGrid-ended c.loop-left.cells.items (length p.students) (length p.capacity) p.prefer (λ ys r s. points_of r s ys) c.loop-left.left c.loop-left.invariant.grid (omega arith)
