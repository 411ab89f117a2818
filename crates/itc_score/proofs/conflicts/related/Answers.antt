use Rattle.std.proofs.Common.{◌≡◌, ◌*◌, length, arith, ◌∙◌}
use Rattle.itc_score.specs.Places.{known_related}
use Rattle.problem_core.proofs.GridLemmas.{IsGrid-cells}
use Rattle.itc_score.proofs.conflicts.related.Goals as goal

pub returns : goal.returns
returns c =
    let n = length c.args.i.now.courses in
    let all : c.loop-k.k ≡ n * 1000 = omega (arith, c.len-courses.ensures, c.loop-k-test.false, c.loop-k.auto.k-end) in
    IsGrid-cells c.loop-k.cells.items n 1000 (known_related c.args.i.now) (c.loop-k.invariant.whole ∙ all) (λ k d l. c.loop-k.invariant.cells k d (omega (arith, all, l)))
