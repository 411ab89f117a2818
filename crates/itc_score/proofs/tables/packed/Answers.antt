use Rattle.std.proofs.Common.{◌≡◌, ◌*◌, ◌∙◌, arith}
use Rattle.itc_score.proofs.PackedLemmas.{IsPacked-made}
use Rattle.itc_score.proofs.tables.packed.Goals as goal

pub returns : goal.returns
returns c = λ f grid.
    let all : c.loop-w.w ≡ c.args.rows * 20 = omega (arith, c.loop-w-test.false, c.loop-w.auto.w-end) in
    IsPacked-made c.args.cells.now c.loop-w.words.items c.args.rows f grid (c.loop-w.invariant.whole ∙ all) (λ w d l. c.loop-w.invariant.words w d (omega (arith, all, l)))
