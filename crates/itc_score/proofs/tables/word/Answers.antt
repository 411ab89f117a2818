use Rattle.std.proofs.Common.{◌+◌, ◌<◌, sym, subst, ◌≡◌, false, get_or, arith}
use Rattle.itc_score.proofs.PackedLemmas.{byte-small, mask-small, pow-few, word-ended}
use Rattle.itc_score.proofs.tables.word.Goals as goal

pub overflow_mul-word : goal.overflow_mul-word
overflow_mul-word c =
    let small = mask-small (λ k. get_or c.args.cells.now (c.args.first + k) false) c.loop-k.k in
    let few = pow-few c.loop-k.k c.loop-k-test.true in
    omega (arith, c.loop-k.invariant, small, few)

pub overflow_add-word : goal.overflow_add-word
overflow_add-word c =
    let small = mask-small (λ k. get_or c.args.cells.now (c.args.first + k) false) c.loop-k.k in
    let few = pow-few c.loop-k.k c.loop-k-test.true in
    let bit : c.from.result < 2 = subst (λ n. n < 2) (sym c.from.ensures) (byte-small (get_or c.args.cells.now (c.args.first + c.loop-k.k) false)) in
    omega (arith, c.loop-k.invariant, small, few, bit)

pub returns : goal.returns
returns c =
    let all : c.loop-k.k ≡ 50 = omega (arith, c.loop-k-test.false, c.loop-k.auto.k-end) in
    word-ended (λ k. get_or c.args.cells.now (c.args.first + k) false) c.loop-k.k c.loop-k.word all c.loop-k.invariant
