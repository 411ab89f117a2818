use Rattle.std.proofs.Common.{arith, sym, subst, ◌+◌}
use Rattle.simplex_tableau.specs.Sparse.{MovesUpTo}
use Rattle.simplex_tableau.proofs.SparseLaws.{moves_one, moves_stop, moves_end}
use Rattle.simplex_tableau.proofs.sparse.copy_before.Goals as goal

pub before-2-preserved : goal.before-2-preserved
before-2-preserved g c =
    let value = g.N.Fraction.value in
    subst (λ xs. MovesUpTo value c.args.target.now c.args.from c.args.out.now.items c.args.place (c.before-2.i + 1) xs) (sym c.in_ok-append.ensures.ok)
    (moves_one value c.args.target.now c.args.from c.args.out.now.items c.args.place c.before-2.i c.before-2.out.items c.index-target-i.result c.before-2.invariant (omega arith) c.index-target-i.is (omega arith))

pub returns-then-place-entry : goal.returns-then-place-entry
returns-then-place-entry g c =
    moves_stop g.N.Fraction.value c.args.target.now c.args.from c.args.out.now.items c.args.place c.before-2.i c.before-2.out.items c.index-target-i.result c.before-2.invariant (omega arith) c.index-target-i.is (omega arith)

pub returns : goal.returns
returns g c =
    moves_end g.N.Fraction.value c.args.target.now c.args.from c.args.out.now.items c.args.place c.before-2.i c.before-2.out.items c.before-2.invariant (omega arith)
