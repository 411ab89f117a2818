use Rattle.std.proofs.Common.{arith, refl}
use Rattle.simplex_tableau.proofs.SparseLaws.{so_far_more, so_far_found, so_far_none}
use Rattle.simplex_tableau.proofs.sparse.number_at.Goals as goal

pub loop-entry-init : goal.loop-entry-init
loop-entry-init g c = record { same = refl; rises = λ m h. h }

pub loop-entry-preserved : goal.loop-entry-preserved
loop-entry-preserved g c =
    so_far_more g.N.Fraction.value c.args.vector.now c.args.place c.loop-entry.entry-index c.entry-item.result (omega arith) c.entry-item.is c.if-entry-place.false c.loop-entry.invariant

pub returns-then-entry-place : goal.returns-then-entry-place
returns-then-entry-place g c =
    λ m h. so_far_found g.N.Fraction.value c.args.vector.now c.args.place c.loop-entry.entry-index c.entry-item.result (omega arith) c.entry-item.is c.if-entry-place.true c.loop-entry.invariant m h

pub returns : goal.returns
returns g c = λ m h. so_far_none g.N.Fraction.value c.args.vector.now c.args.place c.loop-entry.entry-index (omega arith) c.loop-entry.invariant
