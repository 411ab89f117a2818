use Rattle.std.proofs.Common.{rules, arith, refl}
use Rattle.simplex_tableau.proofs.SparseLaws.{gains_alone, gains_sum, later_ended, later_other}
use Rattle.simplex_tableau.proofs.sparse.put_next.Goals as goal
use Rattle.simplex_tableau.proofs.sparse.put_next.Goals.{then-i-target+else-base-place, else-i-target}

pub returns-then-base-place : goal.returns-then-base-place
returns-then-base-place g c =
    let value = g.A.Num.Fraction.value in (
      c.in_ok-sum.ensures.kept,
      gains_sum value c.args.target.now c.args.i c.args.out.now.items c.args.place (value c.args.number) (value c.in_ok-sum.sum) c.put.new.out.items c.index-target-i.result (omega arith) c.index-target-i.is (search rules) c.in_ok-sum.ensures.value c.in_ok-put.ensures.ok,
    )

pub returns : goal.returns
returns g c =
    let value = g.A.Num.Fraction.value in (
      refl,
      gains_alone value c.args.target.now c.args.i c.args.out.now.items c.args.place (value c.args.number) c.put-2.new.out.items c.in_ok-put-2.ensures.ok c.requires
          (elim c.if-i-target.branch [
            | then-i-target+else-base-place w ↦ later_other c.args.target.now c.args.i c.args.place w.index-target-i.result (omega arith) w.index-target-i.is (search rules)
            | else-i-target w ↦ later_ended c.args.target.now c.args.i c.args.place (omega arith)
          ]),
    )
