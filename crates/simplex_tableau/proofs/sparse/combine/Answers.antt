use Rattle.std.proofs.Common.{arith, refl, sym, subst, ◌∙◌, ap, ◌++◌, drop}
use Rattle.simplex_tableau.specs.Sparse.{at, Rises}
use Rattle.simplex_tableau.proofs.SparseLaws.{gathered_start, gathered_end, gathered_more, drop_whole, gathers_start, gathers_more, gathers_end}
use Rattle.simplex_tableau.proofs.sparse.combine.Goals as goal

pub merge-init : goal.merge-init
merge-init g c = record {
  within = omega arith;
  wides = refl;
  same = gathered_start g.A.Num.Fraction.value c.new-out.result.items c.args.target.now (g.A.Num.Fraction.value c.args.factor) c.args.source.now c.new-out.ensures.items;
  meet = λ m h k. gathers_start m c.new-out.result.items c.args.target.now c.args.source.now c.new-out.ensures.items h k;
}

pub merge-preserved : goal.merge-preserved
merge-preserved g c =
    let value = g.A.Num.Fraction.value in
    let times = c.in_ok-number.ensures in
    let gains = c.in_ok-i-2.ensures in
    record {
      within = gains.1.within;
      wides = gains.0 ∙ times.0 ∙ c.merge.invariant.wides;
      same = λ p. gathered_more value c.merge.out.items c.copy_before.new.out.items c.put_next.new.out.items c.args.target.now c.merge.i c.in_ok-i.i c.in_ok-i-2.i (value c.args.factor) c.args.source.now c.merge.entry-index
          c.entry-item.result (value c.in_ok-number.number) c.in_ok-i.ensures gains.1 (omega arith) c.entry-item.is times.1 p ∙ c.merge.invariant.same p;
      meet = λ m h k. gathers_more value m c.merge.out.items c.copy_before.new.out.items c.put_next.new.out.items c.args.target.now c.merge.i c.in_ok-i.i c.in_ok-i-2.i c.args.source.now c.merge.entry-index
          c.entry-item.result (value c.in_ok-number.number) c.in_ok-i.ensures gains.1 (omega arith) c.entry-item.is (c.merge.invariant.meet m h k);
    }

pub returns-in-Ok : goal.returns-in-Ok
returns-in-Ok g c =
    let value = g.A.Num.Fraction.value in
    let whole = c.from.ensures ∙ c.in-Ok.ensures.items ∙ ap (λ ys. c.merge.out.items ++ ys) (drop_whole c.args.target.now c.merge.i) in (
      c.merge.invariant.wides,
      record {
        sums = λ p. ap (λ xs. at value xs p) whole ∙ gathered_end value c.merge.out.items c.args.target.now c.merge.i (value c.args.factor) c.args.source.now c.merge.entry-index (omega arith) p ∙ c.merge.invariant.same p;
        rises = λ m h k. subst (λ xs. Rises 0 m xs) (sym whole) (gathers_end m c.merge.out.items (drop c.merge.i c.args.target.now) (drop c.merge.entry-index c.args.source.now) (c.merge.invariant.meet m h k));
      },
    )
