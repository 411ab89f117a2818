use Rattle.std.proofs.Common.{arith, refl, ◌∙◌, sym, ap, length, ◌<◌, subst}
use Rattle.exact_num.specs.Ops.{◌+ℚ◌, zero-+ℚ}
use Rattle.simplex_tableau.specs.Sparse.{dot_with, at, Rises}
use Rattle.simplex_tableau.proofs.DenseLaws.{place-at}
use Rattle.simplex_tableau.specs.Inverse.{inv_of}
use Rattle.simplex_tableau.proofs.InverseLaws.{list-get, makes_more, made_from, made_end}
use Rattle.simplex_tableau.proofs.inverse.ftran.Goals as goal

pub loop-entry-init : goal.loop-entry-init
loop-entry-init g c =
    let value = g.A.Num.Fraction.value in
    record {
      wides = refl;
      same = λ p. ap (λ xs. at value xs p +ℚ dot_with value (λ k. inv_of value c.args.inverse.now k p) c.args.column.now) c.new-made.ensures ∙ zero-+ℚ (dot_with value (λ k. inv_of value c.args.inverse.now k p) c.args.column.now);
      rises = λ m h. subst (λ xs. Rises 0 m xs) (sym c.new-made.ensures) tt;
    }

pub bounds-inverse-entry : goal.bounds-inverse-entry
bounds-inverse-entry g c = place-at (length c.args.inverse.now) c.args.column.now c.loop-entry.entry-index c.entry-item.result c.requires (omega arith) c.entry-item.is

pub loop-entry-preserved : goal.loop-entry-preserved
loop-entry-preserved g c =
    let value = g.A.Num.Fraction.value in
    let k : c.entry-item.result.place < length c.args.inverse.now = place-at (length c.args.inverse.now) c.args.column.now c.loop-entry.entry-index c.entry-item.result c.requires (omega arith) c.entry-item.is in
    let here = list-get c.args.inverse.now c.entry-item.result.place c.index-inverse-entry.result k c.index-inverse-entry.is ∙ sym c.as_slice-source.ensures in
    let sum = made_from value c.loop-entry.made c.as_slice.result.now (value c.entry-item.result.number) c.as_slice-source.result.now c.in_ok-made.made c.as_slice.ensures c.in_ok-made.ensures.1 in
    record {
      wides = c.in_ok-made.ensures.0 ∙ c.loop-entry.invariant.wides;
      same = λ p. makes_more value c.args.inverse.now c.args.column.now c.loop-entry.entry-index c.entry-item.result c.loop-entry.made c.as_slice-source.result.now c.in_ok-made.made (omega arith) c.entry-item.is here sum p ∙ c.loop-entry.invariant.same p;
      rises = λ m h. sum.rises m (c.loop-entry.invariant.rises m h) (subst (λ xs. Rises 0 m xs) here (h c.entry-item.result.place k));
    }

pub returns : goal.returns
returns g c =
    let value = g.A.Num.Fraction.value in (
      c.loop-entry.invariant.wides,
      record {
        sums = λ p. sym (made_end value c.args.inverse.now c.args.column.now c.loop-entry.entry-index (at value c.loop-entry.made p) p (omega arith)) ∙ c.loop-entry.invariant.same p;
        rises = c.loop-entry.invariant.rises;
      },
    )
