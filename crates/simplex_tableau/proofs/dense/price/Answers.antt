use Rattle.std.proofs.Common.{rules, arith, refl, ◌∙◌, sym, ap, length, ◌<◌}
use Rattle.exact_num.specs.Ops.{◌+ℚ◌, ◌*ℚ◌, zero-+ℚ, +ℚ_comm}
use Rattle.exact_num.specs.Whole.{int_ℚ-zero}
use Rattle.simplex_tableau.specs.Sparse.{dot_with}
use Rattle.simplex_tableau.specs.Dense.{num}
use Rattle.simplex_tableau.proofs.DenseLaws.{num-get, dot_more, dot_end, place-at}
use Rattle.simplex_tableau.proofs.dense.price.Goals as goal

pub loop-entry-init : goal.loop-entry-init
loop-entry-init g c =
    let value = g.A.Num.Fraction.value in
    record {
      wides = c.in_ok-total.ensures.kept;
      sum = ap (λ a. a +ℚ dot_with value (num value c.args.y.now) c.args.column.now) (c.in_ok-total.ensures.value ∙ int_ℚ-zero) ∙ zero-+ℚ (dot_with value (num value c.args.y.now) c.args.column.now);
    }

pub bounds-y-entry : goal.bounds-y-entry
bounds-y-entry g c = place-at (length c.args.y.now) c.args.column.now c.loop-entry.entry-index c.entry-item.result c.requires (omega arith) c.entry-item.is

pub offset_bounds-y-entry : goal.offset_bounds-y-entry
offset_bounds-y-entry g c =
    let k : c.entry-item.result.place < length c.args.y.now = place-at (length c.args.y.now) c.args.column.now c.loop-entry.entry-index c.entry-item.result c.requires (omega arith) c.entry-item.is in
    search rules

pub loop-entry-preserved : goal.loop-entry-preserved
loop-entry-preserved g c =
    let value = g.A.Num.Fraction.value in
    let k : c.entry-item.result.place < length c.args.y.now = place-at (length c.args.y.now) c.args.column.now c.loop-entry.entry-index c.entry-item.result c.requires (omega arith) c.entry-item.is in
    let f = num value c.args.y.now in
    let e = c.entry-item.result in
    record {
      wides = c.in_ok-sum.ensures.0 ∙ c.loop-entry.invariant.wides;
      sum = dot_more value f c.args.column.now c.loop-entry.entry-index e (value c.loop-entry.total) (f e.place *ℚ value e.number) (value c.in_ok-sum.sum) (omega arith) c.entry-item.is refl
          (c.in_ok-sum.ensures.1 ∙ ap (λ a. value c.loop-entry.total +ℚ a *ℚ value e.number) (sym (num-get value c.args.y.now e.place c.index-y-entry.result k c.index-y-entry.is)) ∙ +ℚ_comm (value c.loop-entry.total) (f e.place *ℚ value e.number)) ∙ c.loop-entry.invariant.sum;
    }

pub returns : goal.returns
returns g c = (
  c.loop-entry.invariant.wides,
  sym (dot_end g.A.Num.Fraction.value (num g.A.Num.Fraction.value c.args.y.now) c.args.column.now c.loop-entry.entry-index (g.A.Num.Fraction.value c.loop-entry.total) (omega arith)) ∙ c.loop-entry.invariant.sum,
)
