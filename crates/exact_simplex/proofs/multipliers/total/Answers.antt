use Rattle.std.proofs.Common.{arith, refl, ◌∙◌, sym, ap₂, length, ◌<◌}
use Rattle.exact_num.specs.Ops.{◌+ℚ◌, ◌*ℚ◌}
use Rattle.exact_num.specs.Sums.{sum_ℚ-more}
use Rattle.exact_num.specs.Whole.{int_ℚ-zero}
use Rattle.simplex_tableau.specs.Dense.{num}
use Rattle.simplex_tableau.proofs.DenseLaws.{num-get}
use Rattle.exact_simplex.proofs.multipliers.total.Goals as goal

pub loop-i-init : goal.loop-i-init
loop-i-init g c = record { wides = c.in_ok-total.ensures.kept; sum = c.in_ok-total.ensures.value ∙ int_ℚ-zero }

pub loop-i-preserved : goal.loop-i-preserved
loop-i-preserved g c =
    let value = g.A.Num.Fraction.value in
    let y = c.args.y.now in
    let sides = c.args.sides.now in
    let i = c.loop-i.i in
    let l : i < length y = c.loop-i-test.true in
    record {
      wides = c.in_ok-sum.ensures.0 ∙ c.loop-i.invariant.wides;
      sum = c.in_ok-sum.ensures.1 ∙ ap₂ (λ a b. a +ℚ b) c.loop-i.invariant.sum
          (ap₂ (λ a b. a *ℚ b) (sym (num-get value y i c.index-y-i.result l c.index-y-i.is)) (sym (num-get value sides i c.index-sides-i.result (let e = c.requires in omega arith) c.index-sides-i.is)))
          ∙ sym (sum_ℚ-more (λ k. num value y k *ℚ num value sides k) i (num value y i *ℚ num value sides i) refl);
    }
