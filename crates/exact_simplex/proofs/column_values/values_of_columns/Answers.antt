use Rattle.std.proofs.Common.{◌∙◌, sym, ap, subst, refl, arith, length, get_or}
use Rattle.exact_num.specs.Whole.{int_ℚ-zero}
use Rattle.simplex_tableau.proofs.TableauLaws.{written}
use Rattle.exact_simplex.specs.Values.{AddsValue}
use Rattle.exact_simplex.proofs.ValueLemmas.{values_none, values_more}
use Rattle.exact_simplex.proofs.column_values.values_of_columns.Goals as goal

pub loop-p-init : goal.loop-p-init
loop-p-init g c = record {
  wides = c.in_ok-zero.ensures.kept;
  so_far = values_none g.A.Num.Fraction.value c.args.columns c.args.variables.now c.args.numbers.now c.in_ok-values.values.items c.in_ok-zero.zero (c.in_ok-zero.ensures.value ∙ int_ℚ-zero) c.in_ok-values.ensures.ok;
}

pub loop-p-preserved : goal.loop-p-preserved
loop-p-preserved g c =
    let value = g.A.Num.Fraction.value in
    let same = written c.loop-p.values c.add_value.new.values (c.add_value.auto.values ∙ ap length c.deref_mut.ensures.value) in
    record {
      wides = c.in_ok-add_value.ensures.0 ∙ c.loop-p.invariant.wides;
      so_far = values_more value c.args.columns c.args.variables.now c.args.numbers.now c.loop-p.values.items _ c.loop-p.p (get_or c.args.variables.now c.loop-p.p 0) c.index-numbers-p.result c.loop-p-test.true (let k = c.requires in let j = c.loop-p-test.true in omega arith)
          refl c.index-numbers-p.is (ap length same ∙ c.add_value.auto.values ∙ ap length c.deref_mut.ensures.value)
          (subst (λ xs. AddsValue value c.loop-p.values.items (get_or c.args.variables.now c.loop-p.p 0) (value c.index-numbers-p.result) xs) (sym same)
          (subst (λ xs. AddsValue value xs (get_or c.args.variables.now c.loop-p.p 0) (value c.index-numbers-p.result) c.add_value.new.values) c.deref_mut.ensures.value c.in_ok-add_value.ensures.1))
          c.loop-p.invariant.so_far;
    }
