use Rattle.std.proofs.Common.{arith, ◌∙◌, ◌+◌, sym, ap, subst, false}
use Rattle.std.specs.Prelude.{pos}
use Rattle.exact_num.specs.Ops.{neg_ℚ}
use Rattle.exact_num.specs.Whole.{int_ℚ-one, int_ℚ-neg}
use Rattle.exact_simplex.specs.Force.{SignedTo}
use Rattle.exact_simplex.proofs.ForceLemmas.{opposite_more}
use Rattle.exact_simplex.proofs.force.opposites.Goals as goal

pub loop-k-preserved : goal.loop-k-preserved
loop-k-preserved g c =
    let value = g.A.Num.Fraction.value in
    record {
      wides = c.in_ok-number.ensures.kept ∙ c.loop-k.invariant.wides;
      so_far = subst (λ z. SignedTo value false c.args.y.now (c.loop-k.k + 1) z) (sym c.in_ok-append_number.ensures.ok)
          (opposite_more value c.args.y.now c.loop-k.k c.loop-k.numbers.items c.in_ok-minus.minus c.index-y-k.result c.in_ok-number.number (omega arith) c.index-y-k.is
          (c.in_ok-minus.ensures.value ∙ int_ℚ-neg (pos 1) ∙ ap neg_ℚ int_ℚ-one) c.in_ok-number.ensures.value c.loop-k.invariant.so_far);
    }
