use Rattle.std.proofs.Common.{arith, refl, ◌∙◌, sym, subst, length, ◌≡◌}
use Rattle.exact_num.specs.Ops.{inv_ℚ}
use Rattle.simplex_tableau.specs.Sparse.{Rises, NumberAt}
use Rattle.simplex_tableau.proofs.SparseLaws.{rises-to}
use Rattle.simplex_tableau.specs.Inverse.{list_at}
use Rattle.simplex_tableau.proofs.InverseLaws.{list-get, row_start, row_more}
use Rattle.simplex_tableau.proofs.inverse.row_over.Goals as goal

pub loop-k-init : goal.loop-k-init
loop-k-init g c = record { wides = refl; so_far = row_start g.A.Num.Fraction.value c.args.inverse.now c.args.place (inv_ℚ (g.A.Num.Fraction.value c.args.divisor)) c.new-row.result c.new-row.ensures }

pub loop-k-preserved : goal.loop-k-preserved
loop-k-preserved g c =
    let value = g.A.Num.Fraction.value in
    let here : list_at c.args.inverse.now c.loop-k.k ≡ c.as_slice.result.now = list-get c.args.inverse.now c.loop-k.k c.index-inverse-k.result (omega arith) c.index-inverse-k.is ∙ sym c.as_slice.ensures in
    let at_place : NumberAt value c.as_slice.result.now c.args.place c.number_at-found.result
    = c.number_at-found.ensures (length c.args.inverse.now) (subst (λ xs. Rises 0 (length c.args.inverse.now) xs) here (c.requires.rises c.loop-k.k (omega arith))) in
    record {
      wides = c.in_ok-push_share.ensures.0 ∙ c.loop-k.invariant.wides;
      so_far = row_more value c.args.inverse.now c.args.place (inv_ℚ (value c.args.divisor)) c.loop-k.row c.push_share.new.row c.loop-k.k c.number_at-found.result
          (subst (λ xs. NumberAt value xs c.args.place c.number_at-found.result) (sym here) at_place) c.in_ok-push_share.ensures.1 c.loop-k.invariant.so_far;
    }

pub returns : goal.returns
returns g c = (c.loop-k.invariant.wides, record { sums = λ k l. c.loop-k.invariant.so_far.sums k (omega arith); rises = rises-to 0 c.loop-k.k (length c.args.inverse.now) c.loop-k.row (omega arith) c.loop-k.invariant.so_far.rises })
