use Rattle.std.proofs.Common.{rules, arith, ◌∙◌, ◌+◌, ◌≡◌, sym, ap, subst, SFits, to_z-of_z}
use Rattle.std.specs.Int.{w64, w128}
use Rattle.exact_num.specs.Whole.{int_ℚ, int_ℚ-zero}
use Rattle.simplex_tableau.proofs.InverseLaws.{get_or-any}
use Rattle.exact_simplex.specs.Task.{no_row}
use Rattle.exact_simplex.specs.Build.{AreFirstSides, AreSides}
use Rattle.exact_simplex.proofs.BuildLemmas.{sides_more, sides_end}
use Rattle.exact_simplex.proofs.build.sides_of.Goals as goal

pub loop-row-preserved : goal.loop-row-preserved
loop-row-preserved g c =
    let value = g.A.Num.Fraction.value in
    let rows = c.args.rows.now in
    let i = c.loop-row.row-index in
    let fits : SFits w128 c.from.result = search rules in
    let short : SFits w64 c.row-item.result.side = search rules in
    let h = c.in_ok-side.ensures.value in
    let k = c.from.ensures in
    let number : value c.in_ok-side.side ≡ int_ℚ c.from.result = simp to_z-of_z at h in
    let same : c.from.result ≡ c.row-item.result.side = simp to_z-of_z at k in
    record {
      wides = c.in_ok-side.ensures.kept ∙ c.loop-row.invariant.wides;
      so_far = subst (λ z. AreFirstSides value rows (i + 1) z) (sym c.in_ok-append_number.ensures.ok)
          (sides_more value rows i c.loop-row.sides.items c.in_ok-side.side
          (number ∙ ap int_ℚ same ∙ ap (λ r. int_ℚ r.side) (c.row-item.is ∙ get_or-any rows i c.row-item.result no_row c.loop-row-test.true)) c.loop-row.invariant.so_far);
    }

pub returns : goal.returns
returns g c =
    let value = g.A.Num.Fraction.value in (
      c.loop-row.invariant.wides,
      subst (λ z. AreSides value c.args.rows.now z) (sym c.in_ok-append_number-2.ensures.ok)
          (sides_end value c.args.rows.now c.loop-row.row-index c.loop-row.sides.items c.in_ok-zero.zero (omega arith) (c.in_ok-zero.ensures.value ∙ int_ℚ-zero) c.loop-row.invariant.so_far),
    )
