use Rattle.std.proofs.Common.{◌∙◌, ap, sym, get_or, ◌<◌, length, subst}
use Rattle.exact_simplex.specs.Task.{no_row}
use Rattle.exact_simplex.specs.Rows.{AreForced}
use Rattle.simplex_tableau.proofs.InverseLaws.{get_or-any}
use Rattle.exact_simplex.proofs.StuckLemmas.{blocked_all, counts_then}
use Rattle.exact_simplex.proofs.rows.force_rows.Goals as goal

pub returns-in-Some-clause-ends : goal.returns-in-Some-clause-ends
returns-in-Some-clause-ends g c =
    let value = g.A.Num.Fraction.value in
    let lp = c.args.lp.now in
    let t = c.args.task.now in
    let i = c.loop-i.i in
    let before = c.args.progress.now in
    let mid = c.ascend_before.new.progress in
    let l : i < length lp.rows = subst (λ xs. i < length xs) c.as_slice-rows.ensures c.loop-i-test.true in
    let up = c.in_ok-ascend_before.ensures.ends.1 in (
      c.in_ok-blocked.ensures.ends.0 ∙ c.in_ok-ascend_before.ensures.ends.0 ∙ c.loop-i.invariant.wides,
      blocked_all value lp t c.args.limit before mid c.take_row.new.progress c.args.steps.now c.ascend_before.new.steps c.take_row.new.steps i c.index-rows-i.result.kind c.in_ok-blocked.field-0 c.in-Some.blocked
          c.requires.describes l (ap (λ r. r.kind) (c.index-rows-i.is ∙ ap (λ xs. get_or xs i c.index-rows-i.result) c.as_slice-rows.ensures ∙ get_or-any lp.rows i c.index-rows-i.result no_row l))
          (subst (λ v. AreForced lp v.items i) (sym up.states) c.loop-i.invariant.forced)
          (counts_then c.args.limit before c.loop-i.progress mid c.args.steps.now c.loop-i.steps c.ascend_before.new.steps c.loop-i.invariant.counts up.counts) c.in-Some.is c.in_ok-blocked.ensures.ends.1,
    )
