use Rattle.std.proofs.Common.{false, get_or, arith, ◌∙◌}
use Rattle.itc_score.proofs.TableLemmas.{held-small, members-more, members-same}
use Rattle.itc_score.proofs.compactness.add_members.Goals.{then-are_members-course, else-are_members-course}
use Rattle.itc_score.proofs.compactness.add_members.Goals as goal

pub add_row-requires-clause-small : goal.add_row-requires-clause-small
add_row-requires-clause-small c = λ p l. rw (c.loop-course.invariant.counts p (omega (arith, l, c.loop-course.invariant.whole))) (held-small (λ k. get_or c.args.are_members.now k false) c.args.held.now c.loop-course.course p (omega (arith, c.loop-course-test.true, c.requires.few)))

pub loop-course-preserved : goal.loop-course-preserved
loop-course-preserved c = elim c.if-are_members-course.branch [
  | then-are_members-course w ↦ rw (w.counts-is) (record {
    whole = w.add_row.ensures.whole ∙ c.loop-course.invariant.whole;
    counts = λ p l. members-more (λ k. get_or c.args.are_members.now k false) c.args.held.now c.loop-course.course p _ _ (c.loop-course.invariant.counts p l) w.if-are_members-course.true (w.add_row.ensures.added p (omega (arith, l, c.loop-course.invariant.whole)));
  })
  | else-are_members-course w ↦ rw (w.counts-is) (record {
    whole = c.loop-course.invariant.whole;
    counts = λ p l. members-same (λ k. get_or c.args.are_members.now k false) c.args.held.now c.loop-course.course p _ (c.loop-course.invariant.counts p l) w.if-are_members-course.false;
  })
]
