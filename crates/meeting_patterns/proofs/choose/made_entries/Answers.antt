use Rattle.std.proofs.Common.{◌<◌, sym, subst, arith, length}
use Rattle.std.specs.List.{AllByRecursion}
use Rattle.problem_core.specs.Courses.{is_of_course}
use Rattle.problem_core.specs.Passing.{passing-below}
use Rattle.meeting_patterns.proofs.MadeLemmas.{made_step}
use Rattle.meeting_patterns.proofs.choose.made_entries.Goals as goal

pub place-requires-clause-known : goal.place-requires-clause-known
place-requires-clause-known c =
    subst (AllByRecursion (λ e. e < length c.args.p.now.events)) (sym c.events_of.ensures.events) (passing-below (is_of_course c.args.p.now c.get-x.result.course) (length c.args.p.now.events) (length c.args.p.now.events) (omega arith))

pub loop-left-preserved : goal.loop-left-preserved
loop-left-preserved c =
    let inv = c.loop-left.invariant in
    record {
      within = omega (arith, inv.within);
      one_each = c.place.ensures.one_each;
      made_so = λ e l. made_step c.args.p.now c.args.s.now c.args.list.now c.events_of.result.now c.get-x.result c.loop-left.left e _ _ c.loop-left-test.true inv.within l c.get-x.ensures c.events_of.ensures.events (c.place.ensures.entries e) (inv.made_so e l);
    }
