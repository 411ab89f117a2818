use Rattle.std.proofs.Common.{◌<◌, sym, subst, arith, length}
use Rattle.std.specs.List.{AllByRecursion}
use Rattle.problem_core.specs.Courses.{is_of_course}
use Rattle.problem_core.specs.Passing.{passing-below}
use Rattle.meeting_patterns.proofs.weigh.meets.Goals as goal

pub meets_one-requires-clause-others : goal.meets_one-requires-clause-others
meets_one-requires-clause-others c = subst (AllByRecursion (λ e. e < length c.args.p.now.events)) (sym c.events_of.ensures.events) (passing-below (is_of_course c.args.p.now c.args.b.course) (length c.args.p.now.events) (length c.args.p.now.events) (omega arith))
