use Rattle.std.proofs.Common.{◌<◌, sym, subst, arith, length}
use Rattle.std.specs.List.{AllByRecursion}
use Rattle.problem_core.specs.Courses.{is_of_course}
use Rattle.problem_core.specs.Passing.{passing-below}
use Rattle.meeting_patterns.proofs.WeighLemmas.{choice_tells}
use Rattle.meeting_patterns.proofs.choose.chooses.Goals as goal

pub differs-requires-clause-known : goal.differs-requires-clause-known
differs-requires-clause-known c =
    subst (AllByRecursion (λ e. e < length c.args.p.now.events)) (sym c.events_of.ensures.events) (passing-below (is_of_course c.args.p.now c.args.x.course) (length c.args.p.now.events) (length c.args.p.now.events) (omega arith))

pub returns : goal.returns
returns c = choice_tells c.args.p.now c.args.entries.now c.args.x c.events_of.result.now c.differs.result c.events_of.ensures.events c.differs.ensures
