use Rattle.std.proofs.Common.{◌≡◌, ◌<◌, ◌∙◌, true, sym, subst, arith, length}
use Rattle.std.specs.List.{AllByRecursion}
use Rattle.problem_core.specs.Courses.{is_of_course}
use Rattle.problem_core.specs.Passing.{passing-below}
use Rattle.meeting_patterns.proofs.WeighLemmas.{weight_is, each_passes}
use Rattle.std.proofs.lemmas.Int.{ints}
use mir.Syntax.{w64}
use mir.Val.{to_z, of_z}
use Rattle.meeting_patterns.proofs.weigh.weight.Goals as goal

pub weight_of-requires-clause-known : goal.weight_of-requires-clause-known
weight_of-requires-clause-known c = subst (AllByRecursion (λ e. e < length c.args.p.now.events)) (sym c.events_of.ensures.events) (passing-below (is_of_course c.args.p.now c.args.a.course) (length c.args.p.now.events) (length c.args.p.now.events) (omega arith))

pub weight_of-requires-clause-of_course : goal.weight_of-requires-clause-of_course
weight_of-requires-clause-of_course c =
    subst (AllByRecursion (λ e. is_of_course c.args.p.now c.args.a.course e ≡ true)) (sym c.events_of.ensures.events) (each_passes (is_of_course c.args.p.now c.args.a.course) (length c.args.p.now.events))

pub returns-clause-weight : goal.returns-clause-weight
returns-clause-weight c =
    let small = c.weight_of.ensures.small in
    let same : to_z w64 (of_z w64 c.weight_of.result) ≡ c.weight_of.result = omega (arith, ints, small.low, small.high) in
    same ∙ weight_is c.args.p.now c.args.a c.args.level c.events_of.result.now c.weight_of.result c.requires.not_rooms c.events_of.ensures.events c.weight_of.ensures.weight
