use Rattle.std.proofs.Common.{◌<◌, ◌∙◌, sym, ap, subst, arith, length}
use Rattle.std.specs.List.{AllByRecursion}
use Rattle.problem_core.specs.Courses.{is_of_course}
use Rattle.problem_core.specs.Passing.{passing-below}
use Rattle.meeting_patterns.proofs.WeighLemmas.{events_tell, no_event}
use Rattle.std.specs.List.{list_any}
use Rattle.std.proofs.lemmas.Bool.{ne_eqb}
use Rattle.std.proofs.Common.{◌&&◌}
use Rattle.problem_core.specs.Courses.{place_of}
use Rattle.meeting_patterns.specs.Pattern.{has_bit}
use Rattle.meeting_patterns.proofs.weigh.share_event.Goals as goal

pub share_a_bit-requires : goal.share_a_bit-requires
share_a_bit-requires c = subst (AllByRecursion (λ e. e < length c.args.p.now.events)) (sym c.events_of.ensures.events) (passing-below (is_of_course c.args.p.now c.args.a.course) (length c.args.p.now.events) (length c.args.p.now.events) (omega arith))

pub returns-then-a-b : goal.returns-then-a-b
returns-then-a-b c =
    c.share_a_bit.ensures
    ∙ ap (list_any (λ e. has_bit c.args.a.mask (place_of c.args.p.now e) && has_bit c.args.b.mask (place_of c.args.p.now e))) c.events_of.ensures.events
    ∙ events_tell c.args.p.now c.args.a c.args.b c.if-a-b.true

pub returns-else-a-b : goal.returns-else-a-b
returns-else-a-b c = ne_eqb c.args.a.course c.args.b.course c.if-a-b.false ∙ sym (no_event c.args.p.now c.args.a c.args.b c.if-a-b.false)
