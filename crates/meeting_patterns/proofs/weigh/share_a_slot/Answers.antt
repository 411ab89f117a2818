use Rattle.std.proofs.Common.{◌<◌, ◌∙◌, sym, ap, subst, arith, length}
use Rattle.std.specs.List.{AllByRecursion}
use Rattle.problem_core.specs.Courses.{is_of_course}
use Rattle.problem_core.specs.Passing.{passing-below}
use Rattle.std.specs.List.{list_any}
use Rattle.std.proofs.Common.{◌&&◌}
use Rattle.problem_core.specs.Courses.{place_of, events_of}
use Rattle.problem_core.specs.Facts.{share_slot}
use Rattle.meeting_patterns.specs.Pattern.{has_bit}
use Rattle.meeting_patterns.proofs.WeighLemmas.{slots_tell}
use Rattle.meeting_patterns.proofs.weigh.share_a_slot.Goals as goal

pub any_meets-requires-clause-known : goal.any_meets-requires-clause-known
any_meets-requires-clause-known c = subst (AllByRecursion (λ e. e < length c.args.p.now.events)) (sym c.events_of.ensures.events) (passing-below (is_of_course c.args.p.now c.args.a.course) (length c.args.p.now.events) (length c.args.p.now.events) (omega arith))

pub returns : goal.returns
returns c =
    let p = c.args.p.now in
    let x = c.args.a in
    let y = c.args.b in
    c.any_meets.ensures
    ∙ ap (list_any (λ e. has_bit x.mask (place_of p e) && list_any (λ f. has_bit y.mask (place_of p f) && share_slot p e f) (events_of p y.course))) c.events_of.ensures.events
    ∙ slots_tell p x y
