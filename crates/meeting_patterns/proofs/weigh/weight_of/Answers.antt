use Rattle.std.proofs.Common.{◌≡◌, ◌<◌, refl, arith, length, get_or}
use Rattle.std.specs.Prelude.{ℤ, ◌+ℤ◌}
use Rattle.std.proofs.lemmas.Int.{ints}
use Rattle.numbers.specs.Sums.{picked}
use Rattle.problem_core.specs.Courses.{place_of}
use Rattle.problem_core.specs.Measures.{gain}
use Rattle.meeting_patterns.specs.Pattern.{has_bit}
use Rattle.meeting_patterns.proofs.WeighLemmas.{total-step, within-step, drop-step}
use mir.Syntax.{w64}
use mir.Val.{to_z, of_z}
use Rattle.meeting_patterns.proofs.weigh.weight_of.Goals as goal

pub loop-event-preserved : goal.loop-event-preserved
loop-event-preserved c =
    let s : ℤ = to_z w64 c.loop-event.sum-bits in
    let part : ℤ = c.gain_within-sum.result in
    let i = c.loop-event.event-index in
    let xs = c.args.events.now in
    let inv = c.loop-event.invariant in
    let g = c.gain_within-sum.ensures in
    let there : i < length xs = omega arith in
    let e : to_z w64 (of_z w64 (s +ℤ to_z w64 (of_z w64 part))) ≡ s +ℤ part = omega (arith, ints, inv.small.low, inv.small.high, g.small.low, g.small.high, there, c.requires.few) in
    record {
      rest = total-step (λ e. picked (has_bit c.args.a.mask (place_of c.args.p.now e)) (gain c.args.p.now c.args.level e c.args.a.room)) xs i (get_or xs i 0) s _ part there refl e g.gain inv.rest;
      small = within-step i s _ part e inv.small g.small;
      known = drop-step _ xs i there inv.known;
      of_course = drop-step _ xs i there inv.of_course;
    }
