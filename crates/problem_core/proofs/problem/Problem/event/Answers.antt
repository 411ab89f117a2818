use Rattle.std.proofs.Common.{◌<◌, ◌∙◌, sym, ap, arith, length, get_or, List}
use Rattle.std.proofs.lemmas.List.{get_or-map, length-map}
use Rattle.problem_core.specs.Facts.{Facts, Event, hours_of, no_event}
use Rattle.problem_core.specs.OfParts.{event_of}
use Rattle.problem_core.proofs.RunLemmas.{length-run_of}
use Rattle.problem_core.specs.declared.parts.EventPart.{EventPart}
use Rattle.problem_core.proofs.problem.Problem.event.Goals as goal

pub returns-clause-hours : goal.returns-clause-hours
returns-clause-hours c =
    let parts = c.self.inside.parts in
    let e = c.args.event in
    let none : EventPart = record { course = 0; slot = 0; length = 0 } in
    let there : e < length parts.events = omega (arith, ap (λ (q : Facts). length q.events) c.self.view_is, c.requires, length-map parts.events event_of) in
    let x = get_or parts.events e none in
    ap (λ (ys : List EventPart). (get_or ys e none).length) c.as_slice.ensures
    ∙ sym (length-run_of x.slot x.length)
    ∙ ap (λ (y : Event). length y.takes) (sym (get_or-map event_of parts.events e none no_event there))
    ∙ ap (λ (q : Facts). hours_of q e) c.self.view_is
