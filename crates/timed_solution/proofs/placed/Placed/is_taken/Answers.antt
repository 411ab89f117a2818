use Rattle.std.proofs.Common.{◌≡◌, ◌∙◌, ap, length, true}
use Rattle.std.specs.List.{list_any}
use Rattle.timed_solution.specs.Times.{same_time}
use Rattle.timed_solution.specs.Placed.{Held, has_place}
use Rattle.timed_solution.proofs.PlacedLemmas.{taken-is}
use Rattle.timed_solution.proofs.placed.Placed.is_taken.Goals as goal

pub returns : goal.returns
returns c =
    let m = c.args.meeting.now in
    let p = c.self.inside in
    let placed : has_place (length p.held.items) m ≡ true = ap (λ (x : Held). has_place x.courses m) c.self.view_is ∙ c.requires in
    taken-is p.meetings p.taken.items p.held.items m c.place.result c.index.result.now c.self.invariant placed c.place.ensures c.index.ensures
    ∙ ap (λ (x : Held). list_any (same_time m) x.meetings) c.self.view_is
