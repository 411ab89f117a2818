use Rattle.std.proofs.Common.{◌≡◌, ◌∙◌, ap, length, true}
use Rattle.timed_solution.specs.Placed.{Held, has_place}
use Rattle.timed_solution.proofs.PlacedLemmas.{AreTables-more}
use Rattle.timed_solution.proofs.placed.Placed.push.Goals as goal

pub invariant_of-self-2 : goal.invariant_of-self-2
invariant_of-self-2 c =
    let m = c.args.meeting in
    let p = c.self.inside in
    let placed : has_place (length p.held.items) m ≡ true = ap (λ (x : Held). has_place x.courses m) c.self.view_is ∙ c.requires.placed in
    AreTables-more p.meetings c.push.new.self p.taken.items p.held.items m c.index_mut-2.result.now c.place.result c.in_ok-push.ensures.ok c.place.ensures c.index_mut-2.ensures.value placed c.self.invariant
