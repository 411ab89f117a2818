use Rattle.std.proofs.Common.{◌≡◌, ℕ, List, arith, refl, subst, length, get_or}
use Rattle.std.specs.Prelude.{ℤ, pos, ◌<◌, ◌*ℤ◌}
use Rattle.duality.specs.Sums.{weighed}
use Rattle.packing_model.specs.Closing.{counted}
use Rattle.node_bound.proofs.GivenLaws.{all_behind, more_counted, more_within}
use Rattle.node_bound.proofs.gap.sum_of.Goals as goal

pub loop-entry-preserved : goal.loop-entry-preserved
loop-entry-preserved g c =
    let f : ℕ → ℤ = weighed (counted (g.O.Objective.weight c.args.objective.now) (g.O.Objective.floor c.args.objective.now)) c.args.what in
    let es = c.args.point.now.entries in
    let i = c.loop-entry.entry-index in
    let inside : i < length es = subst (λ xs. i < length xs) c.as_slice-entry-items.ensures c.loop-entry-test.true in
    let few : i < 100000 = omega (arith, inside, c.requires.point.few) in
    record {
      rest = more_counted f es i _ c.weight_in.result c.added-sum.result _ inside few c.loop-entry.invariant.small c.weight_in.ensures.small refl c.added-sum.ensures (subst (λ (xs : List (ℕ × ℤ)). c.weight_in.result ≡ f (get_or xs i (0, pos 0)).0 *ℤ (get_or xs i (0, pos 0)).1) c.as_slice-entry-items.ensures c.weight_in.ensures.value) c.loop-entry.invariant.rest;
      small = more_within i _ c.weight_in.result c.added-sum.result _ few c.loop-entry.invariant.small c.weight_in.ensures.small refl c.added-sum.ensures;
      known = all_behind _ es i inside c.loop-entry.invariant.known;
      parts = all_behind _ es i inside c.loop-entry.invariant.parts;
    }
