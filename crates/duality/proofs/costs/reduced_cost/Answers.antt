use Rattle.std.proofs.Common.{◌++◌, ◌≡◌, ◌∙◌, ◌*◌, ◌^◌, arith, ap, lit<, lit≤}
use Rattle.std.specs.Prelude.{ℤ, ◌*ℤ◌, ◌+ℤ◌, ◌-ℤ◌}
use Rattle.std.proofs.lemmas.Int.{ints}
use mir.Syntax.{w128}
use mir.Val.{to_z, of_z}
use Rattle.numbers.specs.Sums.{total}
use Rattle.duality.specs.Packing.{Weights, level_coefficient}
use Rattle.duality.specs.Runs.{rows_in}
use Rattle.duality.specs.Sums.{IsWithin, times_of, level_sum}
use Rattle.duality.proofs.PricedLaws.{plain_within, plain_sum, within_sum, plain_gain, small_within, one_pattern}
use Rattle.duality.proofs.costs.reduced_cost.Goals as goal

pub added-cost-requires-clause-sum : goal.added-cost-requires-clause-sum
added-cost-requires-clause-sum g c = plain_within (7 * (4 * 10 ^ 36)) (10 ^ 38) c.priced_levels.result (lit≤ tt) (lit< tt) c.priced_levels.ensures.small

pub lessened-requires-clause-sum : goal.lessened-requires-clause-sum
lessened-requires-clause-sum g c = plain_within (4 * 10 ^ 36) (10 ^ 37) c.product-gain.result (lit≤ tt) (lit< tt) c.product-gain.ensures.small

cost_is : (levels cliques r l x : ℤ) → IsWithin (7 * (4 * 10 ^ 36)) levels → IsWithin (5000 * 10 ^ 24) cliques → r ≡ to_z w128 (of_z w128 levels) +ℤ to_z w128 (of_z w128 cliques) → levels ≡ l → cliques ≡ x
    → to_z w128 (of_z w128 r) ≡ x +ℤ l
cost_is levels cliques r l x p q e a b = plain_sum (7 * (4 * 10 ^ 36)) (5000 * 10 ^ 24) (10 ^ 38) levels cliques r p q (lit≤ tt) (lit< tt) e ∙ omega (arith, ints, a, b)

pub lessened-requires-clause-part : goal.lessened-requires-clause-part
lessened-requires-clause-part g c =
    rw (plain_sum (7 * (4 * 10 ^ 36)) (5000 * 10 ^ 24) (10 ^ 38) c.priced_levels.result c.priced_cliques.result c.added-cost.result c.priced_levels.ensures.small c.priced_cliques.ensures.small (lit≤ tt) (lit< tt) c.added-cost.ensures)
    (within_sum (7 * (4 * 10 ^ 36)) (5000 * 10 ^ 24) (10 ^ 38) c.priced_levels.result c.priced_cliques.result c.priced_levels.ensures.small c.priced_cliques.ensures.small (lit≤ tt))

finish : (r gain cost a b : ℤ) → r ≡ gain -ℤ cost → gain ≡ a → cost ≡ b → IsWithin (10 ^ 37) gain → IsWithin (10 ^ 38) cost → to_z w128 (of_z w128 r) ≡ a -ℤ b
finish r gain cost a b e p q h k = omega (arith, ints, e, p, q, h.low, h.high, k.low, k.high)

pub returns : goal.returns
returns g c =
    let w : Weights = record { weight = g.O.Objective.weight c.args.objective.now; floor = g.O.Objective.floor c.args.objective.now } in
    let small : IsWithin (4 * 10 ^ 12) c.weight_of.result = record { low = omega (arith, ints, c.weight_of.ensures.small.low); high = omega (arith, ints, c.weight_of.ensures.small.high) } in
    let gain : to_z w128 (of_z w128 c.product-gain.result) ≡ c.args.leaf.now.scale *ℤ g.O.Objective.weight c.args.objective.now c.args.level c.args.pattern =
    plain_gain c.args.leaf.now.scale c.weight_of.result c.product-gain.result (small_within (10 ^ 24) c.args.leaf.now.scale c.requires.scale) small c.product-gain.ensures.small c.product-gain.ensures.value
    ∙ ap (λ z. c.args.leaf.now.scale *ℤ z) c.weight_of.ensures.value in
    let cost : to_z w128 (of_z w128 c.added-cost.result) ≡ total (times_of c.args.leaf.now.terms) (rows_in c.args.base.now ++ c.args.cuts.now) +ℤ level_sum c.args.leaf.now.terms (λ j. level_coefficient w j c.args.pattern) =
    cost_is c.priced_levels.result c.priced_cliques.result c.added-cost.result _ _ c.priced_levels.ensures.small c.priced_cliques.ensures.small c.added-cost.ensures
    (c.priced_levels.ensures.value ∙ one_pattern c.args.leaf.now.terms c.args.times.now w c.args.pattern c.requires.times)
    (c.priced_cliques.ensures.value ∙ ap (λ ts. total (times_of ts) (rows_in c.args.base.now ++ c.args.cuts.now)) c.requires.terms) in
    finish c.lessened.result (to_z w128 (of_z w128 c.product-gain.result)) (to_z w128 (of_z w128 c.added-cost.result))
    (c.args.leaf.now.scale *ℤ g.O.Objective.weight c.args.objective.now c.args.level c.args.pattern)
    (total (times_of c.args.leaf.now.terms) (rows_in c.args.base.now ++ c.args.cuts.now) +ℤ level_sum c.args.leaf.now.terms (λ j. level_coefficient w j c.args.pattern))
    c.lessened.ensures gain cost
    (plain_within (4 * 10 ^ 36) (10 ^ 37) c.product-gain.result (lit≤ tt) (lit< tt) c.product-gain.ensures.small)
    (rw (plain_sum (7 * (4 * 10 ^ 36)) (5000 * 10 ^ 24) (10 ^ 38) c.priced_levels.result c.priced_cliques.result c.added-cost.result c.priced_levels.ensures.small c.priced_cliques.ensures.small (lit≤ tt) (lit< tt) c.added-cost.ensures)
    (within_sum (7 * (4 * 10 ^ 36)) (5000 * 10 ^ 24) (10 ^ 38) c.priced_levels.result c.priced_cliques.result c.priced_levels.ensures.small c.priced_cliques.ensures.small (lit≤ tt)))
