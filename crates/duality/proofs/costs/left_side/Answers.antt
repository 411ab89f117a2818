use Rattle.std.proofs.Common.{◌≡◌, ◌∙◌, ◌*◌, ◌^◌, arith, ap, lit<, lit≤}
use Rattle.std.specs.Prelude.{ℤ, ◌*ℤ◌, ◌+ℤ◌, ◌-ℤ◌}
use Rattle.std.proofs.lemmas.Int.{ints}
use mir.Syntax.{w128}
use mir.Val.{to_z, of_z}
use Rattle.numbers.specs.Sums.{total}
use Rattle.duality.specs.Packing.{Weights, level_coefficient, level_side}
use Rattle.duality.specs.Sums.{IsWithin, clique_worth, level_sum}
use Rattle.duality.proofs.PricedLaws.{plain_within, plain_sum, within_sum, plain_gain, small_within, many_patterns}
use Rattle.duality.proofs.costs.left_side.Goals as goal

pub product-gain-requires-clause-times : goal.product-gain-requires-clause-times
product-gain-requires-clause-times g c =
    plain_within (10 ^ 24) (10 ^ 24) c.args.leaf.now.scale (lit≤ tt) (lit< tt) (small_within (10 ^ 24) c.args.leaf.now.scale c.requires.scale)

pub added-cost-requires-clause-sum : goal.added-cost-requires-clause-sum
added-cost-requires-clause-sum g c = plain_within (7 * (4 * 10 ^ 36)) (10 ^ 38) c.priced_levels.result (lit≤ tt) (lit< tt) c.priced_levels.ensures.small

pub sum_of_sides-requires-clause-worth : goal.sum_of_sides-requires-clause-worth
sum_of_sides-requires-clause-worth g c =
    rw (plain_sum (7 * (4 * 10 ^ 36)) (5007 * 10 ^ 24) (3 * 10 ^ 37) c.worth_levels.result c.clique_worth.result c.added-worth.result c.worth_levels.ensures.small c.clique_worth.ensures.small (lit≤ tt) (lit< tt) c.added-worth.ensures)
    (within_sum (7 * (4 * 10 ^ 36)) (5007 * 10 ^ 24) (3 * 10 ^ 37) c.worth_levels.result c.clique_worth.result c.worth_levels.ensures.small c.clique_worth.ensures.small (lit≤ tt))

pub sum_of_sides-requires-clause-cost : goal.sum_of_sides-requires-clause-cost
sum_of_sides-requires-clause-cost g c =
    rw (plain_sum (7 * (4 * 10 ^ 36)) (10 ^ 37) (4 * 10 ^ 37) c.priced_levels.result c.args.cliques c.added-cost.result c.priced_levels.ensures.small c.requires.cliques (lit≤ tt) (lit< tt) c.added-cost.ensures)
    (within_sum (7 * (4 * 10 ^ 36)) (10 ^ 37) (4 * 10 ^ 37) c.priced_levels.result c.args.cliques c.priced_levels.ensures.small c.requires.cliques (lit≤ tt))

finish : (r worth gain cost a b d e : ℤ) → IsWithin (10 ^ 38) r → r ≡ worth +ℤ (gain -ℤ cost) → worth ≡ a +ℤ b → gain ≡ d → cost ≡ e → to_z w128 (of_z w128 r) ≡ (b +ℤ a) +ℤ (d -ℤ e)
finish r worth gain cost a b d e h is p q s = omega (arith, ints, h.low, h.high, is, p, q, s)

turned : (x y : ℤ) → x +ℤ y ≡ y +ℤ x
turned x y = omega (arith, ints)

pub returns-clause-value : goal.returns-clause-value
returns-clause-value g c =
    let w : Weights = record { weight = g.O.Objective.weight c.args.objective.now; floor = g.O.Objective.floor c.args.objective.now } in
    let terms = c.args.leaf.now.terms in
    let worth : to_z w128 (of_z w128 c.added-worth.result) ≡ level_sum terms (level_side w c.args.targets.now) +ℤ clique_worth terms =
    plain_sum (7 * (4 * 10 ^ 36)) (5007 * 10 ^ 24) (3 * 10 ^ 37) c.worth_levels.result c.clique_worth.result c.added-worth.result c.worth_levels.ensures.small c.clique_worth.ensures.small (lit≤ tt) (lit< tt) c.added-worth.ensures
    ∙ ap (λ z. z +ℤ c.clique_worth.result) (c.worth_levels.ensures.value ∙ many_patterns terms c.args.times.now (level_side w c.args.targets.now) c.requires.times)
    ∙ ap (λ z. level_sum terms (level_side w c.args.targets.now) +ℤ z) (c.clique_worth.ensures.value ∙ ap clique_worth c.as_slice.ensures) in
    let small : IsWithin (4 * 10 ^ 12) c.weigh.result = record { low = omega (arith, ints, c.weigh.ensures.small.low); high = omega (arith, ints, c.weigh.ensures.small.high) } in
    let gain : to_z w128 (of_z w128 c.product-gain.result) ≡ c.args.leaf.now.scale *ℤ total (g.O.Objective.weight c.args.objective.now c.args.level) c.args.taken.now =
    plain_gain c.args.leaf.now.scale c.weigh.result c.product-gain.result (small_within (10 ^ 24) c.args.leaf.now.scale c.requires.scale) small c.product-gain.ensures.small c.product-gain.ensures.value
    ∙ ap (λ z. c.args.leaf.now.scale *ℤ z) c.weigh.ensures.value in
    let cost : to_z w128 (of_z w128 c.added-cost.result) ≡ level_sum terms (λ j. total (level_coefficient w j) c.args.taken.now) +ℤ c.args.cliques =
    plain_sum (7 * (4 * 10 ^ 36)) (10 ^ 37) (4 * 10 ^ 37) c.priced_levels.result c.args.cliques c.added-cost.result c.priced_levels.ensures.small c.requires.cliques (lit≤ tt) (lit< tt) c.added-cost.ensures
    ∙ ap (λ z. z +ℤ c.args.cliques) (c.priced_levels.ensures.value ∙ many_patterns terms c.args.times.now (λ j. total (level_coefficient w j) c.args.taken.now) c.requires.times) in
    let levels : ℤ = level_sum terms (λ j. total (level_coefficient w j) c.args.taken.now) in
    finish c.sum_of_sides.result (to_z w128 (of_z w128 c.added-worth.result)) (to_z w128 (of_z w128 c.product-gain.result)) (to_z w128 (of_z w128 c.added-cost.result))
    (level_sum terms (level_side w c.args.targets.now)) (clique_worth terms)
    (c.args.leaf.now.scale *ℤ total (g.O.Objective.weight c.args.objective.now c.args.level) c.args.taken.now) (c.args.cliques +ℤ levels)
    c.sum_of_sides.ensures.small c.sum_of_sides.ensures.value worth gain (cost ∙ turned levels c.args.cliques)
