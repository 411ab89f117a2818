use Rattle.std.proofs.Common.{◌≡◌, ◌∙◌, ap, sym, subst}
use Rattle.std.specs.Prelude.{ℤ, ◌+ℤ◌, ◌*ℤ◌}
use Rattle.std.proofs.lemmas.Int.{to_z-of_z}
use mir.Syntax.{w128}
use Rattle.numbers.specs.Sums.{total}
use Rattle.packing_model.specs.Built.{packing}
use Rattle.search_nodes.specs.Points.{IsAbove, sum_at}
use Rattle.exact_simplex.specs.Task.{gain_sum, side_sum}
use Rattle.node_bound.specs.Answers.{LeavesRoom}
use Rattle.node_bound.proofs.SolveLaws.{is_above, none_gives}
use Rattle.node_bound.proofs.solve.at_best.Goals as goal

pub at_point-requires-clause-above : goal.at_point-requires-clause-above
at_point-requires-clause-above g c =
    let at = c.args.at.now in
    let lp = c.args.task.now.lp in
    let point = c.in_ok-point-in-None.point in
    let weight = g.O.Objective.weight at.objective.now at.level in
    let taken : ℤ = total weight at.fixing.now.one in
    let plain = to_z-of_z w128 c.args.xden c.ranges.xden in
    let room = subst (λ d. LeavesRoom at.best d (side_sum lp c.args.y.now) taken) (to_z-of_z w128 c.args.yden c.ranges.yden) (none_gives c.in_ok-leaf.field-0 _ _ c.in-None.is c.in_ok-leaf.ensures) in
    let den : point.den ≡ c.args.xden = c.in_ok-point-in-None.ensures.den ∙ plain in
    let sum : sum_at (packing at.model.now) weight point ≡ gain_sum lp c.args.x.now +ℤ (c.args.xden *ℤ taken) = c.in_ok-point-in-None.ensures.value ∙ ap (λ d. gain_sum lp c.args.x.now +ℤ (d *ℤ taken)) plain in
    subst (λ d. IsAbove at.best d (sum_at (packing at.model.now) weight point)) (sym den)
    (is_above at.best lp c.args.x.now c.args.xden c.args.y.now c.args.yden taken (sum_at (packing at.model.now) weight point) c.requires.is_best room sum)
