use Rattle.std.proofs.Common.{◌≤◌, ◌∙◌, ◌++◌, ap, sym, arith, rules, length}
use Rattle.std.specs.Prelude.{FitsSigned, ◌-ℤ◌, ◌*ℤ◌}
use Rattle.std.proofs.lemmas.Int.{to_z-of_z}
use mir.Syntax.{w128}
use Rattle.duality.specs.Packing.{Packing, Weights, Stage}
use Rattle.duality.specs.Runs.{rows_in}
use Rattle.packing_model.specs.Built.{packing}
use Rattle.packing_model.specs.Nodes.{stage_at}
use Rattle.packing_model.specs.Closing.{counted}
use Rattle.packing_model.proofs.MarkLemmas.{in_table}
use Rattle.packing_model.proofs.NodeLemmas.{rows_join, of_levels}
use Rattle.packing_model.proofs.costs.cost_of.Goals as goal

pub reduced_cost-requires-clause-levels : goal.reduced_cost-requires-clause-levels
reduced_cost-requires-clause-levels g c =
    let k : Packing = packing c.args.at.now.model.now in
    let w : Weights = counted (g.O.Objective.weight c.args.at.now.objective.now) (g.O.Objective.floor c.args.at.now.objective.now) in
    let s : Stage = stage_at c.args.at.now.level c.args.at.now.targets.now c.args.at.now.best c.args.at.now.pool.now in
    of_levels c.sum_laws.ensures.absent k w s (g.O.Objective.levels c.args.at.now.objective.now) c.args.leaf.now.terms c.args.times.now c.requires.high c.requires.there c.requires.times

pub reduced_cost-requires-clause-few_sums : goal.reduced_cost-requires-clause-few_sums
reduced_cost-requires-clause-few_sums g c = omega (arith, c.requires.table, c.base_len.ensures.few)

pub reduced_cost-requires-clause-low_base : goal.reduced_cost-requires-clause-low_base
reduced_cost-requires-clause-low_base g c = in_table (packing c.args.at.now.model.now).base_len (length c.args.sums.now.below.now) c.base_runs-base.result.now c.requires.table c.base_runs-base.ensures.known

pub returns : goal.returns
returns g c =
    let k : Packing = packing c.args.at.now.model.now in
    let w : Weights = counted (g.O.Objective.weight c.args.at.now.objective.now) (g.O.Objective.floor c.args.at.now.objective.now) in
    let s : Stage = stage_at c.args.at.now.level c.args.at.now.targets.now c.args.at.now.best c.args.at.now.pool.now in
    let few : s.level ≤ 7 = omega (arith, c.requires.high, g.met.O.Objective.few_levels c.args.at.now.objective.now) in
    let is = c.sum_laws.ensures.priced k w s c.args.leaf.now.terms (rows_in c.base_runs-base.result.now ++ c.cut_rows-cuts.result.now) c.args.pattern c.requires.there few
    (rows_join k s (rows_in c.base_runs-base.result.now) c.cut_rows-cuts.result.now c.args.pattern c.base_runs-base.ensures.rows c.cut_rows-cuts.ensures) in
    let fits : FitsSigned w128 c.reduced_cost.result = search rules in
    to_z-of_z w128 c.reduced_cost.result fits
    ∙ c.reduced_cost.ensures
    ∙ ap (λ z. (c.args.leaf.now.scale *ℤ w.weight s.level c.args.pattern) -ℤ z) (sym is)
