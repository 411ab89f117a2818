use Rattle.std.proofs.Common.{◌*◌, ◌^◌, ◌∙◌, ◌++◌, lit<}
use Rattle.duality.specs.Packing.{Packing, Weights, Stage}
use Rattle.duality.specs.Runs.{rows_in}
use Rattle.packing_model.specs.Built.{packing}
use Rattle.packing_model.specs.Nodes.{stage_at}
use Rattle.packing_model.specs.Closing.{counted}
use Rattle.packing_model.proofs.NodeLemmas.{rows_join}
use Rattle.packing_model.proofs.SumLemmas.{plain}
use Rattle.packing_model.proofs.close.cliques_at.Goals as goal

pub returns-clause-value : goal.returns-clause-value
returns-clause-value g c =
    let k : Packing = packing c.args.at.now.model.now in
    let w : Weights = counted (g.O.Objective.weight c.args.at.now.objective.now) (g.O.Objective.floor c.args.at.now.objective.now) in
    let s : Stage = stage_at c.args.at.now.level c.args.at.now.targets.now c.args.at.now.best c.args.at.now.pool.now in
    plain (5000 * 10 ^ 24) c.priced_cliques.result c.priced_cliques.ensures.small (lit< tt)
    ∙ c.priced_cliques.ensures.value
    ∙ c.sum_laws.ensures.cliques k w s c.args.terms.now (rows_in c.base_runs-base.result.now ++ c.cut_rows-cuts.result.now) c.args.pattern c.requires.there
    (rows_join k s (rows_in c.base_runs-base.result.now) c.cut_rows-cuts.result.now c.args.pattern c.base_runs-base.ensures.rows c.cut_rows-cuts.ensures)
