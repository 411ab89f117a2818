use Rattle.std.proofs.Common.{rules, refl, ◌∙◌, arith}
use Rattle.std.specs.Prelude.{pos}
use Rattle.std.proofs.lemmas.Result.{IfOk-weaker}
use Rattle.duality.specs.Packing.{Weights}
use Rattle.packing_model.specs.Built.{packing}
use Rattle.packing_model.specs.Closing.{counted}
use Rattle.packing_model.specs.Nodes.{fixed_of, stage_at}
use Rattle.node_bound.proofs.LeafLaws.{empty_some, empty_multiply, empty_closes, leaf_fine}
use Rattle.node_bound.proofs.closing.empty_leaf.Goals as goal

pub returns : goal.returns
returns g c =
    let at = c.args.at.now in
    let k = packing at.model.now in
    let w : Weights = counted (g.O.Objective.weight at.objective.now) (g.O.Objective.floor at.objective.now) in
    let s = stage_at at.level at.targets.now at.best at.pool.now in
    let f = fixed_of at.fixing.now in
    let t = c.args.task.now in
    let y = c.args.farkas.now in
    let are = empty_multiply t.lp y c.requires.empty in
    IfOk-weaker c.leaf_of.result _ _ (λ leaf is. (
      empty_closes k w s f t c.requires.task (omega (arith, c.requires.node.high, c.requires.node.few_levels)) (pos 0) y leaf are is refl c.requires.empty.negative,
      leaf_fine k w s f t c.requires.task (omega (arith, c.requires.node.high, c.requires.node.few_levels)) (pos 0) y leaf are is c.requires.empty.small,
    )) c.leaf_of.ensures

pub leaf_of-requires : goal.leaf_of-requires
leaf_of-requires g c = record {
  task = c.requires.task;
  scale = search rules;
  small = c.requires.empty.small;
  one_each = c.requires.empty.one_each ∙ c.requires.task.row_count;
  some = empty_some c.args.task.now.lp c.args.farkas.now c.requires.empty;
}
