use Rattle.std.proofs.Common.{ℕ, ◌≡◌, ◌∙◌, sym, ap, subst, arith, List, length}
use Rattle.std.specs.Prelude.{nat_lt, map}
use Rattle.std.specs.List.{list_all}
use Rattle.duality.specs.Packing.{Weights}
use Rattle.duality.specs.declared.row.RowName.{RowName}
use Rattle.exact_simplex.specs.declared.task.LpRow.{LpRow}
use Rattle.meeting_patterns.specs.Pattern.{patterns_of}
use Rattle.packing_model.specs.Built.{packing}
use Rattle.packing_model.specs.Closing.{counted}
use Rattle.packing_model.specs.Nodes.{fixed_of, stage_at}
use Rattle.node_bound.specs.Entries.{AreTaskRows}
use Rattle.node_bound.proofs.ColumnLaws.{columns_known, columns_few}
use Rattle.node_bound.proofs.TaskLaws.{is_node_task, is_task}
use Rattle.node_bound.proofs.task.NodeTask.build.Goals as goal

pub gains-requires-clause-known : goal.gains-requires-clause-known
gains-requires-clause-known g c =
    let at = c.args.at.now in
    let n = length (patterns_of at.model.now) in
    ap (λ (xs : List ℕ). list_all (λ p. nat_lt p n) xs) c.as_slice.ensures ∙ columns_known (packing at.model.now) (fixed_of at.fixing.now) c.in_ok-columns.columns c.in_ok-columns.ensures

pub task_rows-requires-clause-columns : goal.task_rows-requires-clause-columns
task_rows-requires-clause-columns g c =
    let at = c.args.at.now in
    let n = length (patterns_of at.model.now) in
    ap (λ (xs : List ℕ). list_all (λ p. nat_lt p n) xs) c.as_slice-3.ensures ∙ columns_known (packing at.model.now) (fixed_of at.fixing.now) c.in_ok-columns.columns c.in_ok-columns.ensures

pub task_rows-requires-clause-few : goal.task_rows-requires-clause-few
task_rows-requires-clause-few g c =
    let at = c.args.at.now in
    let long = ap length c.as_slice-3.ensures in
    let few = columns_few (packing at.model.now) (fixed_of at.fixing.now) c.in_ok-columns.columns c.in_ok-columns.ensures in
    omega (arith, long, few, c.requires.node.counted, g.met.O.Objective.few_patterns at.objective.now)

pub overflow_cast-lp : goal.overflow_cast-lp
overflow_cast-lp g c =
    let at = c.args.at.now in
    let few = columns_few (packing at.model.now) (fixed_of at.fixing.now) c.in_ok-columns.columns c.in_ok-columns.ensures in
    omega (arith, c.len.ensures, few, c.requires.node.counted, g.met.O.Objective.few_patterns at.objective.now)

pub returns : goal.returns
returns g c =
    let at = c.args.at.now in
    let w : Weights = counted (g.O.Objective.weight at.objective.now) (g.O.Objective.floor at.objective.now) in
    let s = stage_at at.level at.targets.now at.best at.pool.now in
    let f = fixed_of at.fixing.now in
    let k = packing at.model.now in
    let v = c.of-places.result in
    let columns = c.in_ok-columns.columns in
    let names = c.in_ok-names.names in
    let rows = c.from.result in
    let gain = c.in_ok-gain.gain in
    let is_gain : gain ≡ map (g.O.Objective.weight at.objective.now at.level) columns = c.in_ok-gain.ensures ∙ ap (map (g.O.Objective.weight at.objective.now at.level)) c.as_slice.ensures in
    let are_rows : AreTaskRows k w s f names columns rows =
    subst (λ (rs : List LpRow). AreTaskRows k w s f names columns rs) (sym c.from.ensures)
    (subst (λ (cs : List ℕ). AreTaskRows k w s f names cs c.in_ok-rows.rows.items) c.as_slice-3.ensures
    (subst (λ (ns : List RowName). AreTaskRows k w s f ns c.as_slice-3.result.now c.in_ok-rows.rows.items) c.as_slice-2.ensures c.in_ok-rows.ensures)) in
    record {
      node = is_node_task k w s f v c.len.result columns names rows gain c.of-places.ensures c.len.ensures c.in_ok-columns.ensures c.in_ok-names.ensures are_rows is_gain;
      task = is_task k w s f v c.len.result columns names rows gain c.of-places.ensures c.len.ensures c.in_ok-names.ensures are_rows is_gain;
    }
