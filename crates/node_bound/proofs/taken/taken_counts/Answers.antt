use Rattle.std.proofs.Common.{ℕ, ◌≡◌, ◌+◌, sym, ap, subst, arith, get_or, drop, List, [], length}
use Rattle.std.proofs.lemmas.List.{drop_more}
use Rattle.duality.specs.Packing.{Weights}
use Rattle.duality.specs.declared.row.RowName.{RowName}
use Rattle.packing_model.specs.Built.{packing}
use Rattle.packing_model.specs.Closing.{counted}
use Rattle.packing_model.specs.Nodes.{stage_at}
use Rattle.node_bound.specs.Taken.{AreCounts, Counts, count_at}
use Rattle.node_bound.proofs.TakenLaws.{counted_more, counts_few}
use Rattle.node_bound.proofs.TaskLaws.{rows_at_stage, written_back}
use Rattle.node_bound.proofs.taken.taken_counts.Goals as goal

pub count_rows-requires-clause-few : goal.count_rows-requires-clause-few
count_rows-requires-clause-few g c = λ x l.
    let at = c.args.at.now in
    let w : Weights = counted (g.O.Objective.weight at.objective.now) (g.O.Objective.floor at.objective.now) in
    let s = stage_at at.level at.targets.now at.best at.pool.now in
    let one = c.as_slice-one.result.now in
    let items = c.loop-pattern.counts.items in
    let same : c.deref_mut.result.now ≡ items = c.deref_mut.ensures.value in
    let long = ap length same in
    let few = counts_few (packing at.model.now) w s c.args.places.now one (drop c.loop-pattern.pattern-index one) items c.requires.places c.loop-pattern.invariant x (omega (arith, l, long, c.loop-pattern.invariant.one_each)) in
    let here : count_at c.deref_mut.result.now x ≡ count_at items x = ap (λ (xs : List ℕ). count_at xs x) same in
    let rows = ap length c.as_slice.ensures in
    let taken = ap length c.as_slice-one.ensures in
    omega (arith, few, here, rows, taken, c.in_ok-rows.ensures.1, c.requires.node.few)

pub loop-pattern-preserved : goal.loop-pattern-preserved
loop-pattern-preserved g c =
    let at = c.args.at.now in
    let w : Weights = counted (g.O.Objective.weight at.objective.now) (g.O.Objective.floor at.objective.now) in
    let s = stage_at at.level at.targets.now at.best at.pool.now in
    let k = packing at.model.now in
    let v = c.args.places.now in
    let one = c.as_slice-one.result.now in
    let i = c.loop-pattern.pattern-index in
    let p = get_or one i 0 in
    let rows = c.in_ok-rows.rows in
    let items = c.loop-pattern.counts.items in
    let new = c.count_rows.new.counts in
    let added : Counts v rows [] items new = subst (λ (xs : List RowName). Counts v xs [] items new) c.as_slice.ensures (subst (λ (ys : List ℕ). Counts v c.as_slice.result.now [] ys new) c.deref_mut.ensures.value c.count_rows.ensures) in
    subst (λ (xs : List ℕ). AreCounts k w s v one (drop (i + 1) one) xs) (sym (written_back items new c.loop-pattern.counts.len added.same_length (omega (arith, c.loop-pattern.counts.ok.0))))
    (counted_more k w s v one (drop i one) (drop (i + 1) one) items new p rows c.requires.places (drop_more one i 0 c.loop-pattern-test.true) (rows_at_stage k s rows p c.in_ok-rows.ensures.0) c.loop-pattern.invariant added)
