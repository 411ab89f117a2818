use Rattle.std.proofs.Common.{ℕ, ◌≡◌, ◌+◌, ◌^◌, sym, ap, subst, arith, get_or, drop, List, [], length}
use Rattle.std.specs.Prelude.{ℤ, pos}
use Rattle.std.proofs.lemmas.Int.{ints}
use Rattle.std.proofs.lemmas.List.{drop_more}
use mir.Syntax.{w128}
use mir.Val.{to_z, of_z}
use Rattle.duality.specs.Packing.{Weights}
use Rattle.duality.specs.declared.row.RowName.{RowName}
use Rattle.exact_simplex.specs.Task.{int_at}
use Rattle.packing_model.specs.Built.{packing}
use Rattle.packing_model.specs.Closing.{counted}
use Rattle.packing_model.specs.Nodes.{stage_at}
use Rattle.node_bound.specs.Given.{Adds, AreSums}
use Rattle.node_bound.proofs.GivenLaws.{amount_is, amount_small, given_more, sums_few}
use Rattle.node_bound.proofs.TaskLaws.{rows_at_stage, written_back}
use Rattle.node_bound.proofs.given.row_sums.Goals as goal

pub add_rows-requires-clause-amount : goal.add_rows-requires-clause-amount
add_rows-requires-clause-amount g c = amount_small c.args.entries.now c.loop-entry.entry-index c.loop-entry-test.true c.requires.entries.parts

pub add_rows-requires-clause-low : goal.add_rows-requires-clause-low
add_rows-requires-clause-low g c = λ x l.
    let at = c.args.at.now in
    let w : Weights = counted (g.O.Objective.weight at.objective.now) (g.O.Objective.floor at.objective.now) in
    let s = stage_at at.level at.targets.now at.best at.pool.now in
    let items = c.loop-entry.sums.items in
    let same : c.deref_mut.result.now ≡ items = c.deref_mut.ensures.value in
    let long = ap length same in
    let few = sums_few (packing at.model.now) w s c.args.places.now c.args.entries.now c.loop-entry.entry-index items c.requires.places c.requires.entries.parts c.loop-entry.invariant x (omega (arith, l, long, c.loop-entry.invariant.one_each)) in
    let here : int_at c.deref_mut.result.now x ≡ int_at items x = ap (λ (xs : List ℤ). int_at xs x) same in
    omega (arith, ints, few.0, here)

pub add_rows-requires-clause-high : goal.add_rows-requires-clause-high
add_rows-requires-clause-high g c = λ x l.
    let at = c.args.at.now in
    let w : Weights = counted (g.O.Objective.weight at.objective.now) (g.O.Objective.floor at.objective.now) in
    let s = stage_at at.level at.targets.now at.best at.pool.now in
    let items = c.loop-entry.sums.items in
    let same : c.deref_mut.result.now ≡ items = c.deref_mut.ensures.value in
    let long = ap length same in
    let few = sums_few (packing at.model.now) w s c.args.places.now c.args.entries.now c.loop-entry.entry-index items c.requires.places c.requires.entries.parts c.loop-entry.invariant x (omega (arith, l, long, c.loop-entry.invariant.one_each)) in
    let here : int_at c.deref_mut.result.now x ≡ int_at items x = ap (λ (xs : List ℤ). int_at xs x) same in
    let rows = ap length c.as_slice.ensures in
    omega (arith, ints, few.1, here, rows, c.in_ok-rows.ensures.1, c.requires.entries.few)

pub loop-entry-preserved : goal.loop-entry-preserved
loop-entry-preserved g c =
    let at = c.args.at.now in
    let w : Weights = counted (g.O.Objective.weight at.objective.now) (g.O.Objective.floor at.objective.now) in
    let s = stage_at at.level at.targets.now at.best at.pool.now in
    let k = packing at.model.now in
    let v = c.args.places.now in
    let es = c.args.entries.now in
    let i = c.loop-entry.entry-index in
    let e = get_or es i (0, pos 0) in
    let rows = c.in_ok-rows.rows in
    let items = c.loop-entry.sums.items in
    let new = c.add_rows.new.sums in
    let amount = to_z w128 (of_z w128 e.1) in
    let added : Adds v amount rows [] items new = subst (λ (xs : List RowName). Adds v amount xs [] items new) c.as_slice.ensures (subst (λ (ys : List ℤ). Adds v amount c.as_slice.result.now [] ys new) c.deref_mut.ensures.value c.add_rows.ensures) in
    let plain : Adds v e.1 rows [] items new = subst (λ (a : ℤ). Adds v a rows [] items new) (amount_is es i c.loop-entry-test.true c.requires.entries.parts) added in
    subst (λ (xs : List ℤ). AreSums k w s v es (drop (i + 1) es) xs) (sym (written_back items new c.loop-entry.sums.len plain.same_length (omega (arith, c.loop-entry.sums.ok.0))))
    (given_more k w s v es (drop i es) (drop (i + 1) es) items new e rows c.requires.places (drop_more es i (0, pos 0) c.loop-entry-test.true) (rows_at_stage k s rows e.0 c.in_ok-rows.ensures.0) c.loop-entry.invariant plain)
