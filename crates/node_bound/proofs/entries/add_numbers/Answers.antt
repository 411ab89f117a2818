use Rattle.std.proofs.Common.{◌+◌, arith, ap, get_or, drop}
use Rattle.std.specs.Prelude.{ℤ}
use Rattle.std.proofs.lemmas.List.{drop_more}
use Rattle.numbers.specs.Sums.{picked}
use Rattle.duality.specs.declared.row.RowName.{RowName}
use Rattle.duality.specs.declared.row.RowName.TheVariants.{Base}
use Rattle.duality.specs.Packing.{Weights}
use Rattle.duality.proofs.PricedLaws.{total-end}
use Rattle.packing_model.specs.Closing.{counted}
use Rattle.node_bound.specs.Places.{hits, put_total, row_number}
use Rattle.node_bound.proofs.EntryLaws.{gives_step, gives_end}
use Rattle.node_bound.proofs.entries.add_numbers.Goals as goal

pub loop-name-preserved : goal.loop-name-preserved
loop-name-preserved g c =
    let at = c.args.at.now in
    let w : Weights = counted (g.O.Objective.weight at.objective.now) (g.O.Objective.floor at.objective.now) in
    let v = c.args.places.now in
    let names = c.args.names.now in
    let i = c.loop-name.name-index in
    let number : RowName → ℤ = row_number w c.args.pattern in
    let name = get_or names i (Base 0) in
    gives_step c.args.column (λ x. put_total v x number names) (λ x. put_total v x number (drop i names)) (λ x. put_total v x number (drop (i + 1) names)) (λ x. picked (hits v x name) (number name)) c.args.rows.now c.loop-name.rows c.add_in_row.new.rows
    (λ x. ap (put_total v x number) (drop_more names i (Base 0) c.loop-name-test.true)) c.loop-name.invariant c.in_ok-add_in_row.ensures

pub returns : goal.returns
returns g c =
    let at = c.args.at.now in
    let w : Weights = counted (g.O.Objective.weight at.objective.now) (g.O.Objective.floor at.objective.now) in
    let v = c.args.places.now in
    let names = c.args.names.now in
    let i = c.loop-name.name-index in
    let number : RowName → ℤ = row_number w c.args.pattern in
    gives_end c.args.column (λ x. put_total v x number names) (λ x. put_total v x number (drop i names)) c.args.rows.now c.loop-name.rows
    (λ x. total-end (λ r. picked (hits v x r) (number r)) names i (omega arith)) c.loop-name.invariant
