use Rattle.std.proofs.Common.{ℕ, List, arith, subst, sym, ◌∙◌, ◌≡◌, ◌^◌, true}
use Rattle.std.specs.Prelude.{ℤ, int_le}
use Rattle.std.specs.List.{list_all}
use Rattle.duality.specs.Packing.{Weights}
use Rattle.packing_model.specs.Built.{packing}
use Rattle.packing_model.specs.Closing.{counted}
use Rattle.packing_model.specs.Nodes.{stage_at}
use Rattle.node_bound.specs.Guessed.{AreEntries}
use Rattle.node_bound.proofs.GivenLaws.{rows_kept}
use Rattle.node_bound.proofs.GuessedLaws.{den_within, entries_are, plain_is, smaller_within}
use Rattle.node_bound.proofs.gap.keeps_rows.Goals as goal

pub row_sums-requires-clause-entries : goal.row_sums-requires-clause-entries
row_sums-requires-clause-entries g c =
    let at = c.args.at.now in
    let count = g.O.Objective.count at.objective.now in
    subst (λ (es : List (ℕ × ℤ)). AreEntries count es) (sym c.as_slice.ensures) (entries_are (packing at.model.now) count c.args.point.now c.requires.node.counted c.requires.point)

pub returns : goal.returns
returns g c = λ most.
    let at = c.args.at.now in
    let w : Weights = counted (g.O.Objective.weight at.objective.now) (g.O.Objective.floor at.objective.now) in
    let s = stage_at at.level at.targets.now at.best at.pool.now in
    let x = c.args.point.now in
    let items = c.in_ok-sums.sums.items in
    rows_kept (packing at.model.now) w s c.of-places.result x c.as_slice.result.now items c.requires.point c.of-places.ensures c.as_slice.ensures c.in_ok-sums.ensures
    (subst (λ (zs : List ℤ). list_all (λ z. int_le z x.den) zs ≡ true) c.deref.ensures.value
    (subst (λ (d : ℤ). list_all (λ z. int_le z d) c.deref.result.now ≡ true) (plain_is x.den (smaller_within (10 ^ 24) (10 ^ 38) x.den (omega arith) (den_within (packing at.model.now) x c.requires.point))) (sym c.are_at_most.ensures ∙ most)))
