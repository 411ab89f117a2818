use Rattle.std.proofs.Common.{arith, get_or, ◌∙◌, refl, true}
use Rattle.std.proofs.lemmas.List.{length-set}
use Rattle.numbers.specs.Sums.{member}
use Rattle.packing_model.proofs.MarkLemmas.{only_none, only_set, member_here}
use Rattle.packing_model.proofs.node_marks.mark_each.Goals as goal

pub loop-place-init : goal.loop-place-init
loop-place-init c = record { whole = refl; only = only_none (λ p. member p c.args.places.now) c.args.table.now c.requires.blank }

pub loop-place-preserved : goal.loop-place-preserved
loop-place-preserved c =
    let places = c.args.places.now in
    let i = c.loop-place.place-index in
    record {
      whole = length-set c.loop-place.table (get_or places i 0) true ∙ c.loop-place.invariant.whole;
      only = only_set (λ p. member p places) c.loop-place.table (get_or places i 0) c.loop-place.invariant.only (member_here places i 0 (omega arith));
    }
