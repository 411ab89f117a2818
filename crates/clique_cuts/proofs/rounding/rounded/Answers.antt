use Rattle.std.proofs.Common.{ℕ, List, sym, subst}
use Rattle.std.specs.Prelude.{ℤ}
use Rattle.std.specs.List.{All}
use Rattle.packing_model.specs.Built.{packing}
use Rattle.clique_cuts.specs.Cliques.{IsKnown}
use Rattle.clique_cuts.proofs.BetterLaws.{all_known}
use Rattle.clique_cuts.proofs.rounding.rounded.Goals as goal

pub packed-requires : goal.packed-requires
packed-requires g c =
    let k = packing c.args.at.now.model.now in
    subst (λ (es : List (ℕ × ℤ)). All (IsKnown k) es) (sym c.deref.ensures.value) (all_known k c.args.point.now c.in_ok-entries.entries.items c.requires.point c.in_ok-entries.ensures)

pub slot_choice-requires : goal.slot_choice-requires
slot_choice-requires g c =
    let k = packing c.args.at.now.model.now in
    subst (λ (es : List (ℕ × ℤ)). All (IsKnown k) es) (sym c.deref-in-None.ensures.value) (all_known k c.args.point.now c.in_ok-entries.entries.items c.requires.point c.in_ok-entries.ensures)
