use Rattle.std.proofs.Common.{ℕ, List, [], ◌∙◌, ◌≡◌, sym, subst, get_or}
use Rattle.std.specs.Prelude.{ℤ}
use Rattle.std.specs.List.{All}
use Rattle.packing_model.specs.Built.{packing}
use Rattle.clique_cuts.specs.Search.{IsEntry}
use Rattle.clique_cuts.proofs.SearchLaws.{any_default}
use Rattle.clique_cuts.proofs.broken.broken_among.Goals as goal

pub broken_in-requires-clause-entries : goal.broken_in-requires-clause-entries
broken_in-requires-clause-entries c =
    let i = c.loop-group.group-index in
    let groups = c.args.groups.now in
    let same : c.as_slice.result.now ≡ get_or groups i [] = c.as_slice.ensures ∙ c.group-item.is ∙ any_default groups i c.group-item.result [] c.loop-group-test.true in
    subst (λ (g : List (ℕ × ℤ)). All (IsEntry (packing c.args.m.now) c.args.point.now) g) (sym same) (c.requires.entries i)
