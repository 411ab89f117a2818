use Rattle.std.proofs.Common.{rules, sym, subst, get_or, set, SFits, to_z-of_z, ◌≡◌, ◌++◌, ◌∷◌, [], ℕ, List}
use Rattle.std.specs.Int.{w64}
use Rattle.std.specs.Prelude.{ℤ, ◌==◌}
use Rattle.numbers.specs.Sums.{picked}
use Rattle.exact_simplex.specs.Task.{no_row}
use Rattle.simplex_tableau.proofs.InverseLaws.{get_or-any}
use Rattle.node_bound.specs.Entries.{Gives, nothing}
use Rattle.node_bound.proofs.EntryLaws.{gives_one}
use Rattle.node_bound.proofs.entries.push_number.Goals as goal

pub returns : goal.returns
returns c =
    let rows = c.args.rows.now in
    let at = c.args.place in
    let row = get_or rows at c.index-rows-place.result in
    let short : SFits w64 c.args.number = search rules in
    let h = c.in_ok-push.ensures.ok in
    let pushed : c.push.new.self ≡ row.entries ++ (c.args.column, c.args.number) ∷ [] = simp to_z-of_z at h in
    subst (λ (es : List (ℕ × ℤ)). Gives c.args.column (λ x. picked (at == x) c.args.number) nothing rows (set rows at (record { kind = row.kind; entries = es; side = row.side }))) (sym pushed)
    (gives_one rows at c.args.column c.args.number row c.requires (get_or-any rows at c.index-rows-place.result no_row c.requires))
