use Rattle.std.proofs.Common.{ℕ, ◌≡◌, ◌<◌, ◌∙◌, ◌++◌, ◌∷◌, [], List, length, set, get_or, ap, arith, refl, sym, true}
use Rattle.std.proofs.lemmas.List.{get_or_default, length-set}
use Rattle.duality.specs.declared.row.RowName.{RowName}
use Rattle.duality.specs.declared.row.RowName.TheVariants.{Cut}
use Rattle.packing_model.specs.Rising.{is_rising}
use Rattle.packing_model.proofs.ListLemmas.{rising_apart}
use Rattle.packing_model.proofs.CutLemmas.{row_added, row_back, added_first, on_ok, on_err}
use Rattle.packing_model.proofs.pool.+add_rows.Goals as goal

table_pushed : (table : List (List RowName)) (first : ℕ) (held row : List RowName) (number : ℕ) → first < length table → held ≡ get_or table first held → row ≡ held ++ Cut number ∷ [] → set table first row ≡ set table first (get_or table first [] ++ Cut number ∷ [])
table_pushed table first held row number l e p = ap (set table first) (p ∙ ap (λ r. r ++ Cut number ∷ []) (e ∙ get_or_default table first held [] l))

pub returns-then-is_err-clause-err : goal.returns-then-is_err-clause-err
returns-then-is_err-clause-err t c =
    let first = c.in-Some.first.now in
    let longer = c.lengthen.new.table.items in
    let after = c.add_rows-added.new.table.items in
    let l : first < length longer = omega (arith, c.in_ok-lengthen.ensures.ok) in
    let m : first < length after = omega (arith, l, c.add_rows-added.ensures.longer, length-set longer first c.push.new.self) in
    on_err c.add_rows-added.result _ _ c.add_rows-added.ensures.err (λ kept.
    row_back first c.args.number c.args.table.now.items longer (set longer first c.push.new.self) after _ c.pop.new.self c.pop.result c.in_ok-lengthen.ensures.same l m
    (table_pushed longer first c.index_mut.result.now c.push.new.self c.args.number l c.index_mut.ensures.value c.in_ok-push.ensures.ok) kept
    c.index_mut-then-is_err.result.now (c.index_mut-then-is_err.ensures.value ∙ get_or_default after first c.index_mut-then-is_err.result.now [] m) c.pop.ensures refl)

pub returns-else-is_err-clause-ok : goal.returns-else-is_err-clause-ok
returns-else-is_err-clause-ok t c =
    let first = c.in-Some.first.now in
    let longer = c.lengthen.new.table.items in
    let l : first < length longer = omega (arith, c.in_ok-lengthen.ensures.ok) in
    let rising : is_rising (first ∷ c.in-Some.rest.now) ≡ true = ap is_rising (sym c.in-Some.ensures.cases.0) ∙ c.requires in
    on_ok c.add_rows-added.result _ _ c.add_rows-added.ensures.ok (λ adds. added_first c.args.patterns.now first c.in-Some.rest.now c.args.number c.args.table.now.items c.add_rows-added.new.table.items c.in-Some.ensures.cases.0
    (row_added first c.in-Some.rest.now c.args.number c.args.table.now.items longer (set longer first c.push.new.self) c.add_rows-added.new.table.items
    (rising_apart first c.in-Some.rest.now rising) c.in_ok-lengthen.ensures.same l
    (table_pushed longer first c.index_mut.result.now c.push.new.self c.args.number l c.index_mut.ensures.value c.in_ok-push.ensures.ok) adds))
