use Rattle.std.proofs.Common.{ℕ, List, ◌≡◌, ◌∙◌, arith, ap, ap₂, subst, map, length}
use Rattle.problem_core.specs.Courses.{passing}
use Rattle.problem_core.specs.declared.limit.Limit.{Limit}
use Rattle.problem_core.specs.declared.limit.LimitKind.TheVariants.{Rows}
use Rattle.packing_model.specs.Rows.{base_rows}
use Rattle.packing_model.specs.Keys.{key_end, counts_row, row_of, AreNumbers}
use Rattle.packing_model.proofs.TableLemmas.{rows_found, count_found, numbers_found}
use Rattle.packing_model.proofs.rows.row_table.Goals as goal

abbrev limit_of : ℕ → ℕ → Limit
limit_of n l = record { kind = Rows; count = n; limit = l }

pub returns-then-count-gt-MOST_ROWS : goal.returns-then-count-gt-MOST_ROWS
returns-then-count-gt-MOST_ROWS c =
    let p = c.args.p.now in
    let s = c.args.s.now in
    let total : c.row_count-count.result ≡ length (base_rows p s) =
    c.row_count-count.ensures
    ∙ ap (λ (xs : List ℕ). length (passing (counts_row p xs) (key_end p))) c.deref.ensures.value
    ∙ count_found p c.laws.ensures s c.in_ok-counts.counts.items c.requires c.in_ok-counts.ensures in
    (ap₂ limit_of (c.from.ensures ∙ total) c.from-then-count-gt-MOST_ROWS.ensures, omega (arith, total, c.if-count-gt-MOST_ROWS.true))

pub returns : goal.returns
returns c =
    let p = c.args.p.now in
    let s = c.args.s.now in
    let counts = c.in_ok-counts.counts.items in
    let total : c.row_count-count.result ≡ length (base_rows p s) =
    c.row_count-count.ensures
    ∙ ap (λ (xs : List ℕ). length (passing (counts_row p xs) (key_end p))) c.deref.ensures.value
    ∙ count_found p c.laws.ensures s counts c.requires c.in_ok-counts.ensures in (
      c.in_ok-table.ensures.rows ∙ ap (λ (xs : List ℕ). map (row_of p) (passing (counts_row p xs) (key_end p))) c.deref-2.ensures.value ∙ rows_found p c.laws.ensures s counts c.requires c.in_ok-counts.ensures,
      numbers_found p s counts c.in_ok-table.table.numbers.items c.in_ok-counts.ensures
          (subst (λ (xs : List ℕ). AreNumbers (counts_row p xs) (key_end p) c.in_ok-table.table.numbers.items) c.deref-2.ensures.value c.in_ok-table.ensures.numbers),
      omega (arith, total, c.if-count-gt-MOST_ROWS.false),
    )
