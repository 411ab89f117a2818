-- Fields are not empty and consist of graphic bytes, in every row of a text.
use Rattle.std.proofs.Common.{ℕ, ◌≡◌, ◌+◌, true, false, cond, List, [], ◌∷◌, refl, ap}
use Rattle.std.specs.Prelude.{filter, Result, Ok, Err}
use Rattle.std.specs.List.{list_all}
use Rattle.std.proofs.lemmas.Bool.{and_parts}
use Rattle.input_core.specs.Lines.{onto, is_blank, is_graphic, is_allowed, is_some_text, is_field, cut_at_blanks, fields_of, lines_of}
use Rattle.input_core.specs.Rows.{Unread, onto_rows, rows_from, first_row, are_fields, unread}
use Rattle.input_core.specs.declared.cursors.Row.{Row}
use Rattle.input_core.specs.declared.faults.LineFault.{LineFault}
use Rattle.input_core.specs.declared.faults.LineKind.TheVariants.{Byte}
use Rattle.input_core.proofs.ChainLemmas.{both, ok-same}

graphic-onto : (b : ℕ) (pieces : List (List ℕ)) → is_graphic b ≡ true → list_all (list_all is_graphic) pieces ≡ true → list_all (list_all is_graphic) (onto b pieces) ≡ true
graphic-onto b [] g h = rw g refl
graphic-onto b (piece ∷ pieces) g h = rw g h

graphic_pieces : (line : List ℕ) → list_all is_allowed line ≡ true → list_all (list_all is_graphic) (cut_at_blanks line) ≡ true
graphic_pieces [] h = refl
graphic_pieces (b ∷ line) h =
    let parts = and_parts (is_allowed b) (list_all is_allowed line) h in
    let rest = graphic_pieces line parts.1 in
    elim (is_blank b) as (λ t. is_blank b ≡ t → list_all (list_all is_graphic) (cond t ([] ∷ cut_at_blanks line) (onto b (cut_at_blanks line))) ≡ true)
    [ true ↦ λ _. rest | false ↦ λ e. graphic-onto b (cut_at_blanks line) (rw e at parts.0) rest ] refl

filtered : (pieces : List (List ℕ)) → list_all (list_all is_graphic) pieces ≡ true → list_all is_field (filter is_some_text pieces) ≡ true
filtered [] h = refl
filtered (piece ∷ pieces) h =
    let parts = and_parts (list_all is_graphic piece) (list_all (list_all is_graphic) pieces) h in
    elim (is_some_text piece) as (λ t. is_some_text piece ≡ t → list_all is_field (cond t (piece ∷ filter is_some_text pieces) (filter is_some_text pieces)) ≡ true)
    [ true ↦ λ e. both (is_field piece) _ (both (is_some_text piece) (list_all is_graphic piece) e parts.0) (filtered pieces parts.1) | false ↦ λ _. filtered pieces parts.1 ] refl

pub fields_of-are : (line : List ℕ) → list_all is_allowed line ≡ true → list_all is_field (fields_of line) ≡ true
fields_of-are line h = filtered (cut_at_blanks line) (graphic_pieces line h)

onto-are : (n : ℕ) (fields : List (List ℕ)) (rows : List (Result Row LineFault)) → list_all is_field fields ≡ true → list_all are_fields rows ≡ true → list_all are_fields (onto_rows n fields rows) ≡ true
onto-are n [] rows f h = h
onto-are n (field ∷ fields) rows f h = both _ _ f h

rows_from-are : (n : ℕ) (lines : List (List ℕ)) → list_all are_fields (rows_from n lines) ≡ true
rows_from-are n [] = refl
rows_from-are n (line ∷ lines) =
    let rest = rows_from-are (n + 1) lines in
    elim (list_all is_allowed line) as (λ t. list_all is_allowed line ≡ t → list_all are_fields (cond t (onto_rows n (fields_of line) (rows_from (n + 1) lines)) (Err (record { line = n; kind = Byte }) ∷ rows_from (n + 1) lines)) ≡ true)
    [ true ↦ λ e. onto-are n (fields_of line) (rows_from (n + 1) lines) (fields_of-are line e) rest | false ↦ λ _. rest ] refl

-- the fields of every line of a text
pub unread-are : (bytes : List ℕ) → list_all are_fields (unread bytes).rows ≡ true
unread-are bytes = rows_from-are 1 (lines_of bytes)

first : (rows : List (Result Row LineFault)) (past : ℕ) (row : Row) (v : Unread) → first_row (record { rows = rows; past = past }) ≡ Ok (row, v) → rows ≡ Ok row ∷ v.rows
first [] past row v e = cc
first (Err fault ∷ rows) past row v e = cc
first (Ok r ∷ rows) past row v e = ap (λ (p : Row × Unread). Ok p.0 ∷ p.1.rows) (ok-same (r, record { rows = rows; past = past }) (row, v) e)

-- a line that was taken stood first
pub first_row-is : (u : Unread) (row : Row) (v : Unread) → first_row u ≡ Ok (row, v) → u.rows ≡ Ok row ∷ v.rows
first_row-is u row v e = first u.rows u.past row v e

pub first_row-are : (u : Unread) (row : Row) (v : Unread) → list_all are_fields u.rows ≡ true → first_row u ≡ Ok (row, v) → (list_all is_field row.fields ≡ true) × (list_all are_fields v.rows ≡ true)
first_row-are u row v h e =
    let all : list_all are_fields (Ok row ∷ v.rows) ≡ true = rw (first_row-is u row v e) at h in
    let parts = and_parts (list_all is_field row.fields) (list_all are_fields v.rows) all in
    (parts.0, parts.1)
