-- Laws of tables of rows.
use Rattle.std.proofs.Common.{ℕ, ◌≡◌, ◌+◌, ◌*◌, ◌/◌, ◌%◌, ◌<◌, inl, inr, false, ◌&&◌, refl, arith, ap, sym, ◌∙◌, cond, List, length, get_or, set, get_or-set_other, get_or-set_same}
use Rattle.std.specs.Prelude.{◌==◌}
use Rattle.std.proofs.lemmas.List.{length-set}
use Rattle.std.proofs.lemmas.Bool.{cases_eq, cond-true, cond-false, and_left, and_from, eq-eqb, ne_eqb}
use Rattle.std.proofs.lemmas.Nat.{mul-add-lt, div-mul-add, mod-mul-add}
use Rattle.std.proofs.Math.Nat.{mul_comm}
use Rattle.problem_core.specs.Tables.{IsGrid}

-- the cell is there
pub cell_there : {A : Type 0} (cells : List A) (rows columns : ℕ) (f : ℕ → ℕ → A) (r c : ℕ) → IsGrid cells rows columns f → r < rows → c < columns → r * columns + c < length cells
cell_there cells rows columns f r c grid l m = omega (arith, mul-add-lt r columns c rows l m, mul_comm rows columns, grid.whole)

same_row : (w r c s d : ℕ) → c < w → d < w → r * w + c ≡ s * w + d → r ≡ s
same_row w r c s d l m e = sym (div-mul-add r w c l) ∙ ap (λ x. x / w) e ∙ div-mul-add s w d m

same_column : (w r c s d : ℕ) → c < w → d < w → r * w + c ≡ s * w + d → c ≡ d
same_column w r c s d l m e = sym (mod-mul-add r w c l) ∙ ap (λ x. x % w) e ∙ mod-mul-add s w d m

-- after a write the cell is the new value, and the others are as they were
pub IsGrid-put : {A : Type 0} (cells : List A) (rows columns : ℕ) (f g : ℕ → ℕ → A) (r c : ℕ) (v : A) → IsGrid cells rows columns f → r < rows → c < columns
    → ((s d : ℕ) → s < rows → d < columns → g s d ≡ cond ((r == s) && (c == d)) v (f s d)) → IsGrid (set cells (r * columns + c) v) rows columns g
IsGrid-put cells rows columns f g r c v grid l m h = record {
  whole = length-set cells (r * columns + c) v ∙ grid.whole;
  cell = λ s d z k n. elim (cases_eq (s * columns + d) (r * columns + c)) [
    | inl same ↦
        let row : r ≡ s = sym (same_row columns s d r c n m same) in
        let column : c ≡ d = sym (same_column columns s d r c n m same) in
        ap (λ i. get_or (set cells (r * columns + c) v) i z) same
        ∙ get_or-set_same cells (r * columns + c) v z (cell_there cells rows columns f r c grid l m)
        ∙ sym (h s d k n ∙ cond-true ((r == s) && (c == d)) v (f s d) (and_from (r == s) (c == d) (eq-eqb r s row) (eq-eqb c d column)))
    | inr other ↦
        get_or-set_other cells (r * columns + c) (s * columns + d) v z other
        ∙ grid.cell s d z k n
        ∙ sym (h s d k n ∙ cond-false ((r == s) && (c == d)) v (f s d) (elsewhere columns r c s d other))
  ];
}
  where
    elsewhere : (w r c s d : ℕ) → (s * w + d ≡ r * w + c → ⊥) → ((r == s) && (c == d)) ≡ false
    elsewhere w r c s d other = elim (cases_eq r s) [
      | inr differ ↦ and_left (r == s) (c == d) (ne_eqb r s differ)
      | inl same ↦ elim (cases_eq c d) [
        | inl column ↦ absurd (other (rw (same, column) refl))
        | inr differ ↦ rw (eq-eqb r s same) (ne_eqb c d differ)
      ]
    ]

pub IsGrid-same : {A : Type 0} (cells : List A) (rows columns : ℕ) (f g : ℕ → ℕ → A) → IsGrid cells rows columns f → ((s d : ℕ) → s < rows → d < columns → f s d ≡ g s d) → IsGrid cells rows columns g
IsGrid-same cells rows columns f g grid h = record { whole = grid.whole; cell = λ s d z k n. grid.cell s d z k n ∙ h s d k n }

-- a cell that is read, and that it is there, of a list that is known to be the table
pub read_cell : {A : Type 0} (cells ys : List A) (rows columns w : ℕ) (f : ℕ → ℕ → A) (r c : ℕ) (x d : A) → IsGrid cells rows columns f → ys ≡ cells → w ≡ columns → r < rows → c < columns
    → x ≡ get_or ys (r * w + c) d → x ≡ f r c
read_cell {A} cells ys rows columns w f r c x d grid e same l m h =
    h ∙ ap (λ (zs : List A). get_or zs (r * w + c) d) e ∙ ap (λ n. get_or cells (r * n + c) d) same ∙ grid.cell r c d l m

pub read_there : {A : Type 0} (cells ys : List A) (rows columns w : ℕ) (f : ℕ → ℕ → A) (r c : ℕ) → IsGrid cells rows columns f → ys ≡ cells → w ≡ columns → r < rows → c < columns
    → r * w + c < length ys
read_there cells ys rows columns w f r c grid e same l m =
    rw (e, same) (cell_there cells rows columns f r c grid l m)
