-- The columns of a task are filled row by row.
use Rattle.std.proofs.Common.{ℕ, ◌≡◌, ◌≢◌, ◌+◌, ◌-◌, ◌<◌, ◌≤◌, sym, ◌∙◌, ap, ap₂, subst, inl, inr, ◌⊎◌, refl, List, [], ◌∷◌, ◌++◌, length, length-append, get_or, arith, ℤ, pos, ◌+ℤ◌, ◌==◌, Bool, true, false}
use Rattle.std.proofs.lemmas.List.{get_or_past}
use Rattle.std.proofs.Math.Decide.{ℕ_discrete}
use Rattle.numbers.specs.Sums.{picked}
use Rattle.exact_num.specs.Q.{ℚ}
use Rattle.exact_num.specs.Ops.{zero_ℚ, one_ℚ, neg_ℚ, ◌+ℚ◌, +ℚ-zero, zero-+ℚ}
use Rattle.exact_num.specs.Whole.{int_ℚ, int_ℚ-zero}
use Rattle.simplex_tableau.specs.declared.sparse.Entry.{Entry}
use Rattle.exact_simplex.specs.declared.progress.Task.{Task}
use Rattle.exact_simplex.specs.declared.task.Lp.{Lp}
use Rattle.exact_simplex.specs.declared.task.LpRow.{LpRow}
use Rattle.simplex_tableau.specs.Sparse.{at, at_place, PlacesBelow}
use Rattle.simplex_tableau.proofs.SparseLaws.{at_place-same, at_place-other}
use Rattle.simplex_tableau.specs.Dense.{num}
use Rattle.simplex_tableau.specs.Inverse.{inv_of, list_at}
use Rattle.exact_simplex.specs.Progress.{size_of, column_of}
use Rattle.exact_simplex.specs.Task.{coefficient, ColumnsBelow, IsTask, no_row, int_at, row_at}
use Rattle.exact_simplex.specs.Build.{RowsBelow, AllBelow, AddsEntry, AddsRow, AreEmpty, HasUnits, unit_entry, AddsFirst, AddsGainsTo, FillsColumns, AreFirstSides, AreSides}
use Rattle.exact_simplex.specs.Final.{Describes}
use Rattle.simplex_tableau.proofs.ListLemmas.{get_or-end, get_or-front, num-end, num-front}

-- ---- one row or gain more

pub rows_more : {N : Type 0} (value : N → ℚ) (old : List (List (Entry N))) (rows : List LpRow) (i : ℕ) (entries : List (ℕ × ℤ)) (mid new : List (List (Entry N))) → entries ≡ (get_or rows i no_row).entries
    → AddsRow value mid i entries new → AddsFirst value old rows i mid → AddsFirst value old rows (i + 1) new
rows_more value old rows i entries mid new is added so = record {
  same_length = added.same_length ∙ so.same_length;
  sums = λ v k j h.
      let there = added.sums v k (let w = so.same_length in omega arith) in
      let x = int_ℚ (coefficient entries v) in
      let go : Dec (k ≡ i) → inv_of value new v k ≡ inv_of value old v k +ℚ int_ℚ (coefficient (get_or rows k no_row).entries v) = elim [
        | yes e ↦
            there ∙ ap₂ (λ a b. a +ℚ b) (so.others v k j (omega arith)) (ap (at_place i x) e ∙ at_place-same i x)
            ∙ ap (λ es. inv_of value old v k +ℚ int_ℚ (coefficient es v)) (is ∙ ap (λ q. (get_or rows q no_row).entries) (sym e))
        | no ne ↦ there ∙ ap (λ b. inv_of value mid v k +ℚ b) (at_place-other i k x (λ s. ne (sym s))) ∙ +ℚ-zero (inv_of value mid v k) ∙ so.sums v k j (omega arith)
      ] in
      go (ℕ_discrete k i);
  others = λ v k j h.
      added.sums v k (let w = so.same_length in omega arith) ∙ ap (λ b. inv_of value mid v k +ℚ b) (at_place-other i k (int_ℚ (coefficient entries v)) (λ s. absurd (omega arith)))
      ∙ +ℚ-zero (inv_of value mid v k) ∙ so.others v k j (omega arith);
  below = λ m h all. added.below m (omega arith) (so.below m (omega arith) all);
}

pub gains_more : {N : Type 0} (value : N → ℚ) (old : List (List (Entry N))) (place : ℕ) (gain : List ℤ) (j : ℕ) (g : ℤ) (mid new : List (List (Entry N))) → g ≡ int_at gain j
    → AddsEntry value mid j place (neg_ℚ (int_ℚ g)) new → AddsGainsTo value old place gain j mid → AddsGainsTo value old place gain (j + 1) new
gains_more value old place gain j g mid new is added so = record {
  same_length = added.same_length ∙ so.same_length;
  sums = λ v k l h.
      let there = added.sums v k (let w = so.same_length in omega arith) in
      let x = at_place place (neg_ℚ (int_ℚ g)) k in
      let go : Dec (v ≡ j) → inv_of value new v k ≡ inv_of value old v k +ℚ at_place place (neg_ℚ (int_ℚ (int_at gain v))) k = elim [
        | yes e ↦
            there ∙ ap₂ (λ a b. a +ℚ b) (so.others v k l (omega arith)) (ap (at_place j x) e ∙ at_place-same j x)
            ∙ ap (λ z. inv_of value old v k +ℚ at_place place (neg_ℚ (int_ℚ z)) k) (is ∙ ap (int_at gain) (sym e))
        | no ne ↦ there ∙ ap (λ b. inv_of value mid v k +ℚ b) (at_place-other j v x (λ s. ne (sym s))) ∙ +ℚ-zero (inv_of value mid v k) ∙ so.sums v k l (omega arith)
      ] in
      go (ℕ_discrete v j);
  others = λ v k l h.
      added.sums v k (let w = so.same_length in omega arith) ∙ ap (λ b. inv_of value mid v k +ℚ b) (at_place-other j v (at_place place (neg_ℚ (int_ℚ g)) k) (λ s. absurd (omega arith)))
      ∙ +ℚ-zero (inv_of value mid v k) ∙ so.others v k l (omega arith);
  below = λ m h all. added.below m h (so.below m h all);
}

pub sides_more : {N : Type 0} (value : N → ℚ) (rows : List LpRow) (i : ℕ) (sides : List N) (side : N) → value side ≡ int_ℚ (get_or rows i no_row).side → AreFirstSides value rows i sides → AreFirstSides value rows (i + 1) (sides ++ side ∷ [])
sides_more value rows i sides side is so = record {
  count_is = let e = so.count_is in let a = length-append sides (side ∷ []) in omega arith;
  side = λ j h.
      let go : Dec (j ≡ i) → num value (sides ++ side ∷ []) j ≡ int_ℚ (get_or rows j no_row).side = elim [
        | yes e ↦ ap (num value (sides ++ side ∷ [])) (e ∙ sym so.count_is) ∙ num-end value sides side ∙ is ∙ ap (λ q. int_ℚ (get_or rows q no_row).side) (sym e)
        | no ne ↦ num-front value sides side j (let e = so.count_is in omega arith) ∙ so.side j (omega arith)
      ] in
      go (ℕ_discrete j i);
}

pub sides_end : {N : Type 0} (value : N → ℚ) (rows : List LpRow) (i : ℕ) (sides : List N) (last : N) → i ≡ length rows → value last ≡ zero_ℚ → AreFirstSides value rows i sides → AreSides value rows (sides ++ last ∷ [])
sides_end value rows i sides last end is so = record {
  count_is = let e = so.count_is in let a = length-append sides (last ∷ []) in omega arith;
  side = λ j h. num-front value sides last j (let e = so.count_is in omega arith) ∙ so.side j (omega arith);
  last = ap (num value (sides ++ last ∷ [])) (sym end ∙ sym so.count_is) ∙ num-end value sides last ∙ is;
}

-- ---- the first columns

lt_or_le : (a b : ℕ) → (a < b) ⊎ (b ≤ a)
lt_or_le a b = search (arith)

pub empty_more : {N : Type 0} (count : ℕ) (lists : List (List (Entry N))) (column : List (Entry N)) → column ≡ [] → AreEmpty count lists → AreEmpty (count + 1) (lists ++ column ∷ [])
empty_more count lists column none so = record {
  count_is = let e = so.count_is in let a = length-append lists (column ∷ []) in omega arith;
  empty = λ v.
      let go : Dec (v ≡ length lists) → list_at (lists ++ column ∷ []) v ≡ [] = elim [
        | yes e ↦ ap (list_at (lists ++ column ∷ [])) e ∙ get_or-end lists column [] ∙ none
        | no ne ↦ elim (lt_or_le v (length lists)) [
          | inl l ↦ get_or-front lists column [] v l ∙ so.empty v
          | inr l ↦ get_or_past (lists ++ column ∷ []) v [] (let a = length-append lists (column ∷ []) in omega arith)
        ]
      ] in
      go (ℕ_discrete v (length lists));
}

pub units_more : {N : Type 0} (one : N) (rows : ℕ) (old lists : List (List (Entry N))) (column : List (Entry N)) → column ≡ unit_entry one rows ∷ [] → HasUnits one rows old lists → HasUnits one (rows + 1) old (lists ++ column ∷ [])
units_more one rows old lists column is so = record {
  count_is = let e = so.count_is in let a = length-append lists (column ∷ []) in omega arith;
  kept = λ v l. get_or-front lists column [] v (let e = so.count_is in omega arith) ∙ so.kept v l;
  unit = λ i l.
      let go : Dec (i ≡ rows) → list_at (lists ++ column ∷ []) (length old + i) ≡ unit_entry one i ∷ [] = elim [
        | yes e ↦ ap (list_at (lists ++ column ∷ [])) (ap (λ q. length old + q) e ∙ sym so.count_is) ∙ get_or-end lists column [] ∙ is ∙ ap (λ q. unit_entry one q ∷ []) (sym e)
        | no ne ↦ get_or-front lists column [] (length old + i) (let e = so.count_is in omega arith) ∙ so.unit i (omega arith)
      ] in
      go (ℕ_discrete i rows);
}

-- ---- the whole

columns_below : (n m : ℕ) (es : List (ℕ × ℤ)) → n ≤ m → ColumnsBelow n es → ColumnsBelow m es
columns_below n m [] l h = tt
columns_below n m (e ∷ es) l h = (let k : e.0 < n = h.0 in omega arith, columns_below n m es l h.1)

pub rows_below : (lp : Lp) (m : ℕ) → IsTask lp → lp.columns ≤ m → RowsBelow m lp.rows
rows_below lp m valid l = λ i k. columns_below lp.columns m (row_at lp i).entries l (valid.in_range i k)

no_coefficient : (n v : ℕ) (es : List (ℕ × ℤ)) → n ≤ v → ColumnsBelow n es → coefficient es v ≡ pos 0
no_coefficient n v [] l h = refl
no_coefficient n v (e ∷ es) l h = ap₂ (λ a b. a +ℤ b) (none (e.0 == v) refl) (no_coefficient n v es l h.1)
  where
    none : (b : Bool) → (e.0 == v) ≡ b → picked b e.1 ≡ pos 0
    none false s = refl
    none true s = absurd (let k : e.0 < n = h.0 in grind arith)

pub unit_number : {N : Type 0} (value : N → ℚ) (one : N) (i k : ℕ) → value one ≡ one_ℚ → at value (unit_entry one i ∷ []) k ≡ at_place i one_ℚ k
unit_number value one i k is = +ℚ-zero (at_place i (value one) k) ∙ ap (λ x. at_place i x k) is

-- the lists that were filled are the task
pub describes_from : {N : Type 0} (value : N → ℚ) (lp : Lp) (task : Task N) (empties units filled : List (List (Entry N))) (one : N) → IsTask lp → value one ≡ one_ℚ
    → AreEmpty lp.columns empties → HasUnits one (length lp.rows + 1) empties units → FillsColumns value units lp filled → AreSides value lp.rows task.sides.items
    → task.columns ≡ lp.columns → task.lists.items ≡ filled → Describes value lp task
describes_from {N = N} value lp task empties units filled one valid is_one empty has fills sides columns_is lists_is = record {
  lists = record {
    each = ap length lists_is ∙ total ∙ let a = columns_is in let b = sides.count_is in omega arith;
    below = λ v l. subst (λ xs. PlacesBelow (size_of task) (list_at xs v)) (sym lists_is)
        (fills.gains.below (size_of task) (let b = sides.count_is in omega arith)
        (fills.rows.below (size_of task) (let b = sides.count_is in omega arith) first_below) v (let t = total in let a = columns_is in let b = sides.count_is in omega arith));
  };
  columns = columns_is;
  size = sides.count_is;
  cells = λ j i l h. column j i ∙ filled_left j i (let a = columns_is in omega arith) (λ e. absurd (omega arith))
      ∙ fills.rows.sums j i (let a = columns_is in let c = has.count_is in let d = empty.count_is in omega arith) h
      ∙ ap (λ x. x +ℚ int_ℚ (coefficient (row_at lp i).entries j)) (first_empty j i (let a = columns_is in omega arith)) ∙ zero-+ℚ (int_ℚ (coefficient (row_at lp i).entries j));
  gains = λ j l.
      let low : j < lp.columns = let a = columns_is in omega arith in
      let far : j < length units = let c = has.count_is in let d = empty.count_is in omega arith in
      let x = neg_ℚ (int_ℚ (int_at lp.gain j)) in
      column j (length lp.rows) ∙ fills.gains.sums j (length lp.rows) (let s = fills.rows.same_length in omega arith) (let g = valid.one_gain_each in omega arith)
      ∙ ap₂ (λ a b. a +ℚ b) (fills.rows.others j (length lp.rows) far (omega arith) ∙ first_empty j (length lp.rows) low) (at_place-same (length lp.rows) x) ∙ zero-+ℚ x;
  slacks = record {
    same = λ i l. slack i i (let b = sides.count_is in omega arith) (let b = sides.count_is in omega arith) ∙ at_place-same i one_ℚ;
    other = λ i k l h ne. slack i k (let b = sides.count_is in omega arith) (let b = sides.count_is in omega arith) ∙ at_place-other i k one_ℚ ne;
  };
  sides = λ i l. sides.side i l;
  no_side = sides.last;
}
  where
    column : (v k : ℕ) → column_of value task v k ≡ inv_of value filled v k
    column v k = ap (λ xs. inv_of value xs v k) lists_is

    total : length filled ≡ lp.columns + (length lp.rows + 1)
    total = let a = fills.gains.same_length in let b = fills.rows.same_length in let c = has.count_is in let d = empty.count_is in omega arith

    first_empty : (v k : ℕ) → v < lp.columns → inv_of value units v k ≡ zero_ℚ
    first_empty v k l = ap (λ xs. at value xs k) (has.kept v (let d = empty.count_is in omega arith) ∙ empty.empty v)

    first_unit : (i k : ℕ) → i < length lp.rows + 1 → inv_of value units (lp.columns + i) k ≡ at_place i one_ℚ k
    first_unit i k l = ap (λ c. inv_of value units (c + i) k) (sym empty.count_is) ∙ ap (λ xs. at value xs k) (has.unit i l) ∙ unit_number value one i k is_one

    first_below : AllBelow (size_of task) units
    first_below v l = elim (lt_or_le v lp.columns) [
      | inl low ↦ subst (λ xs. PlacesBelow (size_of task) xs) (sym (has.kept v (let d = empty.count_is in omega arith) ∙ empty.empty v)) tt
      | inr high ↦
          let i = v - lp.columns in
          let back : length empties + i ≡ v = let d = empty.count_is in omega arith in
          let low : i < length lp.rows + 1 = let c = has.count_is in omega arith in
          subst (λ xs. PlacesBelow (size_of task) xs) (sym (ap (list_at units) (sym back) ∙ has.unit i low)) (let b = sides.count_is in omega arith, tt)
    ]

    filled_left : (j k : ℕ) → j < lp.columns → k ≢ length lp.rows → inv_of value filled j k ≡ inv_of value fills.between j k
    filled_left j k l ne =
        fills.gains.sums j k (let c = has.count_is in let d = empty.count_is in let s = fills.rows.same_length in omega arith) (let g = valid.one_gain_each in omega arith)
        ∙ ap (λ b. inv_of value fills.between j k +ℚ b) (at_place-other (length lp.rows) k (neg_ℚ (int_ℚ (int_at lp.gain j))) (λ e. ne (sym e))) ∙ +ℚ-zero (inv_of value fills.between j k)

    slack : (i k : ℕ) → i < length lp.rows + 1 → k < length lp.rows + 1 → column_of value task (task.columns + i) k ≡ at_place i one_ℚ k
    slack i k l h =
        let far : lp.columns + i < length units = let c = has.count_is in let d = empty.count_is in omega arith in
        column (task.columns + i) k ∙ ap (λ n. inv_of value filled (n + i) k) columns_is
        ∙ fills.gains.others (lp.columns + i) k (let s = fills.rows.same_length in omega arith) (let g = valid.one_gain_each in omega arith)
        ∙ elim (lt_or_le k (length lp.rows)) [
          | inl low ↦ fills.rows.sums (lp.columns + i) k far low
              ∙ ap (λ z. inv_of value units (lp.columns + i) k +ℚ int_ℚ z) (no_coefficient lp.columns (lp.columns + i) (row_at lp k).entries (omega arith) (valid.in_range k low))
              ∙ ap (λ z. inv_of value units (lp.columns + i) k +ℚ z) int_ℚ-zero ∙ +ℚ-zero (inv_of value units (lp.columns + i) k)
          | inr high ↦ fills.rows.others (lp.columns + i) k far high
        ]
        ∙ first_unit i k l
