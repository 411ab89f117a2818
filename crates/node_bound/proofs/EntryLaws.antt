-- Numbers that are given to the columns of a task.
use Rattle.std.proofs.Common.{ℕ, ◌≡◌, ◌+◌, ◌<◌, ◌≤◌, arith, refl, sym, ◌∙◌, ap, subst, zero, suc, Bool, true, false, List, [], ◌∷◌, ◌++◌, length, get_or, set, inl, inr, get_or-set_same, get_or-set_other, length-set}
use Rattle.std.specs.Prelude.{ℤ, pos, ◌+ℤ◌, ◌==◌, ◌⊎◌, nat_lt}
use Rattle.std.proofs.lemmas.Int.{ints}
use Rattle.std.proofs.lemmas.Bool.{eq-eqb, ne_eqb, lt-ltb, le-ltb, cases_eq, cases_order}
use Rattle.std.proofs.lemmas.List.{length-append, get_or_append_left, get_or_push}
use Rattle.node_bound.specs.Duals.{side_left}
use Rattle.numbers.specs.Sums.{picked, picked-+ℤ}
use Rattle.duality.specs.declared.row.RowName.{RowName}
use Rattle.duality.specs.Packing.{Packing, Weights, Stage, Fixing, coefficient}
use Rattle.duality.specs.Sums.{AreRowsOf}
use Rattle.exact_simplex.specs.declared.task.LpRow.{LpRow}
use Rattle.exact_simplex.specs.declared.task.RowKind.{RowKind}
use Rattle.exact_simplex.specs.Task.{ColumnsBelow, no_row, coefficient as number_in}
use Rattle.node_bound.specs.Tasks.{kind_of, name_at, column_at}
use Rattle.node_bound.specs.Places.{row_count, AreOf, put_total, row_number, names_in, level_names}
use Rattle.node_bound.specs.Entries.{lp_row, empty_row, number_at, Gives, nothing, AreEmptyRows, AreFilled, AreTaskRows}
use Rattle.node_bound.specs.declared.places.Places.{Places}
use Rattle.node_bound.proofs.PlaceLaws.{row_of, put_both, given_is}

get_or_past : {A : Type 0} (xs : List A) (i : ℕ) (d : A) → length xs ≤ i → get_or xs i d ≡ d
get_or_past [] i d l = refl
get_or_past (x ∷ xs) zero d l = absurd (omega (arith, l))
get_or_past (x ∷ xs) (suc i) d l = get_or_past xs i d (omega (arith, l))

-- ---- one number

number_in-push : (es : List (ℕ × ℤ)) (c : ℕ) (z : ℤ) (j : ℕ) → number_in (es ++ (c, z) ∷ []) j ≡ number_in es j +ℤ picked (c == j) z
number_in-push [] c z j = omega (arith, ints)
number_in-push (e ∷ es) c z j = omega (arith, ints, number_in-push es c z j)

below-push : (n : ℕ) (es : List (ℕ × ℤ)) (c : ℕ) (z : ℤ) → c < n → ColumnsBelow n es → ColumnsBelow n (es ++ (c, z) ∷ [])
below-push n [] c z l h = (l, tt)
below-push n (e ∷ es) c z l h = (h.0, below-push n es c z l h.1)

picked_zero : (b : Bool) → picked b (pos 0) ≡ pos 0
picked_zero true = refl
picked_zero false = refl

pub gives_none : (c : ℕ) (f : ℕ → ℤ) (rows : List LpRow) → ((x : ℕ) → f x ≡ pos 0) → Gives c f nothing rows rows
gives_none c f rows h = record {
  same_length = refl;
  kinds = λ x. refl;
  sides = λ x. refl;
  numbers = λ x j l. ap (λ z. number_at rows x j +ℤ picked (c == j) z) (sym (h x));
  below = λ n l all. all;
}

pub gives_all : (c : ℕ) (f : ℕ → ℤ) (rows : List LpRow) → Gives c f f rows rows
gives_all c f rows = record {
  same_length = refl;
  kinds = λ x. refl;
  sides = λ x. refl;
  numbers = λ x j l. refl;
  below = λ n l all. all;
}

abbrev pushed : LpRow → ℕ → ℤ → LpRow
pushed row c z = record { kind = row.kind; entries = row.entries ++ (c, z) ∷ []; side = row.side }

pub gives_one : (rows : List LpRow) (at c : ℕ) (z : ℤ) (row : LpRow) → at < length rows → row ≡ get_or rows at no_row → Gives c (λ x. picked (at == x) z) nothing rows (set rows at (record { kind = row.kind; entries = row.entries ++ (c, z) ∷ []; side = row.side }))
gives_one rows at c z row l was =
    let new = set rows at (pushed row c z) in
    let hit : (x : ℕ) → at ≡ x → lp_row new x ≡ pushed row c z = λ x e. ap (lp_row new) (sym e) ∙ get_or-set_same rows at (pushed row c z) no_row l in
    let old_hit : (x : ℕ) → at ≡ x → lp_row rows x ≡ row = λ x e. ap (lp_row rows) (sym e) ∙ sym was in
    let miss : (x : ℕ) → (at ≡ x → ⊥) → lp_row new x ≡ lp_row rows x = λ x ne. get_or-set_other rows at x (pushed row c z) no_row (λ e. ne (sym e)) in
    record {
      same_length = length-set rows at (pushed row c z);
      kinds = λ x. elim (cases_eq at x) [
        | inl e ↦ ap (λ (y : LpRow). y.kind) (hit x e) ∙ sym (ap (λ (y : LpRow). y.kind) (old_hit x e))
        | inr ne ↦ ap (λ (y : LpRow). y.kind) (miss x ne)
      ];
      sides = λ x. elim (cases_eq at x) [
        | inl e ↦ ap (λ (y : LpRow). y.side) (hit x e) ∙ sym (ap (λ (y : LpRow). y.side) (old_hit x e))
        | inr ne ↦ ap (λ (y : LpRow). y.side) (miss x ne)
      ];
      numbers = λ x j m. elim (cases_eq at x) [
        | inl e ↦
            let a : number_at new x j ≡ number_in row.entries j +ℤ picked (c == j) z = ap (λ (y : LpRow). number_in y.entries j) (hit x e) ∙ number_in-push row.entries c z j in
            let b : number_at rows x j ≡ number_in row.entries j = ap (λ (y : LpRow). number_in y.entries j) (old_hit x e) in
            let d : picked (c == j) (picked (at == x) z) ≡ picked (c == j) z = ap (λ t. picked (c == j) (picked t z)) (eq-eqb at x e) in
            omega (arith, ints, a, b, d, picked_zero (c == j))
        | inr ne ↦
            let a : number_at new x j ≡ number_at rows x j = ap (λ (y : LpRow). number_in y.entries j) (miss x ne) in
            let d : picked (c == j) (picked (at == x) z) ≡ picked (c == j) (pos 0) = ap (λ t. picked (c == j) (picked t z)) (ne_eqb at x ne) in
            omega (arith, ints, a, d, picked_zero (c == j))
      ];
      below = λ n m all x k. elim (cases_eq at x) [
        | inl e ↦ subst (λ (y : LpRow). ColumnsBelow n y.entries) (sym (hit x e)) (below-push n row.entries c z m (subst (λ (y : LpRow). ColumnsBelow n y.entries) (old_hit x e) (all x (omega (arith, l, e)))))
        | inr ne ↦ subst (λ (y : LpRow). ColumnsBelow n y.entries) (sym (miss x ne)) (all x (omega (arith, k, length-set rows at (pushed row c z))))
      ];
    }

-- the same numbers, said otherwise
pub gives_same : (c : ℕ) (f g : ℕ → ℤ) (old new : List LpRow) → ((x : ℕ) → x < length old → f x ≡ g x) → Gives c f nothing old new → Gives c g nothing old new
gives_same c f g old new e h = record {
  same_length = h.same_length;
  kinds = h.kinds;
  sides = h.sides;
  numbers = λ x j l. h.numbers x j l ∙ ap (λ z. number_at old x j +ℤ picked (c == j) z) (e x l);
  below = h.below;
}

-- one number of several
pub gives_step : (c : ℕ) (all left left' one : ℕ → ℤ) (old mid new : List LpRow) → ((x : ℕ) → left x ≡ one x +ℤ left' x) → Gives c all left old mid → Gives c one nothing mid new → Gives c all left' old new
gives_step c all left left' one old mid new e a b = record {
  same_length = b.same_length ∙ a.same_length;
  kinds = λ x. b.kinds x ∙ a.kinds x;
  sides = λ x. b.sides x ∙ a.sides x;
  numbers = λ x j l.
      let first = a.numbers x j l in
      let next = b.numbers x j (omega (arith, l, a.same_length)) in
      let split : picked (c == j) (left x) ≡ picked (c == j) (one x) +ℤ picked (c == j) (left' x) = ap (picked (c == j)) (e x) ∙ picked-+ℤ (c == j) (one x) (left' x) in
      omega (arith, ints, first, next, split, picked_zero (c == j));
  below = λ n l all. b.below n l (a.below n l all);
}

pub gives_end : (c : ℕ) (all left : ℕ → ℤ) (old new : List LpRow) → ((x : ℕ) → left x ≡ pos 0) → Gives c all left old new → Gives c all nothing old new
gives_end c all left old new e h = record {
  same_length = h.same_length;
  kinds = h.kinds;
  sides = h.sides;
  numbers = λ x j l. ap (λ z. number_at new x j +ℤ picked (c == j) z) (sym (e x)) ∙ h.numbers x j l;
  below = h.below;
}

-- ---- a column

pub column_given : (k : Packing) (w : Weights) (s : Stage) (v : Places) → AreOf k w s v → (p c : ℕ) (rows : List RowName) (old mid new : List LpRow) → AreRowsOf k s rows p → length old ≡ row_count v
    → Gives c (λ x. put_total v x (row_number w p) rows) nothing old mid → Gives c (λ x. put_total v x (row_number w p) (level_names v)) nothing mid new → Gives c (λ x. coefficient k w s (name_at (names_in v) x) p) nothing old new
column_given k w s v are p c rows old mid new of_pattern whole a b =
    let g = row_number w p in
    let both : ℕ → ℤ = λ x. put_total v x g rows +ℤ put_total v x g (level_names v) in
    let start = gives_step c both both (λ x. put_total v x g (level_names v)) (λ x. put_total v x g rows) old old mid (λ x. refl) (gives_all c both old) a in
    let done = gives_step c both (λ x. put_total v x g (level_names v)) nothing (λ x. put_total v x g (level_names v)) old mid new (λ x. omega (arith, ints)) start b in
    gives_same c both (λ x. coefficient k w s (name_at (names_in v) x) p) old new
    (λ x l.
    let row = row_of v are.layout x (omega (arith, l, whole)) in
    ap both (sym row.place) ∙ put_both v are.layout row.row row.placed g rows of_pattern.differ ∙ given_is k w s v are p rows of_pattern row.row row.placed ∙ ap (λ r. coefficient k w s r p) (sym row.is))
    done

-- ---- columns one after the other

pub filled_none : (k : Packing) (w : Weights) (s : Stage) (names : List RowName) (columns : List ℕ) (rows : List LpRow) → ((x : ℕ) → (lp_row rows x).entries ≡ []) → AreFilled k w s names columns 0 rows rows
filled_none k w s names columns rows empty = record {
  same_length = refl;
  kinds = λ x. refl;
  sides = λ x. refl;
  numbers = λ x j l. ap (λ es. number_in es j) (empty x) ∙ ap (λ b. picked b (coefficient k w s (name_at names x) (column_at columns j))) (sym (le-ltb j 0 (omega arith)));
  below = λ m l x k. subst (ColumnsBelow m) (sym (empty x)) tt;
}

pub filled_more : (k : Packing) (w : Weights) (s : Stage) (names : List RowName) (columns : List ℕ) (n : ℕ) (old mid new : List LpRow) → length old ≡ length names → AreFilled k w s names columns n old mid
    → Gives n (λ x. coefficient k w s (name_at names x) (column_at columns n)) nothing mid new → AreFilled k w s names columns (n + 1) old new
filled_more k w s names columns n old mid new whole so added = record {
  same_length = added.same_length ∙ so.same_length;
  kinds = λ x. added.kinds x ∙ so.kinds x;
  sides = λ x. added.sides x ∙ so.sides x;
  numbers = λ x j l.
      let value : ℕ → ℤ = λ i. coefficient k w s (name_at names x) (column_at columns i) in
      let before = so.numbers x j l in
      let here = added.numbers x j (omega (arith, l, whole, so.same_length)) in
      let zero_here = picked_zero (n == j) in
      elim (cases_order j n) [
        | inl same ↦
            let a : picked (nat_lt j n) (value j) ≡ pos 0 = ap (λ b. picked b (value j)) (le-ltb j n (omega (arith, same))) in
            let b : picked (nat_lt j (n + 1)) (value j) ≡ value j = ap (λ b. picked b (value j)) (lt-ltb j (n + 1) (omega (arith, same))) in
            let d : picked (n == j) (value n) ≡ value n = ap (λ b. picked b (value n)) (eq-eqb n j (sym same)) in
            let e : value n ≡ value j = ap value (sym same) in
            omega (arith, ints, before, here, zero_here, a, b, d, e)
        | inr other ↦
            let d : picked (n == j) (value n) ≡ pos 0 = ap (λ b. picked b (value n)) (ne_eqb n j (λ e. differs j n other e)) in
            let e : picked (nat_lt j (n + 1)) (value j) ≡ picked (nat_lt j n) (value j) = ap (λ b. picked b (value j)) (same_test j n other) in
            omega (arith, ints, before, here, zero_here, d, e)
      ];
  below = λ m l. added.below m (omega (arith, l)) (so.below m (omega (arith, l)));
}
  where
    differs : (j n : ℕ) → (j < n) ⊎ (n < j) → n ≡ j → ⊥
    differs j n (inl l) e = absurd (omega (arith, l, e))
    differs j n (inr l) e = absurd (omega (arith, l, e))

    same_test : (j n : ℕ) → (j < n) ⊎ (n < j) → nat_lt j (n + 1) ≡ nat_lt j n
    same_test j n (inl l) = lt-ltb j (n + 1) (omega (arith, l)) ∙ sym (lt-ltb j n l)
    same_test j n (inr l) = le-ltb j (n + 1) (omega (arith, l)) ∙ sym (le-ltb j n (omega (arith, l)))

pub empty_none : (k : Packing) (w : Weights) (s : Stage) (f : Fixing) (names : List RowName) → AreEmptyRows k w s f names 0 []
empty_none k w s f names = record { one_each = refl; kinds = λ x l. absurd (omega (arith, l)); sides = λ x l. absurd (omega (arith, l)); empty = λ x. refl }

-- a row more
pub empty_more : (k : Packing) (w : Weights) (s : Stage) (f : Fixing) (names : List RowName) (n : ℕ) (rows : List LpRow) (kind : RowKind) (side : ℤ) → kind ≡ kind_of (name_at names n) → side ≡ side_left k w s f (name_at names n)
    → AreEmptyRows k w s f names n rows → AreEmptyRows k w s f names (n + 1) (rows ++ empty_row kind side ∷ [])
empty_more k w s f names n rows kind side is_kind is_side so =
    let new = rows ++ empty_row kind side ∷ [] in
    let before : (x : ℕ) → x < n → lp_row new x ≡ lp_row rows x = λ x l. get_or_append_left rows (empty_row kind side ∷ []) no_row x (omega (arith, l, so.one_each)) in
    let last : (x : ℕ) → x ≡ n → lp_row new x ≡ empty_row kind side = λ x e. get_or_push rows (empty_row kind side) no_row x (so.one_each ∙ sym e) in
    record {
      one_each = length-append rows (empty_row kind side ∷ []) ∙ omega (arith, so.one_each);
      kinds = λ x l. elim (cases_eq x n) [
        | inl e ↦ ap (λ (y : LpRow). y.kind) (last x e) ∙ is_kind ∙ ap (λ i. kind_of (name_at names i)) (sym e)
        | inr ne ↦ ap (λ (y : LpRow). y.kind) (before x (omega (arith, l, ne))) ∙ so.kinds x (omega (arith, l, ne))
      ];
      sides = λ x l. elim (cases_eq x n) [
        | inl e ↦ ap (λ (y : LpRow). y.side) (last x e) ∙ is_side ∙ ap (λ i. side_left k w s f (name_at names i)) (sym e)
        | inr ne ↦ ap (λ (y : LpRow). y.side) (before x (omega (arith, l, ne))) ∙ so.sides x (omega (arith, l, ne))
      ];
      empty = λ x. elim (cases_order x n) [
        | inl e ↦ ap (λ (y : LpRow). y.entries) (last x e)
        | inr other ↦ elim other [
          | inl l ↦ ap (λ (y : LpRow). y.entries) (before x l) ∙ so.empty x
          | inr l ↦ ap (λ (y : LpRow). y.entries) (get_or_past new x no_row (omega (arith, l, length-append rows (empty_row kind side ∷ []), so.one_each)))
        ]
      ];
    }

-- rows that were begun empty and have all their columns
pub rows_done : (k : Packing) (w : Weights) (s : Stage) (f : Fixing) (names : List RowName) (columns : List ℕ) (old new : List LpRow) → AreEmptyRows k w s f names (length names) old → AreFilled k w s names columns (length columns) old new
    → AreTaskRows k w s f names columns new
rows_done k w s f names columns old new begun filled = record {
  one_each = filled.same_length ∙ begun.one_each;
  kinds = λ x l. filled.kinds x ∙ begun.kinds x l;
  sides = λ x l. filled.sides x ∙ begun.sides x l;
  numbers = λ x j l m. filled.numbers x j l ∙ ap (λ b. picked b (coefficient k w s (name_at names x) (column_at columns j))) (lt-ltb j (length columns) m);
  below = filled.below (length columns) (omega arith);
}
