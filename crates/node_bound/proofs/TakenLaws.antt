-- How many patterns stand in each row.
use Rattle.std.proofs.Common.{ℕ, ◌≡◌, ◌+◌, ◌<◌, ◌≤◌, arith, refl, sym, ◌∙◌, ap, subst, suc, Bool, true, false, ◌&&◌, List, [], ◌∷◌, length, get_or, set, drop, inl, inr, get_or-set_same, get_or-set_other, length-set, replicate}
use Rattle.std.specs.Prelude.{pos, ◌+ℤ◌, ◌≤ℤ◌, ◌==◌}
use Rattle.std.proofs.lemmas.Int.{ints}
use Rattle.std.proofs.lemmas.Bool.{eq-eqb, ne_eqb, ltb-true, cases_eq}
use Rattle.std.proofs.lemmas.List.{length-replicate, get_or-replicate, drop_all}
use Rattle.numbers.specs.Sums.{total, picked}
use Rattle.duality.specs.declared.row.RowName.{RowName}
use Rattle.duality.specs.declared.row.RowName.TheVariants.{Base, Cut, Level}
use Rattle.duality.specs.Packing.{Packing, Weights, Stage}
use Rattle.duality.specs.Sums.{member_row, AreRowsOf}
use Rattle.node_bound.specs.Places.{is_placed, place_of, row_count, IsLayout, AreOf, hits, put_total}
use Rattle.node_bound.specs.Taken.{count_at, as_one, Counts, stands, AreCounts}
use Rattle.node_bound.specs.declared.places.Places.{Places}
use Rattle.node_bound.proofs.PlaceLaws.{row_of, place_is, put_is}

-- ---- one more at the places of rows

pub counts_start : (v : Places) (rows : List RowName) (old : List ℕ) → Counts v rows rows old old
counts_start v rows old = record { same_length = refl; counts = λ x l. refl; few = λ x l. omega arith }

-- a row that has no place
pub counts_none : (v : Places) (r : RowName) (old : List ℕ) → is_placed v r ≡ false → Counts v (r ∷ []) [] old old
counts_none v r old h = record {
  same_length = refl;
  counts = λ x l. let e : picked (hits v x r) (pos 1) ≡ pos 0 = rw h refl in omega (arith, ints, e);
  few = λ x l. omega arith;
}

pub counts_one : (v : Places) (r : RowName) (old : List ℕ) (n : ℕ) → is_placed v r ≡ true → place_of v r < length old → n ≡ get_or old (place_of v r) 0 → Counts v (r ∷ []) [] old (set old (place_of v r) (n + 1))
counts_one v r old n h l was =
    let at = place_of v r in
    let new = set old at (n + 1) in
    let one : (x : ℕ) → picked (hits v x r) (pos 1) ≡ picked (at == x) (pos 1) = λ x. ap (λ b. picked (b && (at == x)) (pos 1)) h in
    record {
      same_length = length-set old at (n + 1);
      counts = λ x m. elim (cases_eq at x) [
        | inl same ↦
            let e : count_at new x ≡ n + 1 = ap (count_at new) (sym same) ∙ get_or-set_same old at (n + 1) 0 l in
            let o : count_at old x ≡ n = ap (count_at old) (sym same) ∙ sym was in
            let p : picked (hits v x r) (pos 1) ≡ pos 1 = one x ∙ ap (λ b. picked b (pos 1)) (eq-eqb at x same) in
            omega (arith, ints, e, o, p)
        | inr ne ↦
            let e : count_at new x ≡ count_at old x = get_or-set_other old at x (n + 1) 0 (λ z. ne (sym z)) in
            let p : picked (hits v x r) (pos 1) ≡ pos 0 = one x ∙ ap (λ b. picked b (pos 1)) (ne_eqb at x ne) in
            omega (arith, ints, e, p)
      ];
      few = λ x m. elim (cases_eq at x) [
        | inl same ↦
            let e : count_at new x ≡ n + 1 = ap (count_at new) (sym same) ∙ get_or-set_same old at (n + 1) 0 l in
            let o : count_at old x ≡ n = ap (count_at old) (sym same) ∙ sym was in
            omega (arith, e, o)
        | inr ne ↦
            let e : count_at new x ≡ count_at old x = get_or-set_other old at x (n + 1) 0 (λ z. ne (sym z)) in
            omega (arith, e)
      ];
    }

pub counts_step : (v : Places) (all left left' : List RowName) (r : RowName) (old mid new : List ℕ) → left ≡ r ∷ left' → Counts v all left old mid → Counts v (r ∷ []) [] mid new → Counts v all left' old new
counts_step v all left left' r old mid new e so one = record {
  same_length = one.same_length ∙ so.same_length;
  counts = λ x l.
      let a = so.counts x l in
      let b = one.counts x (omega (arith, l, so.same_length)) in
      let split : put_total v x as_one left ≡ picked (hits v x r) (pos 1) +ℤ put_total v x as_one left' = ap (put_total v x as_one) e in
      omega (arith, ints, a, b, split);
  few = λ x l.
      let a = so.few x l in
      let b = one.few x (omega (arith, l, so.same_length)) in
      let n : length left ≡ suc (length left') = ap length e in
      omega (arith, a, b, n);
}

-- ---- patterns in rows

at_most_one : (b : Bool) → (pos 0 ≤ℤ picked b (pos 1)) × (picked b (pos 1) ≤ℤ pos 1)
at_most_one true = (omega (arith, ints), omega (arith, ints))
at_most_one false = (omega (arith, ints), omega (arith, ints))

pub stands_few : (k : Packing) (w : Weights) (s : Stage) (r : RowName) (p : ℕ) → (pos 0 ≤ℤ stands k w s r p) × (stands k w s r p ≤ℤ pos 1)
stands_few k w s (Base r) p = at_most_one (k.in_base r p)
stands_few k w s (Cut c) p = at_most_one _
stands_few k w s (Level j) p = (omega (arith, ints), omega (arith, ints))

total_few : (k : Packing) (w : Weights) (s : Stage) (r : RowName) (ps : List ℕ) → (pos 0 ≤ℤ total (stands k w s r) ps) × (total (stands k w s r) ps ≤ℤ pos (length ps))
total_few k w s r [] = (omega (arith, ints), omega (arith, ints))
total_few k w s r (p ∷ ps) =
    let one = stands_few k w s r p in
    let rest = total_few k w s r ps in
    (omega (arith, ints, one.0, rest.0), omega (arith, ints, one.1, rest.1))

-- a pattern stands where its rows are
pub stands_is : (k : Packing) (w : Weights) (s : Stage) (v : Places) → AreOf k w s v → (p : ℕ) (rows : List RowName) → AreRowsOf k s rows p → (r : RowName) → is_placed v r ≡ true → picked (member_row r rows) (pos 1) ≡ stands k w s r p
stands_is k w s v are p rows of_pattern (Base r) h = ap (λ b. picked b (pos 1)) (of_pattern.base r (omega (arith, ltb-true r v.base h, are.base)))
stands_is k w s v are p rows of_pattern (Cut c) h = ap (λ b. picked b (pos 1)) (of_pattern.cut c (omega (arith, ltb-true c v.cuts h, are.cuts)))
stands_is k w s v are p rows of_pattern (Level j) h = ap (λ b. picked b (pos 1)) (of_pattern.level j)

pub none_counted : (k : Packing) (w : Weights) (s : Stage) (v : Places) (ps counts : List ℕ) → IsLayout v → counts ≡ replicate (row_count v) 0 → AreCounts k w s v ps ps counts
none_counted k w s v ps counts layout e = record {
  one_each = ap length e ∙ length-replicate (row_count v) 0;
  each = λ r h.
      let zero_there : count_at counts (place_of v r) ≡ 0 = ap (λ xs. count_at xs (place_of v r)) e ∙ get_or-replicate (row_count v) (place_of v r) 0 0 (place_is v layout r h).below in
      omega (arith, ints, zero_there);
}

pub counted_more : (k : Packing) (w : Weights) (s : Stage) (v : Places) (all left left' counts new : List ℕ) (p : ℕ) (rows : List RowName) → AreOf k w s v → left ≡ p ∷ left' → AreRowsOf k s rows p
    → AreCounts k w s v all left counts → Counts v rows [] counts new → AreCounts k w s v all left' new
counted_more k w s v all left left' counts new p rows are e of_pattern so added = record {
  one_each = added.same_length ∙ so.one_each;
  each = λ r h.
      let place = (place_is v are.layout r h).below in
      let a = so.each r h in
      let b = added.counts (place_of v r) (omega (arith, place, so.one_each)) in
      let put : put_total v (place_of v r) as_one rows ≡ stands k w s r p = put_is v are.layout r h as_one rows of_pattern.differ ∙ stands_is k w s v are p rows of_pattern r h in
      let split : total (stands k w s r) left ≡ stands k w s r p +ℤ total (stands k w s r) left' = ap (total (stands k w s r)) e in
      omega (arith, ints, a, b, put, split);
}

-- no place has more than there are patterns
pub counts_few : (k : Packing) (w : Weights) (s : Stage) (v : Places) (all left counts : List ℕ) → AreOf k w s v → AreCounts k w s v all left counts → (x : ℕ) → x < row_count v → count_at counts x ≤ length all
counts_few k w s v all left counts are so x l =
    let row = row_of v are.layout x l in
    let a = so.each row.row row.placed in
    let at : count_at counts (place_of v row.row) ≡ count_at counts x = ap (count_at counts) row.place in
    let low = (total_few k w s row.row left).0 in
    let high = (total_few k w s row.row all).1 in
    omega (arith, ints, a, at, low, high)

-- where none is left, all are counted
pub counted_end : (k : Packing) (w : Weights) (s : Stage) (v : Places) (all : List ℕ) (i : ℕ) (counts : List ℕ) → length all ≤ i → AreCounts k w s v all (drop i all) counts → AreCounts k w s v all [] counts
counted_end k w s v all i counts l h = subst (λ xs. AreCounts k w s v all xs counts) (drop_all i all l) h
