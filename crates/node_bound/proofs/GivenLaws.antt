-- What a point gives in each row.
use Rattle.std.proofs.Common.{ℕ, ◌≡◌, ◌+◌, ◌*◌, ◌<◌, ◌≤◌, arith, refl, sym, ◌∙◌, ap, subst, zero, suc, Bool, true, false, ◌&&◌, List, [], ◌∷◌, length, get_or, set, drop, inl, inr, get_or-set_same, get_or-set_other, length-set, replicate}
use Rattle.std.specs.Prelude.{ℤ, pos, ◌+ℤ◌, ◌*ℤ◌, ◌≤ℤ◌, ◌⊎◌, ◌==◌, ◌^◌, int_le}
use Rattle.std.specs.List.{list_all}
use Rattle.std.proofs.lemmas.Int.{ints}
use Rattle.std.proofs.lemmas.Bool.{and_parts, eq-eqb, ne_eqb, cases_eq, lt-ltb, ltb-true}
use Rattle.std.proofs.lemmas.List.{length-replicate, get_or-replicate, drop_all, drop_more}
use mir.Syntax.{w128}
use mir.Val.{to_z, of_z}
use Rattle.std.proofs.Math.IntN.{zero-*ℤ, *ℤ-one, *ℤ_comm}
use Rattle.numbers.specs.Sums.{total, picked, member}
use Rattle.duality.specs.declared.row.RowName.{RowName}
use Rattle.duality.specs.declared.row.RowName.TheVariants.{Base, Cut, Level}
use Rattle.duality.specs.Packing.{Packing, Weights, Stage, as_number, cut_at}
use Rattle.duality.specs.Sums.{member_row, AreRowsOf, IsWithin}
use Rattle.packing_model.specs.declared.point.Point.{Point}
use Rattle.search_nodes.specs.Points.{is_part, sum_at}
use Rattle.exact_simplex.specs.Task.{int_at}
use Rattle.node_bound.specs.Amounts.{IsSmall}
use Rattle.node_bound.specs.Given.{Adds, AreSums, given_in}
use Rattle.node_bound.specs.Guessed.{AreEntries, AreFew, KeepsRows, entry_sum}
use Rattle.node_bound.specs.Places.{is_placed, place_of, row_count, IsLayout, AreOf, hits, put_total}
use Rattle.node_bound.specs.Taken.{stands}
use Rattle.node_bound.specs.declared.places.Places.{Places}
use Rattle.node_bound.proofs.GuessedLaws.{entry_small, sum_is}
use Rattle.node_bound.proofs.PlaceLaws.{row_of, place_is, put_is}
use Rattle.node_bound.proofs.TakenLaws.{stands_is, stands_few}

-- ---- an amount at the places of rows

pub adds_start : (v : Places) (amount : ℤ) (rows : List RowName) (old : List ℤ) → Adds v amount rows rows old old
adds_start v amount rows old = record { same_length = refl; sums = λ x l. refl; low = λ x l. omega (arith, ints); high = λ x l. omega (arith, ints) }

-- a row that has no place
pub adds_none : (v : Places) (amount : ℤ) (r : RowName) (old : List ℤ) → is_placed v r ≡ false → Adds v amount (r ∷ []) [] old old
adds_none v amount r old h = record {
  same_length = refl;
  sums = λ x l. let e : picked (hits v x r) amount ≡ pos 0 = rw h refl in omega (arith, ints, e);
  low = λ x l. omega (arith, ints);
  high = λ x l. omega (arith, ints);
}

pub adds_one : (v : Places) (amount : ℤ) (r : RowName) (old : List ℤ) (n : ℤ) → is_placed v r ≡ true → place_of v r < length old → IsSmall amount → n ≡ int_at old (place_of v r) +ℤ amount → Adds v amount (r ∷ []) [] old (set old (place_of v r) n)
adds_one v amount r old n h l small was =
    let at = place_of v r in
    let new = set old at n in
    let one : (x : ℕ) → picked (hits v x r) amount ≡ picked (at == x) amount = λ x. ap (λ b. picked (b && (at == x)) amount) h in
    let same_at : (x : ℕ) → at ≡ x → int_at new x ≡ int_at old x +ℤ amount = λ x same. ap (int_at new) (sym same) ∙ get_or-set_same old at n (pos 0) l ∙ was ∙ ap (λ y. int_at old y +ℤ amount) same in
    let other_at : (x : ℕ) → (at ≡ x → ⊥) → int_at new x ≡ int_at old x = λ x ne. get_or-set_other old at x n (pos 0) (λ z. ne (sym z)) in
    record {
      same_length = length-set old at n;
      sums = λ x m. elim (cases_eq at x) [
        | inl same ↦
            let p : picked (hits v x r) amount ≡ amount = one x ∙ ap (λ b. picked b amount) (eq-eqb at x same) in
            omega (arith, ints, same_at x same, p)
        | inr ne ↦
            let p : picked (hits v x r) amount ≡ pos 0 = one x ∙ ap (λ b. picked b amount) (ne_eqb at x ne) in
            omega (arith, ints, other_at x ne, p)
      ];
      low = λ x m. elim (cases_eq at x) [
        | inl same ↦ omega (arith, ints, same_at x same, small.low)
        | inr ne ↦ omega (arith, ints, other_at x ne)
      ];
      high = λ x m. elim (cases_eq at x) [
        | inl same ↦ omega (arith, ints, same_at x same, small.high)
        | inr ne ↦ omega (arith, ints, other_at x ne)
      ];
    }

pub adds_step : (v : Places) (amount : ℤ) (all left left' : List RowName) (r : RowName) (old mid new : List ℤ) → left ≡ r ∷ left' → Adds v amount all left old mid → Adds v amount (r ∷ []) [] mid new → Adds v amount all left' old new
adds_step v amount all left left' r old mid new e so one = record {
  same_length = one.same_length ∙ so.same_length;
  sums = λ x l.
      let a = so.sums x l in
      let b = one.sums x (omega (arith, l, so.same_length)) in
      let split : put_total v x (λ q. amount) left ≡ picked (hits v x r) amount +ℤ put_total v x (λ q. amount) left' = ap (put_total v x (λ q. amount)) e in
      omega (arith, ints, a, b, split);
  low = λ x l.
      let a = so.low x l in
      let b = one.low x (omega (arith, l, so.same_length)) in
      omega (arith, ints, a, b);
  high = λ x l.
      let a = so.high x l in
      let b = one.high x (omega (arith, l, so.same_length)) in
      let n : length left ≡ suc (length left') = ap length e in
      omega (arith, ints, a, b, n);
}

-- what each of the rows that are left may still get fits
pub adds_room : (v : Places) (amount : ℤ) (all left : List RowName) (old mid : List ℤ) → Adds v amount all left old mid → ((x : ℕ) → x < length old → pos 0 ≤ℤ int_at old x) → ((x : ℕ) → x < length old → (int_at old x +ℤ pos (length all * 10 ^ 24)) ≤ℤ pos (10 ^ 37))
    → (x : ℕ) → x < length mid → (pos 0 ≤ℤ int_at mid x) × (int_at mid x ≤ℤ pos (10 ^ 37))
adds_room v amount all left old mid so low high x l =
    let m : x < length old = omega (arith, l, so.same_length) in
    let a = so.low x m in
    let b = so.high x m in
    let c = low x m in
    let d = high x m in
    (omega (arith, ints, a, c), omega (arith, ints, b, d))

-- ---- entries in rows

picked_one : (b : Bool) (x : ℤ) → picked b x ≡ picked b (pos 1) *ℤ x
unfolding lib.IntN.one
picked_one true x = sym (*ℤ_comm (pos 1) x ∙ *ℤ-one x)
picked_one false x = sym (zero-*ℤ x)

one_given : (b x : ℤ) → pos 0 ≤ℤ b → b ≤ℤ pos 1 → pos 0 ≤ℤ x → x ≤ℤ pos (10 ^ 24) → (pos 0 ≤ℤ (b *ℤ x)) × ((b *ℤ x) ≤ℤ pos (10 ^ 24))
unfolding lib.IntN.one
one_given b x l h m n = elim (zero_or_one b l h) [
  | inl none ↦ let e : b *ℤ x ≡ pos 0 = ap (λ y. y *ℤ x) none ∙ zero-*ℤ x in (omega (arith, ints, e), omega (arith, ints, e))
  | inr one ↦ let e : b *ℤ x ≡ x = ap (λ y. y *ℤ x) one ∙ *ℤ_comm (pos 1) x ∙ *ℤ-one x in (omega (arith, ints, e, m), omega (arith, ints, e, n))
]
  where
    zero_or_one : (z : ℤ) → pos 0 ≤ℤ z → z ≤ℤ pos 1 → (z ≡ pos 0) ⊎ (z ≡ pos 1)
    zero_or_one z p q = grind (arith, ints)

given_few : (k : Packing) (w : Weights) (s : Stage) (r : RowName) (es : List (ℕ × ℤ)) → list_all (is_part (pos (10 ^ 24))) es ≡ true → (pos 0 ≤ℤ total (given_in k w s r) es) × (total (given_in k w s r) es ≤ℤ pos (length es * 10 ^ 24))
given_few k w s r [] h = (omega (arith, ints), omega (arith, ints))
given_few k w s r (e ∷ es) h =
    let a = and_parts (is_part (pos (10 ^ 24)) e) (list_all (is_part (pos (10 ^ 24))) es) h in
    let small = entry_small e a.0 in
    let stood = stands_few k w s r e.0 in
    let one = one_given (stands k w s r e.0) e.1 stood.0 stood.1 small.0 small.1 in
    let rest = given_few k w s r es a.1 in
    (omega (arith, ints, one.0, rest.0), omega (arith, ints, one.1, rest.1))

pub none_given : (k : Packing) (w : Weights) (s : Stage) (v : Places) (es : List (ℕ × ℤ)) (sums : List ℤ) → IsLayout v → sums ≡ replicate (row_count v) (pos 0) → AreSums k w s v es es sums
none_given k w s v es sums layout e = record {
  one_each = ap length e ∙ length-replicate (row_count v) (pos 0);
  each = λ r h.
      let zero_there : int_at sums (place_of v r) ≡ pos 0 = ap (λ xs. int_at xs (place_of v r)) e ∙ get_or-replicate (row_count v) (place_of v r) (pos 0) (pos 0) (place_is v layout r h).below in
      omega (arith, ints, zero_there);
}

pub given_more : (k : Packing) (w : Weights) (s : Stage) (v : Places) (all left left' : List (ℕ × ℤ)) (sums new : List ℤ) (e : ℕ × ℤ) (rows : List RowName) → AreOf k w s v → left ≡ e ∷ left' → AreRowsOf k s rows e.0
    → AreSums k w s v all left sums → Adds v e.1 rows [] sums new → AreSums k w s v all left' new
given_more k w s v all left left' sums new e rows are is of_pattern so added = record {
  one_each = added.same_length ∙ so.one_each;
  each = λ r h.
      let place = (place_is v are.layout r h).below in
      let a = so.each r h in
      let b = added.sums (place_of v r) (omega (arith, place, so.one_each)) in
      let put : put_total v (place_of v r) (λ q. e.1) rows ≡ given_in k w s r e = put_is v are.layout r h (λ q. e.1) rows of_pattern.differ ∙ picked_one (member_row r rows) e.1 ∙ ap (λ y. y *ℤ e.1) (stands_is k w s v are e.0 rows of_pattern r h) in
      let split : total (given_in k w s r) left ≡ given_in k w s r e +ℤ total (given_in k w s r) left' = ap (total (given_in k w s r)) is in
      omega (arith, ints, a, b, put, split);
}

-- what some last entries give is no more than what all give
drop_given : (k : Packing) (w : Weights) (s : Stage) (r : RowName) (i : ℕ) (es : List (ℕ × ℤ)) → list_all (is_part (pos (10 ^ 24))) es ≡ true → (pos 0 ≤ℤ total (given_in k w s r) (drop i es)) × (total (given_in k w s r) (drop i es) ≤ℤ total (given_in k w s r) es)
drop_given k w s r zero es h = ((given_few k w s r es h).0, omega (arith, ints))
drop_given k w s r (suc i) [] h = (omega (arith, ints), omega (arith, ints))
drop_given k w s r (suc i) (e ∷ es) h =
    let a = and_parts (is_part (pos (10 ^ 24)) e) (list_all (is_part (pos (10 ^ 24))) es) h in
    let small = entry_small e a.0 in
    let stood = stands_few k w s r e.0 in
    let one = one_given (stands k w s r e.0) e.1 stood.0 stood.1 small.0 small.1 in
    let rest = drop_given k w s r i es a.1 in
    (rest.0, omega (arith, ints, one.0, rest.1))

-- no place has more than all entries could give
pub sums_few : (k : Packing) (w : Weights) (s : Stage) (v : Places) (all : List (ℕ × ℤ)) (i : ℕ) (sums : List ℤ) → AreOf k w s v → list_all (is_part (pos (10 ^ 24))) all ≡ true → AreSums k w s v all (drop i all) sums
    → (x : ℕ) → x < row_count v → (pos 0 ≤ℤ int_at sums x) × (int_at sums x ≤ℤ pos (length all * 10 ^ 24))
sums_few k w s v all i sums are parts so x l =
    let row = row_of v are.layout x l in
    let a = so.each row.row row.placed in
    let at : int_at sums (place_of v row.row) ≡ int_at sums x = ap (int_at sums) row.place in
    let low = drop_given k w s row.row i all parts in
    let high = given_few k w s row.row all parts in
    (omega (arith, ints, a, at, low.1), omega (arith, ints, a, at, low.0, high.1))

-- where none is left, all are counted
pub given_end : (k : Packing) (w : Weights) (s : Stage) (v : Places) (all : List (ℕ × ℤ)) (i : ℕ) (sums : List ℤ) → length all ≤ i → AreSums k w s v all (drop i all) sums → AreSums k w s v all [] sums
given_end k w s v all i sums l h = subst (λ xs. AreSums k w s v all xs sums) (drop_all i all l) h

-- ---- rows that are met

at_most : (bound : ℤ) (zs : List ℤ) (i : ℕ) → i < length zs → list_all (λ z. int_le z bound) zs ≡ true → int_at zs i ≤ℤ bound
at_most bound [] i l h = absurd (omega arith)
at_most bound (z ∷ zs) zero l h = let a = and_parts (int_le z bound) (list_all (λ y. int_le y bound) zs) h in le_is z bound a.0
  where
    le_is : (a b : ℤ) → int_le a b ≡ true → a ≤ℤ b
    le_is a b h = grind (arith, ints)
at_most bound (z ∷ zs) (suc i) l h = at_most bound zs i (omega arith) (and_parts (int_le z bound) (list_all (λ y. int_le y bound) zs) h).1

row_met : (k : Packing) (w : Weights) (s : Stage) (v : Places) (es : List (ℕ × ℤ)) (sums : List ℤ) (den : ℤ) (r : RowName) → AreOf k w s v → AreSums k w s v es [] sums → list_all (λ z. int_le z den) sums ≡ true → is_placed v r ≡ true → total (given_in k w s r) es ≤ℤ den
row_met k w s v es sums den r are so most h =
    let place = (place_is v are.layout r h).below in
    let a = so.each r h in
    let b = at_most den sums (place_of v r) (omega (arith, place, so.one_each)) most in
    omega (arith, ints, a, b)

pub rows_kept : (k : Packing) (w : Weights) (s : Stage) (v : Places) (x : Point) (es : List (ℕ × ℤ)) (sums : List ℤ) → AreFew k x → AreOf k w s v → es ≡ x.entries → AreSums k w s v es [] sums → list_all (λ z. int_le z x.den) sums ≡ true → KeepsRows k s x
rows_kept k w s v x es sums few are same so most = record {
  base = λ r l.
      let m = row_met k w s v es sums x.den (Base r) are so most (lt-ltb r v.base (omega (arith, l, are.base))) in
      let e : total (given_in k w s (Base r)) es ≡ total (given_in k w s (Base r)) x.entries = ap (total (given_in k w s (Base r))) same in
      omega (arith, ints, m, e, sum_is k x (λ p. as_number (k.in_base r p)) few);
  cuts = λ c l.
      let m = row_met k w s v es sums x.den (Cut c) are so most (lt-ltb c v.cuts (omega (arith, l, are.cuts))) in
      let e : total (given_in k w s (Cut c)) es ≡ total (given_in k w s (Cut c)) x.entries = ap (total (given_in k w s (Cut c))) same in
      omega (arith, ints, m, e, sum_is k x (λ p. as_number (member p (cut_at s c))) few);
}

-- ---- a sum over entries, one after the other

-- what is added, as a number of the type
fits_sum : (i : ℕ) (old part new bits : ℤ) → i < 100000 → IsWithin (i * 10 ^ 33) old → IsWithin (10 ^ 33) part → bits ≡ old → new ≡ bits +ℤ to_z w128 (of_z w128 part) → to_z w128 (of_z w128 new) ≡ old +ℤ part
fits_sum i old part new bits l p q b e =
    let small : IsWithin (10 ^ 38) old = record { low = omega (arith, ints, p.low, l); high = omega (arith, ints, p.high, l) } in
    omega (arith, ints, small.low, small.high, q.low, q.high, b, e)

pub more_within : (i : ℕ) (old part new bits : ℤ) → i < 100000 → IsWithin (i * 10 ^ 33) old → IsWithin (10 ^ 33) part → bits ≡ old → new ≡ bits +ℤ to_z w128 (of_z w128 part) → IsWithin ((i + 1) * 10 ^ 33) (to_z w128 (of_z w128 new))
more_within i old part new bits l p q b e =
    let is = fits_sum i old part new bits l p q b e in
    record { low = omega (arith, ints, is, p.low, q.low); high = omega (arith, ints, is, p.high, q.high) }

pub more_counted : (f : ℕ → ℤ) (es : List (ℕ × ℤ)) (i : ℕ) (old part new bits : ℤ) → i < length es → i < 100000 → IsWithin (i * 10 ^ 33) old → IsWithin (10 ^ 33) part → bits ≡ old → new ≡ bits +ℤ to_z w128 (of_z w128 part)
    → part ≡ f (get_or es i (0, pos 0)).0 *ℤ (get_or es i (0, pos 0)).1 → old +ℤ entry_sum f (drop i es) ≡ entry_sum f es → to_z w128 (of_z w128 new) +ℤ entry_sum f (drop (i + 1) es) ≡ entry_sum f es
more_counted f es i old part new bits m l p q b e is so =
    let split : entry_sum f (drop i es) ≡ (f (get_or es i (0, pos 0)).0 *ℤ (get_or es i (0, pos 0)).1) +ℤ entry_sum f (drop (i + 1) es) = ap (entry_sum f) (drop_more es i (0, pos 0) m) in
    omega (arith, ints, fits_sum i old part new bits l p q b e, split, is, so)

-- what holds of the last entries holds of those behind the first of them
pub all_behind : (f : (ℕ × ℤ) → Bool) (es : List (ℕ × ℤ)) (i : ℕ) → i < length es → list_all f (drop i es) ≡ true → list_all f (drop (i + 1) es) ≡ true
all_behind f es i m h =
    let split : list_all f (drop i es) ≡ f (get_or es i (0, pos 0)) && list_all f (drop (i + 1) es) = ap (list_all f) (drop_more es i (0, pos 0) m) in
    (and_parts (f (get_or es i (0, pos 0))) (list_all f (drop (i + 1) es)) (sym split ∙ h)).1

-- ---- one entry of many

entry_at : (f : (ℕ × ℤ) → Bool) (es : List (ℕ × ℤ)) (i : ℕ) → i < length es → list_all f es ≡ true → f (get_or es i (0, pos 0)) ≡ true
entry_at f [] i m h = absurd (omega arith)
entry_at f (e ∷ es) zero m h = (and_parts (f e) (list_all f es) h).0
entry_at f (e ∷ es) (suc i) m h = entry_at f es i (omega arith) (and_parts (f e) (list_all f es) h).1

pub amount_is : (es : List (ℕ × ℤ)) (i : ℕ) → i < length es → list_all (is_part (pos (10 ^ 24))) es ≡ true → to_z w128 (of_z w128 (get_or es i (0, pos 0)).1) ≡ (get_or es i (0, pos 0)).1
amount_is es i m h =
    let a = entry_small (get_or es i (0, pos 0)) (entry_at (is_part (pos (10 ^ 24))) es i m h) in
    omega (arith, ints, a.0, a.1)

pub amount_small : (es : List (ℕ × ℤ)) (i : ℕ) → i < length es → list_all (is_part (pos (10 ^ 24))) es ≡ true → IsSmall (to_z w128 (of_z w128 (get_or es i (0, pos 0)).1))
amount_small es i m h =
    let a = entry_small (get_or es i (0, pos 0)) (entry_at (is_part (pos (10 ^ 24))) es i m h) in
    record { low = omega (arith, ints, a.0, a.1); high = omega (arith, ints, a.0, a.1) }
