-- Laws of specs/Build.
use Rattle.std.proofs.Common.{ℕ, ◌≡◌, ◌+◌, ◌<◌, ◌≤◌, sym, ◌∙◌, ap, ap₂, subst, zero, suc, refl, List, [], ◌∷◌, ◌++◌, length, get_or, set, drop, drop-cons, drop_of_length-le, add-one, arith, ℤ, ◌+ℤ◌, ◌==◌, Bool, true, false, if◌then◌else◌, get_or-set_same, get_or-set_other, length-set}
use Rattle.std.proofs.Math.Decide.{ℕ_discrete}
use Rattle.numbers.specs.Sums.{picked}
use Rattle.exact_num.specs.Q.{ℚ}
use Rattle.exact_num.specs.Ops.{zero_ℚ, ◌+ℚ◌, +ℚ_assoc, +ℚ-zero}
use Rattle.exact_num.specs.Whole.{int_ℚ, int_ℚ-zero, int_ℚ-+ℤ}
use Rattle.simplex_tableau.specs.declared.sparse.Entry.{Entry}
use Rattle.simplex_tableau.specs.Sparse.{at, at_place, PlacesBelow}
use Rattle.simplex_tableau.proofs.SparseLaws.{at-push, at_place-add, at_place-zero, at_place-same, at_place-other}
use Rattle.simplex_tableau.specs.Inverse.{inv_of, list_at}
use Rattle.exact_simplex.specs.Task.{coefficient, ColumnsBelow}
use Rattle.exact_simplex.specs.Build.{AddsEntry, AddsRow, RowSoFar}

pub places-push : {N : Type 0} (m : ℕ) (es : List (Entry N)) (e : Entry N) → e.place < m → PlacesBelow m es → PlacesBelow m (es ++ e ∷ [])
places-push m [] e l h = (l, tt)
places-push m (f ∷ es) e l h = (h.0, places-push m es e l h.1)

-- an entry pushed to one of the lists
pub adds_entry : {N : Type 0} (value : N → ℚ) (old : List (List (Entry N))) (column place : ℕ) (x : ℚ) (list : List (Entry N)) (e : Entry N) → column < length old → e.place ≡ place → value e.number ≡ x → list_at old column ≡ list
    → AddsEntry value old column place x (set old column (list ++ e ∷ []))
adds_entry value old column place x list e l here is was = record {
  same_length = length-set old column (list ++ e ∷ []);
  sums = λ v k j.
      let go : Dec (v ≡ column) → inv_of value (set old column (list ++ e ∷ [])) v k ≡ inv_of value old v k +ℚ at_place column (at_place place x k) v = elim [
        | yes s ↦
            ap (λ i. inv_of value (set old column (list ++ e ∷ [])) i k) s ∙ ap (λ xs. at value xs k) (get_or-set_same old column (list ++ e ∷ []) [] l) ∙ at-push value list e k
            ∙ ap₂ (λ a b. a +ℚ b) (ap (λ xs. at value xs k) (sym was) ∙ ap (λ i. inv_of value old i k) (sym s))
            (ap₂ (λ q y. at_place q y k) here is ∙ sym (ap (at_place column (at_place place x k)) s ∙ at_place-same column (at_place place x k)))
        | no ne ↦
            ap (λ xs. at value xs k) (get_or-set_other old column v (list ++ e ∷ []) [] ne)
            ∙ sym (ap (λ a. inv_of value old v k +ℚ a) (at_place-other column v (at_place place x k) (λ s. ne (sym s))) ∙ +ℚ-zero (inv_of value old v k))
      ] in
      go (ℕ_discrete v column);
  below = λ m h all v j.
      let go : Dec (v ≡ column) → PlacesBelow m (list_at (set old column (list ++ e ∷ [])) v) = elim [
        | yes s ↦ subst (λ xs. PlacesBelow m xs) (sym (ap (list_at (set old column (list ++ e ∷ []))) s ∙ get_or-set_same old column (list ++ e ∷ []) [] l))
            (places-push m list e (subst (λ q. q < m) (sym here) h) (subst (λ xs. PlacesBelow m xs) was (all column l)))
        | no ne ↦ subst (λ xs. PlacesBelow m xs) (sym (get_or-set_other old column v (list ++ e ∷ []) [] ne)) (all v (let w = length-set old column (list ++ e ∷ []) in omega arith))
      ] in
      go (ℕ_discrete v column);
}

int_picked : (b : Bool) (a : ℤ) → int_ℚ (picked b a) ≡ (if b then int_ℚ a else zero_ℚ)
int_picked true a = refl
int_picked false a = int_ℚ-zero

-- the place of a row and of a column, either first
swapped : (place column v k : ℕ) (x : ℚ) → at_place place (at_place column x v) k ≡ at_place column (at_place place x k) v
swapped place column v k x = both (place == k) (column == v)
  where
    both : (b c : Bool) → (if b then (if c then x else zero_ℚ) else zero_ℚ) ≡ (if c then (if b then x else zero_ℚ) else zero_ℚ)
    both true true = refl
    both true false = refl
    both false true = refl
    both false false = refl

pub row_more_entry : {N : Type 0} (value : N → ℚ) (old : List (List (Entry N))) (place : ℕ) (entries : List (ℕ × ℤ)) (i : ℕ) (e : ℕ × ℤ) (mid new : List (List (Entry N))) → i < length entries → e ≡ get_or entries i e
    → AddsEntry value mid e.0 place (int_ℚ e.1) new → RowSoFar value old place entries i mid → RowSoFar value old place entries (i + 1) new
row_more_entry value old place entries i e mid new l is added so = record {
  same_length = added.same_length ∙ so.same_length;
  sums = λ v k j.
      let rest = coefficient (drop (i + 1) entries) v in
      let here = at_place e.0 (at_place place (int_ℚ e.1) k) v in
      let split : coefficient (drop i entries) v ≡ picked (e.0 == v) e.1 +ℤ rest = rw (drop-cons entries i e, ← is, add-one) refl in
      let one : at_place place (int_ℚ (picked (e.0 == v) e.1)) k ≡ here = ap (λ a. at_place place a k) (int_picked (e.0 == v) e.1) ∙ swapped place e.0 v k (int_ℚ e.1) in
      let both : at_place place (int_ℚ (coefficient (drop i entries) v)) k ≡ here +ℚ at_place place (int_ℚ rest) k
      = ap (λ z. at_place place (int_ℚ z) k) split ∙ ap (λ a. at_place place a k) (int_ℚ-+ℤ (picked (e.0 == v) e.1) rest) ∙ at_place-add place (int_ℚ (picked (e.0 == v) e.1)) (int_ℚ rest) k ∙ ap (λ a. a +ℚ at_place place (int_ℚ rest) k) one in
      ap (λ a. a +ℚ at_place place (int_ℚ rest) k) (added.sums v k (let w = so.same_length in omega arith)) ∙ +ℚ_assoc (inv_of value mid v k) here (at_place place (int_ℚ rest) k)
      ∙ ap (λ a. inv_of value mid v k +ℚ a) (sym both) ∙ so.sums v k j;
  below = λ m h all. added.below m h (so.below m h all);
}

pub row_end_entries : {N : Type 0} (value : N → ℚ) (old : List (List (Entry N))) (place : ℕ) (entries : List (ℕ × ℤ)) (i : ℕ) (new : List (List (Entry N))) → length entries ≤ i → RowSoFar value old place entries i new → AddsRow value old place entries new
row_end_entries value old place entries i new l so = record {
  same_length = so.same_length;
  sums = λ v k j.
      sym (ap (λ xs. inv_of value new v k +ℚ at_place place (int_ℚ (coefficient xs v)) k) (drop_of_length-le entries l)
      ∙ ap (λ a. inv_of value new v k +ℚ at_place place a k) int_ℚ-zero ∙ ap (λ a. inv_of value new v k +ℚ a) (at_place-zero place k) ∙ +ℚ-zero (inv_of value new v k)) ∙ so.sums v k j;
  below = so.below;
}

pub column-at : (n : ℕ) (es : List (ℕ × ℤ)) (i : ℕ) (e : ℕ × ℤ) → ColumnsBelow n es → i < length es → e ≡ get_or es i e → e.0 < n
column-at n [] i e h l is = absurd (omega (arith, l))
column-at n (f ∷ es) zero e h l is = rw is h.0
column-at n (f ∷ es) (suc i) e h l is = column-at n es i e h.1 (omega (arith, l)) is
