-- Laws of specs/Leave.
use Rattle.std.proofs.Common.{ℕ, ◌≡◌, ◌+◌, ◌<◌, ◌≤◌, sym, ◌∙◌, ap, ap₂, subst, inl, inr, ◌⊎◌, List, get_or, length, drop, drop_of_length-le, arith, Option, Some, None, refl}
use Rattle.std.proofs.Math.Decide.{ℕ_discrete}
use Rattle.exact_num.specs.Q.{ℚ}
use Rattle.exact_num.specs.Ops.{zero_ℚ, ◌+ℚ◌, +ℚ-zero, zero-+ℚ}
use Rattle.exact_num.specs.Order.{◌≤ℚ◌, ≤ℚ_refl, ≤ℚ_trans}
use Rattle.simplex_tableau.specs.declared.sparse.Entry.{Entry}
use Rattle.simplex_tableau.specs.declared.basis.Tableau.{Tableau}
use Rattle.simplex_tableau.specs.declared.leave.Leaving.{Leaving}
use Rattle.simplex_tableau.specs.declared.state.RowState.{RowState}
use Rattle.simplex_tableau.specs.Sparse.{at, at_place, Rises}
use Rattle.simplex_tableau.proofs.SparseLaws.{at-drop, at-before, at_place-same, at_place-other, rises-next}
use Rattle.simplex_tableau.proofs.InverseLaws.{get_or-any}
use Rattle.simplex_tableau.specs.Tableau.{basis_of, point_of}
use Rattle.simplex_tableau.specs.States.{Limits, state_of}
use Rattle.simplex_tableau.proofs.StatesLaws.{limits_some}
use Rattle.simplex_tableau.specs.Simplex.{Leaves}
use Rattle.simplex_tableau.specs.Leave.{FindsLeaving, Handled, IsFound, Scanned, Searched, StepWithin, Weighs, ratio, state_there}

pub scan_start : {N : Type 0} (value : N → ℚ) (size : ℕ) (made : List (Entry N)) (Done : ℕ → Type 0) → Rises 0 size made → Scanned value size made 0 Done
scan_start value size made Done h = record { lo = 0; rises = h; pending = λ p l. refl; done = λ p l. absurd (omega arith) }

-- the number of the next entry is that of its place
pub scan_here : {N : Type 0} (value : N → ℚ) (size : ℕ) (made : List (Entry N)) (k : ℕ) (Done : ℕ → Type 0) (e : Entry N) → k < length made → e ≡ get_or made k e → Scanned value size made k Done → (at value made e.place ≡ value e.number) × (e.place < size)
scan_here value size made k Done e l is so =
    let next = rises-next so.lo size made k e l is so.rises in (
      sym (so.pending e.place next.0) ∙ at-drop value made k e e.place l is
          ∙ ap₂ (λ a b. a +ℚ b) (at_place-same e.place (value e.number)) (at-before value (e.place + 1) size (drop (k + 1) made) e.place (omega arith) next.2) ∙ +ℚ-zero (value e.number),
      next.1,
    )

pub scan_more : {N : Type 0} (value : N → ℚ) (size : ℕ) (made : List (Entry N)) (k : ℕ) (Done Done' : ℕ → Type 0) (e : Entry N) → k < length made → e ≡ get_or made k e
    → ((p : ℕ) → Done p → Done' p) → ((p : ℕ) → at value made p ≡ zero_ℚ → Done' p) → Done' e.place → Scanned value size made k Done → Scanned value size made (k + 1) Done'
scan_more value size made k Done Done' e l is weaker none here so =
    let next = rises-next so.lo size made k e l is so.rises in
    record {
      lo = e.place + 1;
      rises = next.2;
      pending = λ p h.
          sym (at-drop value made k e p l is ∙ ap (λ a. a +ℚ at value (drop (k + 1) made) p) (at_place-other e.place p (value e.number) (λ s. absurd (omega arith))) ∙ zero-+ℚ (at value (drop (k + 1) made) p))
          ∙ so.pending p (let j : so.lo ≤ e.place = next.0 in omega arith);
      done = λ p h.
          let go : (p < so.lo) ⊎ (so.lo ≤ p) → Done' p = elim [
            | inl j ↦ weaker p (so.done p j)
            | inr j ↦
                let at_entry : Dec (p ≡ e.place) → Done' p = elim [
                  | yes s ↦ subst Done' (sym s) here
                  | no ne ↦ none p (sym (so.pending p j) ∙ at-drop value made k e p l is
                      ∙ ap₂ (λ a b. a +ℚ b) (at_place-other e.place p (value e.number) (λ s. ne (sym s))) (at-before value (e.place + 1) size (drop (k + 1) made) p h next.2) ∙ +ℚ-zero zero_ℚ)
                ] in
                at_entry (ℕ_discrete p e.place)
          ] in
          go (lt_or_le p so.lo);
    }
  where
    lt_or_le : (a b : ℕ) → (a < b) ⊎ (b ≤ a)
    lt_or_le a b = search (arith)

pub scan_end : {N : Type 0} (value : N → ℚ) (size : ℕ) (made : List (Entry N)) (k : ℕ) (Done : ℕ → Type 0) → length made ≤ k → ((p : ℕ) → at value made p ≡ zero_ℚ → Done p) → Scanned value size made k Done → (p : ℕ) → Done p
scan_end value size made k Done l none so p =
    let go : (p < so.lo) ⊎ (so.lo ≤ p) → Done p = elim [
      | inl j ↦ so.done p j
      | inr j ↦ none p (sym (so.pending p j) ∙ ap (λ xs. at value xs p) (drop_of_length-le made l))
    ] in
    go (lt_or_le p so.lo)
  where
    lt_or_le : (a b : ℕ) → (a < b) ⊎ (b ≤ a)
    lt_or_le a b = search (arith)

handled_none : {N : Type 0} (value : N → ℚ) (n : ℕ) (states : List RowState) (t : Tableau N) (made : List (Entry N)) (best : Option (Leaving N)) (p : ℕ) → at value made p ≡ zero_ℚ → Handled value n states t made best p
handled_none value n states t made None p e = λ h. limits_some (state_there n states t p) (at value made p) h e
handled_none value n states t made (Some l) p e = λ h. absurd (limits_some (state_there n states t p) (at value made p) h e)

-- a search goes on with what an entry gives
pub searched_more : {N : Type 0} (value : N → ℚ) (size n : ℕ) (states : List RowState) (t : Tableau N) (made : List (Entry N)) (k : ℕ) (best best' : Option (Leaving N)) (e : Entry N)
    → k < length made → e ≡ get_or made k e → Weighs value n states t best e best' → Searched value size n states t made k best → Searched value size n states t made (k + 1) best'
searched_more {N = N} value size n states t made k best None e l is w so =
    let here = scan_here value size made k (Handled value n states t made best) e l is so.scanned in
    record {
      found = tt;
      scanned = scan_more value size made k (Handled value n states t made best) (Handled value n states t made None) e l is
          (λ p. subst (λ b. Handled value n states t made b p → Handled value n states t made None p) (sym w.0) (λ h. h))
          (λ p z. handled_none value n states t made None p z)
          (λ h. w.1 (subst (λ d. Limits (state_there n states t e.place) d) here.0 h)) so.scanned;
    }
searched_more {N = N} value size n states t made k best (Some b) e l is w so =
    let here = scan_here value size made k (Handled value n states t made best) e l is so.scanned in
    record {
      found = elim w.from [
        | inl same ↦ subst (λ o. IsFound value size n states t made o) same so.found
        | inr new ↦ (subst (λ q. q < size) (sym new.0) here.1, new.1 ∙ sym here.0 ∙ ap (at value made) (sym new.0), new.2)
      ];
      scanned = scan_more value size made k (Handled value n states t made best) (Handled value n states t made (Some b)) e l is
          (λ p. weaker p best w.before)
          (λ p z. handled_none value n states t made (Some b) p z)
          (λ h. subst (λ d. value b.step ≤ℚ ratio value t e.place d) (sym here.0) (w.here (subst (λ d. Limits (state_there n states t e.place) d) here.0 h))) so.scanned;
    }
  where
    weaker : (p : ℕ) (o : Option (Leaving N)) → ((c : Leaving N) → o ≡ Some c → value b.step ≤ℚ value c.step) → Handled value n states t made o p → Handled value n states t made (Some b) p
    weaker p None before h = λ g. absurd (h g)
    weaker p (Some c) before h = λ g. ≤ℚ_trans (value b.step) (value c.step) (ratio value t p (at value made p)) (before c refl) (h g)

pub searched_end : {N : Type 0} (value : N → ℚ) (size n : ℕ) (states : List RowState) (t : Tableau N) (made : List (Entry N)) (k : ℕ) (best : Option (Leaving N)) → length made ≤ k → Searched value size n states t made k best
    → FindsLeaving value size n states t made best
searched_end value size n states t made k None l so = λ p j h. scan_end value size made k (Handled value n states t made None) l (λ q z. handled_none value n states t made None q z) so.scanned p h
searched_end value size n states t made k (Some b) l so = (
  so.found.1,
  record {
    below = so.found.0;
    limits = subst (λ d. Limits (state_there n states t b.place) d) so.found.1 so.found.2.limits;
    step_is = so.found.2.step_is ∙ ap (ratio value t b.place) so.found.1;
    least = λ p j h. scan_end value size made k (Handled value n states t made (Some b)) l (λ q z. handled_none value n states t made (Some b) q z) so.scanned p h;
  },
)

-- ---- one entry
pub state_is : {N : Type 0} (n : ℕ) (states : List RowState) (t : Tableau N) (place v : ℕ) (s : RowState) → place < length t.basis.items → v ≡ get_or t.basis.items place v → s ≡ state_of n states v → s ≡ state_there n states t place
state_is n states t place v s l at_place is = is ∙ ap (state_of n states) (at_place ∙ get_or-any t.basis.items place v 0 l)

-- an entry that ends no step
pub weighs_none : {N : Type 0} (value : N → ℚ) (n : ℕ) (states : List RowState) (t : Tableau N) (best : Option (Leaving N)) (e : Entry N) → (Limits (state_there n states t e.place) (value e.number) → ⊥) → Weighs value n states t best e best
weighs_none value n states t None e free = (refl, free)
weighs_none value n states t (Some l) e free = record {
  from = inl refl;
  before = λ b same. subst (λ o. StepWithin value (value l.step) o) same (≤ℚ_refl (value l.step));
  here = λ h. absurd (free h);
}

-- what was found, in the words of the caller
pub found_leaves : {N : Type 0} (value : N → ℚ) (m size n : ℕ) (states states' : List RowState) (t : Tableau N) (made made' : List (Entry N)) (o : Option (Leaving N)) (l : Leaving N)
    → m ≡ size → states' ≡ states → made' ≡ made → o ≡ Some l → FindsLeaving value m n states' t made' o
    → Leaves size n states (basis_of t) (point_of value t) (at value made) l.place (value l.step)
found_leaves value m size n states states' t made made' o l e f h is found =
    (subst (λ p. FindsLeaving value size n states t p (Some l)) h (subst (λ s. FindsLeaving value size n s t made' (Some l)) f (subst (λ k. FindsLeaving value k n states' t made' (Some l)) e (subst (λ q. FindsLeaving value m n states' t made' q) is found)))).1
