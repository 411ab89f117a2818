-- Laws of specs/Inverse.
use Rattle.std.proofs.Common.{ℕ, ◌≡◌, ◌+◌, ◌<◌, ◌≤◌, arith, refl, sym, ◌∙◌, ap, ap₂, subst, zero, suc, List, [], ◌∷◌, ◌++◌, length, get_or, set, drop, drop-cons, drop_of_length-le, add-one, get_or-set_same, get_or-set_other, length-set, Option, Some, None}
use Rattle.std.proofs.Math.Decide.{ℕ_discrete}
use Rattle.exact_num.specs.Q.{ℚ}
use Rattle.exact_num.specs.Ops.{zero_ℚ, ◌+ℚ◌, ◌*ℚ◌, +ℚ_assoc, +ℚ-zero, zero-+ℚ, +ℚ-*ℚ, *ℚ_comm, zero-*ℚ}
use Rattle.simplex_tableau.specs.declared.sparse.Entry.{Entry}
use Rattle.simplex_tableau.specs.Sparse.{at, at_place, Rises, Combined, dot_with, NumberAt}
use Rattle.simplex_tableau.proofs.SparseLaws.{at-drop, at-push, at_place-same, at_place-other, rises-to, rises-push}
use Rattle.simplex_tableau.specs.Inverse.{IsShared, RowSoFar, Turns, TurnsSoFar, inv_of, list_at}

-- ---- lists of lists
pub get_or-any : {A : Type 0} (xs : List A) (i : ℕ) (d e : A) → i < length xs → get_or xs i d ≡ get_or xs i e
get_or-any [] i d e l = absurd (omega (arith, l))
get_or-any (x ∷ xs) zero d e l = refl
get_or-any (x ∷ xs) (suc i) d e l = get_or-any xs i d e (omega (arith, l))

pub list-get : {E : Type 0} (xs : List (List E)) (i : ℕ) (x : List E) → i < length xs → x ≡ get_or xs i x → list_at xs i ≡ x
list-get xs i x l is = get_or-any xs i [] x l ∙ sym is

-- ---- the inverse times a column
pub makes_more : {N : Type 0} (value : N → ℚ) (inverse : List (List (Entry N))) (column : List (Entry N)) (i : ℕ) (e : Entry N) (made source next : List (Entry N))
    → i < length column → e ≡ get_or column i e → list_at inverse e.place ≡ source → Combined value made (value e.number) source next
    → (p : ℕ) → at value next p +ℚ dot_with value (λ k. inv_of value inverse k p) (drop (i + 1) column) ≡ at value made p +ℚ dot_with value (λ k. inv_of value inverse k p) (drop i column)
makes_more value inverse column i e made source next l is here sum p =
    let rest = dot_with value (λ k. inv_of value inverse k p) (drop (i + 1) column) in
    let split : dot_with value (λ k. inv_of value inverse k p) (drop i column) ≡ inv_of value inverse e.place p *ℚ value e.number +ℚ rest = rw (drop-cons column i e, ← is, add-one) refl in
    ap (λ a. a +ℚ rest) (sum.sums p ∙ ap (λ a. at value made p +ℚ a) (*ℚ_comm (value e.number) (at value source p) ∙ ap (λ xs. at value xs p *ℚ value e.number) (sym here)))
    ∙ +ℚ_assoc (at value made p) (inv_of value inverse e.place p *ℚ value e.number) rest ∙ ap (λ a. at value made p +ℚ a) (sym split)

pub made_from : {N : Type 0} (value : N → ℚ) (target target' : List (Entry N)) (factor : ℚ) (source result : List (Entry N)) → target' ≡ target → Combined value target' factor source result → Combined value target factor source result
made_from value target target' factor source result e sum = subst (λ xs. Combined value xs factor source result) e sum

pub made_end : {N : Type 0} (value : N → ℚ) (inverse : List (List (Entry N))) (column : List (Entry N)) (i : ℕ) (total : ℚ) (p : ℕ) → length column ≤ i → total +ℚ dot_with value (λ k. inv_of value inverse k p) (drop i column) ≡ total
made_end value inverse column i total p l = ap (λ xs. total +ℚ dot_with value (λ k. inv_of value inverse k p) xs) (drop_of_length-le column l) ∙ +ℚ-zero total

-- ---- a row of the inverse
pub at-after : {N : Type 0} (value : N → ℚ) (lo hi : ℕ) (es : List (Entry N)) (p : ℕ) → hi ≤ p → Rises lo hi es → at value es p ≡ zero_ℚ
at-after value lo hi [] p l h = refl
at-after value lo hi (e ∷ es) p l h =
    ap₂ (λ x y. x +ℚ y) (at_place-other e.place p (value e.number) (λ s. absurd (omega (arith, h.1)))) (at-after value (e.place + 1) hi es p l h.2) ∙ +ℚ-zero zero_ℚ

pub row_start : {N : Type 0} (value : N → ℚ) (inverse : List (List (Entry N))) (p : ℕ) (u : ℚ) (row : List (Entry N)) → row ≡ [] → RowSoFar value inverse p u row 0
row_start value inverse p u row e = record { sums = λ j l. absurd (omega arith); rises = subst (λ xs. Rises 0 0 xs) (sym e) tt }

pub row_none : {N : Type 0} (value : N → ℚ) (inverse : List (List (Entry N))) (p : ℕ) (u : ℚ) (row : List (Entry N)) (k : ℕ) → inv_of value inverse k p ≡ zero_ℚ → RowSoFar value inverse p u row k → RowSoFar value inverse p u row (k + 1)
row_none value inverse p u row k none so = record {
  sums = λ j l.
      let go : Dec (j ≡ k) → at value row j ≡ inv_of value inverse j p *ℚ u = elim [
        | yes e ↦ at-after value 0 k row j (omega arith) so.rises ∙ sym (ap (λ a. a *ℚ u) (ap (λ i. inv_of value inverse i p) e ∙ none) ∙ zero-*ℚ u)
        | no ne ↦ so.sums j (omega arith)
      ] in
      go (ℕ_discrete j k);
  rises = rises-to 0 k (k + 1) row (omega arith) so.rises;
}

pub row_one : {N : Type 0} (value : N → ℚ) (inverse : List (List (Entry N))) (p : ℕ) (u : ℚ) (row : List (Entry N)) (e : Entry N) → value e.number ≡ inv_of value inverse e.place p *ℚ u → RowSoFar value inverse p u row e.place → RowSoFar value inverse p u (row ++ e ∷ []) (e.place + 1)
row_one value inverse p u row e is so = record {
  sums = λ j l.
      let go : Dec (j ≡ e.place) → at value (row ++ e ∷ []) j ≡ inv_of value inverse j p *ℚ u = elim [
        | yes s ↦ at-push value row e j
            ∙ ap₂ (λ a b. a +ℚ b) (at-after value 0 e.place row j (omega arith) so.rises) (ap (at_place e.place (value e.number)) s ∙ at_place-same e.place (value e.number))
            ∙ zero-+ℚ (value e.number) ∙ is ∙ ap (λ i. inv_of value inverse i p *ℚ u) (sym s)
        | no ne ↦ at-push value row e j ∙ ap₂ (λ a b. a +ℚ b) (so.sums j (omega arith)) (at_place-other e.place j (value e.number) (λ s. ne (sym s))) ∙ +ℚ-zero (inv_of value inverse j p *ℚ u)
      ] in
      go (ℕ_discrete j e.place);
  rises = rises-push e.place row e (omega arith) so.rises;
}

pub shared_one : {N : Type 0} (value : N → ℚ) (u : ℚ) (place : ℕ) (x : N) (old new : List (Entry N)) (e : Entry N) → e.place ≡ place → value e.number ≡ value x *ℚ u → new ≡ old ++ e ∷ [] → IsShared value u place (Some x) old new
shared_one value u place x old new e here is items = record { entry = e; at_place = here; number_is = is; items = items }

pub row_more : {N : Type 0} (value : N → ℚ) (inverse : List (List (Entry N))) (p : ℕ) (u : ℚ) (row row' : List (Entry N)) (k : ℕ) (found : Option N) → NumberAt value (list_at inverse k) p found → IsShared value u k found row row'
    → RowSoFar value inverse p u row k → RowSoFar value inverse p u row' (k + 1)
row_more value inverse p u row row' k None at_p same so = subst (λ r. RowSoFar value inverse p u r (k + 1)) (sym same) (row_none value inverse p u row k at_p so)
row_more value inverse p u row row' k (Some x) at_p more so =
    subst (λ r. RowSoFar value inverse p u r (k + 1)) (sym more.items)
    (subst (λ q. RowSoFar value inverse p u (row ++ more.entry ∷ []) (q + 1)) more.at_place
    (row_one value inverse p u row more.entry (more.number_is ∙ ap (λ a. a *ℚ u) (sym at_p ∙ ap (λ q. inv_of value inverse q p) (sym more.at_place))) (subst (λ q. RowSoFar value inverse p u row q) (sym more.at_place) so)))

pub turns_more : {N : Type 0} (value : N → ℚ) (inverse : List (List (Entry N))) (row less : List (Entry N)) (i : ℕ) (inverse' : List (List (Entry N))) (e : Entry N) (old new : List (Entry N))
    → i < length row → e ≡ get_or row i e → e.place < length inverse → list_at inverse' e.place ≡ old → Combined value old (value e.number) less new
    → TurnsSoFar value inverse row less i inverse' → TurnsSoFar value inverse row less (i + 1) (set inverse' e.place new)
turns_more value inverse row less i inverse' e old new l is here was sum so = record {
  same_length = length-set inverse' e.place new ∙ so.same_length;
  sums = λ k p j.
      let b = at value less p in
      let rest = at value (drop (i + 1) row) k in
      let split : at value (drop i row) k ≡ at_place e.place (value e.number) k +ℚ rest = at-drop value row i e k l is in
      let go : Dec (k ≡ e.place) → inv_of value (set inverse' e.place new) k p +ℚ rest *ℚ b ≡ inv_of value inverse' k p +ℚ at value (drop i row) k *ℚ b = elim [
        | yes s ↦
            let there : inv_of value (set inverse' e.place new) k p ≡ inv_of value inverse' k p +ℚ value e.number *ℚ b
            = ap (λ q. inv_of value (set inverse' e.place new) q p) s ∙ ap (λ xs. at value xs p) (get_or-set_same inverse' e.place new [] (let w = so.same_length in omega arith)) ∙ sum.sums p
            ∙ ap (λ xs. at value xs p +ℚ value e.number *ℚ b) (sym was) ∙ ap (λ q. inv_of value inverse' q p +ℚ value e.number *ℚ b) (sym s) in
            ap (λ a. a +ℚ rest *ℚ b) there ∙ +ℚ_assoc (inv_of value inverse' k p) (value e.number *ℚ b) (rest *ℚ b)
            ∙ ap (λ a. inv_of value inverse' k p +ℚ a) (sym (+ℚ-*ℚ (value e.number) rest b) ∙ ap (λ a. a *ℚ b) (ap (λ a. a +ℚ rest) (sym (ap (at_place e.place (value e.number)) s ∙ at_place-same e.place (value e.number))) ∙ sym split))
        | no ne ↦
            ap₂ (λ xs a. at value xs p +ℚ a *ℚ b) (get_or-set_other inverse' e.place k new [] ne)
            (sym (split ∙ ap (λ a. a +ℚ rest) (at_place-other e.place k (value e.number) (λ s. ne (sym s))) ∙ zero-+ℚ rest))
      ] in
      go (ℕ_discrete k e.place) ∙ so.sums k p j;
  rises = λ m all under k j.
      let go : Dec (k ≡ e.place) → Rises 0 m (list_at (set inverse' e.place new) k) = elim [
        | yes s ↦ subst (λ xs. Rises 0 m xs) (sym (ap (list_at (set inverse' e.place new)) s ∙ get_or-set_same inverse' e.place new [] (let w = so.same_length in omega arith)))
            (sum.rises m (subst (λ xs. Rises 0 m xs) was (so.rises m all under e.place (let w = so.same_length in omega arith))) under)
        | no ne ↦ subst (λ xs. Rises 0 m xs) (sym (get_or-set_other inverse' e.place k new [] ne)) (so.rises m all under k (let w = length-set inverse' e.place new in omega arith))
      ] in
      go (ℕ_discrete k e.place);
}

pub turns_end : {N : Type 0} (value : N → ℚ) (inverse : List (List (Entry N))) (row less : List (Entry N)) (i : ℕ) (inverse' : List (List (Entry N))) → length row ≤ i → TurnsSoFar value inverse row less i inverse' → Turns value inverse row less inverse'
turns_end value inverse row less i inverse' l so = record {
  same_length = so.same_length;
  sums = λ k p j.
      sym (ap (λ xs. inv_of value inverse' k p +ℚ at value xs k *ℚ at value less p) (drop_of_length-le row l) ∙ ap (λ a. inv_of value inverse' k p +ℚ a) (zero-*ℚ (at value less p)) ∙ +ℚ-zero (inv_of value inverse' k p)) ∙ so.sums k p j;
  rises = so.rises;
}
