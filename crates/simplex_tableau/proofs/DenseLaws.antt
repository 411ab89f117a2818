-- Laws of specs/Dense.
use Rattle.std.proofs.Common.{ℕ, ◌≡◌, ◌+◌, ◌<◌, ◌≢◌, sym, ◌∙◌, ap, ap₂, refl, add-one, List, length, get_or, map, set, drop, drop-cons, drop_of_length-le, arith, get_or-set_same, get_or-set_other, ◌≤◌, zero, suc, [], ◌∷◌}
use Rattle.std.proofs.lemmas.List.{get_or-map, map-set, length-map}
use Rattle.std.proofs.Math.Decide.{ℕ_discrete}
use Rattle.exact_num.specs.Q.{ℚ}
use Rattle.exact_num.specs.Ops.{zero_ℚ, ◌+ℚ◌, ◌*ℚ◌, +ℚ_assoc, +ℚ_comm, +ℚ-zero, zero-+ℚ, *ℚ-+ℚ, *ℚ-zero}
use Rattle.simplex_tableau.specs.declared.sparse.Entry.{Entry}
use Rattle.simplex_tableau.specs.Sparse.{at, at_place, PlacesBelow, dot_with}
use Rattle.simplex_tableau.proofs.SparseLaws.{at-drop, at_place-same, at_place-other}
use Rattle.simplex_tableau.specs.Dense.{num}

pub num-get : {N : Type 0} (value : N → ℚ) (xs : List N) (i : ℕ) (x : N) → i < length xs → x ≡ get_or xs i x → num value xs i ≡ value x
num-get value xs i x l e = get_or-map value xs i x zero_ℚ l ∙ ap value (sym e)

pub num-set_same : {N : Type 0} (value : N → ℚ) (xs : List N) (i : ℕ) (x : N) → i < length xs → num value (set xs i x) i ≡ value x
num-set_same value xs i x l =
    ap (λ ys. get_or ys i zero_ℚ) (map-set value xs i x) ∙ get_or-set_same (map value xs) i (value x) zero_ℚ (let e : length (map value xs) ≡ length xs = length-map xs value in omega arith)

pub num-set_other : {N : Type 0} (value : N → ℚ) (xs : List N) (i p : ℕ) (x : N) → p ≢ i → num value (set xs i x) p ≡ num value xs p
num-set_other value xs i p x s =
    ap (λ ys. get_or ys p zero_ℚ) (map-set value xs i x) ∙ get_or-set_other (map value xs) i p (value x) zero_ℚ s

pub place-at : {N : Type 0} (m : ℕ) (es : List (Entry N)) (i : ℕ) (e : Entry N) → PlacesBelow m es → i < length es → e ≡ get_or es i e → e.place < m
place-at m [] i e h l is = absurd (omega (arith, l))
place-at m (f ∷ es) zero e h l is = rw is h.0
place-at m (f ∷ es) (suc i) e h l is = place-at m es i e h.1 (omega (arith, l)) is

-- one entry of the source was added
pub added_more : {N : Type 0} (value : N → ℚ) (xs ys : List N) (factor : ℚ) (source : List (Entry N)) (k : ℕ) (e : Entry N) (old sum : N)
    → k < length source → e ≡ get_or source k e → length ys ≡ length xs → e.place < length xs → old ≡ get_or ys e.place old
    → value sum ≡ value old +ℚ factor *ℚ value e.number
    → ((p : ℕ) → p < length xs → num value ys p +ℚ factor *ℚ at value (drop k source) p ≡ num value xs p +ℚ factor *ℚ at value source p)
    → (p : ℕ) → p < length xs → num value (set ys e.place sum) p +ℚ factor *ℚ at value (drop (k + 1) source) p ≡ num value xs p +ℚ factor *ℚ at value source p
added_more value xs ys factor source k e old sum l is same here was plus so p j =
    let rest = at value (drop (k + 1) source) p in
    let split : at value (drop k source) p ≡ at_place e.place (value e.number) p +ℚ rest = at-drop value source k e p l is in
    let go : Dec (p ≡ e.place) → num value (set ys e.place sum) p +ℚ factor *ℚ rest ≡ num value ys p +ℚ factor *ℚ at value (drop k source) p = elim [
      | yes eq ↦
          let new : num value (set ys e.place sum) p ≡ num value ys p +ℚ factor *ℚ value e.number
          = ap (num value (set ys e.place sum)) eq ∙ num-set_same value ys e.place sum (omega arith) ∙ plus
          ∙ ap (λ a. a +ℚ factor *ℚ value e.number) (sym (ap (num value ys) eq ∙ num-get value ys e.place old (omega arith) was)) in
          ap (λ a. a +ℚ factor *ℚ rest) new ∙ +ℚ_assoc (num value ys p) (factor *ℚ value e.number) (factor *ℚ rest)
          ∙ ap (λ a. num value ys p +ℚ a) (sym (*ℚ-+ℚ factor (value e.number) rest) ∙ ap (λ a. factor *ℚ (a +ℚ rest)) (sym (ap (at_place e.place (value e.number)) eq ∙ at_place-same e.place (value e.number))) ∙ ap (λ a. factor *ℚ a) (sym split))
      | no ne ↦
          ap₂ (λ a b. a +ℚ factor *ℚ b) (num-set_other value ys e.place p sum ne)
          (sym (split ∙ ap (λ a. a +ℚ rest) (at_place-other e.place p (value e.number) (λ s. ne (sym s))) ∙ zero-+ℚ rest))
    ] in
    go (ℕ_discrete p e.place) ∙ so p j

pub added_end : {N : Type 0} (value : N → ℚ) (ys : List N) (factor : ℚ) (source : List (Entry N)) (k p : ℕ) → length source ≤ k
    → num value ys p +ℚ factor *ℚ at value (drop k source) p ≡ num value ys p
added_end value ys factor source k p l =
    ap (λ xs. num value ys p +ℚ factor *ℚ at value xs p) (drop_of_length-le source l) ∙ ap (λ a. num value ys p +ℚ a) (*ℚ-zero factor) ∙ +ℚ-zero (num value ys p)

-- the next product of a sum of products
pub dot_more : {N : Type 0} (value : N → ℚ) (f : ℕ → ℚ) (es : List (Entry N)) (k : ℕ) (e : Entry N) (total product sum : ℚ) → k < length es → e ≡ get_or es k e
    → product ≡ f e.place *ℚ value e.number → sum ≡ product +ℚ total
    → sum +ℚ dot_with value f (drop (k + 1) es) ≡ total +ℚ dot_with value f (drop k es)
dot_more value f es k e total product sum l is times plus =
    let rest = dot_with value f (drop (k + 1) es) in
    let split : dot_with value f (drop k es) ≡ f e.place *ℚ value e.number +ℚ rest = rw (drop-cons es k e, ← is, add-one) refl in
    ap (λ a. a +ℚ rest) (plus ∙ +ℚ_comm product total ∙ ap (λ a. total +ℚ a) times) ∙ +ℚ_assoc total (f e.place *ℚ value e.number) rest ∙ ap (λ a. total +ℚ a) (sym split)

pub dot_end : {N : Type 0} (value : N → ℚ) (f : ℕ → ℚ) (es : List (Entry N)) (k : ℕ) (total : ℚ) → length es ≤ k → total +ℚ dot_with value f (drop k es) ≡ total
dot_end value f es k total l = ap (λ xs. total +ℚ dot_with value f xs) (drop_of_length-le es l) ∙ +ℚ-zero total
