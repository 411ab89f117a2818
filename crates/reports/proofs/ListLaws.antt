-- Pieces of each number below another, and tests on lists.
use Rattle.std.proofs.Common.{ℕ, ◌≡◌, ◌+◌, ◌<◌, arith, refl, ◌∙◌, ap, ap₂, zero, suc, add-one, List, [], ◌∷◌, ◌++◌, Bool, true, false, ◌&&◌, cond}
use Rattle.std.specs.List.{filter, list_all}
use Rattle.std.proofs.lemmas.Bool.{and_parts, and_from}
use Rattle.std.proofs.lemmas.List.Elements.{filter-append}
use Rattle.reports.specs.Rooms.{each_below}

pub each_below_more : {A : Type 0} (piece : ℕ → List A) (n : ℕ) → each_below piece (n + 1) ≡ each_below piece n ++ piece n
each_below_more piece n = rw (add-one) refl

pub each_below-same : {A : Type 0} (f g : ℕ → List A) (n : ℕ) → ((k : ℕ) → k < n → f k ≡ g k) → each_below f n ≡ each_below g n
each_below-same f g zero same = refl
each_below-same {A} f g (suc n) same = ap₂ (λ (xs ys : List A). xs ++ ys) (each_below-same f g n (λ k l. same k (omega arith))) (same n (omega arith))

pub filter-each_below : {A : Type 0} (p : A → Bool) (piece : ℕ → List A) (n : ℕ) → filter p (each_below piece n) ≡ each_below (λ k. filter p (piece k)) n
filter-each_below p piece zero = refl
filter-each_below {A} p piece (suc n) = filter-append p (each_below piece n) (piece n) ∙ ap (λ (xs : List A). xs ++ filter p (piece n)) (filter-each_below p piece n)

pub filter-filter : {A : Type 0} (p q : A → Bool) (xs : List A) → filter p (filter q xs) ≡ filter (λ x. p x && q x) xs
filter-filter p q [] = refl
filter-filter {A} p q (x ∷ xs) = step (p x) (q x) (filter-filter p q xs) refl
  where
    step : (b c : Bool) → filter p (filter q xs) ≡ filter (λ y. p y && q y) xs → p x ≡ b
        → filter p (cond c (x ∷ filter q xs) (filter q xs)) ≡ cond (b && c) (x ∷ filter (λ y. p y && q y) xs) (filter (λ y. p y && q y) xs)
    step true true rest here = rw (here) (ap (λ (ys : List A). x ∷ ys) rest)
    step true false rest here = rest
    step false true rest here = rw (here) rest
    step false false rest here = rest

pub all-append : {X : Type 0} (p : X → Bool) (xs ys : List X) → list_all p xs ≡ true → list_all p ys ≡ true → list_all p (xs ++ ys) ≡ true
all-append p [] ys h k = k
all-append p (x ∷ xs) ys h k =
    let a = and_parts (p x) (list_all p xs) h in
    and_from (p x) (list_all p (xs ++ ys)) a.0 (all-append p xs ys a.1 k)

-- what holds of all holds of those that pass
pub all-filter : {X : Type 0} (p q : X → Bool) (xs : List X) → list_all p xs ≡ true → list_all p (filter q xs) ≡ true
all-filter p q [] all = refl
all-filter p q (x ∷ xs) all =
    let a = and_parts (p x) (list_all p xs) all in
    kept (q x) (all-filter p q xs a.1) a.0
  where
    kept : (b : Bool) → list_all p (filter q xs) ≡ true → p x ≡ true → list_all p (cond b (x ∷ filter q xs) (filter q xs)) ≡ true
    kept true rest here = and_from (p x) (list_all p (filter q xs)) here rest
    kept false rest here = rest

-- and of all pieces of which each has it
pub all-each_below : {X : Type 0} (p : X → Bool) (piece : ℕ → List X) (n : ℕ) → ((k : ℕ) → k < n → list_all p (piece k) ≡ true) → list_all p (each_below piece n) ≡ true
all-each_below p piece zero h = refl
all-each_below p piece (suc n) h = all-append p (each_below piece n) (piece n) (all-each_below p piece n (λ k l. h k (omega arith))) (h n (omega arith))
