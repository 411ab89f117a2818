-- Lists to which an element was added, or in which one was changed.
use Rattle.std.proofs.Common.{ℕ, ◌≡◌, ◌<◌, refl, sym, ap, zero, suc, List, [], ◌∷◌, ◌++◌, length, get_or, set, arith, length-append}
use Rattle.exact_num.specs.Q.{ℚ}
use Rattle.simplex_tableau.specs.Dense.{num}
use Rattle.simplex_tableau.proofs.DenseLaws.{num-get}

pub get_or-end : {A : Type 0} (xs : List A) (x d : A) → get_or (xs ++ x ∷ []) (length xs) d ≡ x
get_or-end [] x d = refl
get_or-end (y ∷ xs) x d = get_or-end xs x d

pub get_or-front : {A : Type 0} (xs : List A) (x d : A) (j : ℕ) → j < length xs → get_or (xs ++ x ∷ []) j d ≡ get_or xs j d
get_or-front [] x d j l = absurd (omega (arith, l))
get_or-front (y ∷ xs) x d zero l = refl
get_or-front (y ∷ xs) x d (suc j) l = get_or-front xs x d j (omega (arith, l))

pub num-end : {N : Type 0} (value : N → ℚ) (xs : List N) (x : N) → num value (xs ++ x ∷ []) (length xs) ≡ value x
num-end value xs x =
    let l : length xs < length (xs ++ x ∷ []) = let e = length-append xs (x ∷ []) in omega arith in
    num-get value (xs ++ x ∷ []) (length xs) x l (sym (get_or-end xs x x))

pub num-front : {N : Type 0} (value : N → ℚ) (xs : List N) (x : N) (j : ℕ) → j < length xs → num value (xs ++ x ∷ []) j ≡ num value xs j
num-front value [] x j l = absurd (omega (arith, l))
num-front value (y ∷ xs) x zero l = refl
num-front value (y ∷ xs) x (suc j) l = num-front value xs x j (omega (arith, l))

pub set_twice : {A : Type 0} (xs : List A) (i : ℕ) (a b : A) → set (set xs i a) i b ≡ set xs i b
set_twice [] i a b = refl
set_twice (x ∷ xs) zero a b = refl
set_twice (x ∷ xs) (suc i) a b = ap (λ ys. x ∷ ys) (set_twice xs i a b)
