-- Lists, tests and pieces of a text.
use Rattle.std.proofs.Common.{ℕ, ◌≡◌, ◌+◌, ◌<◌, arith, refl, sym, ◌∙◌, ap, ap₂, zero, suc, add-one, List, [], ◌∷◌, ◌++◌, Bool, true, false, cond}
use Rattle.std.specs.List.{filter, list_all}
use Rattle.std.proofs.lemmas.Bool.{and_parts, and_from}
use Rattle.std.proofs.lemmas.List.{append_assoc}
use Rattle.week_page.specs.Lists.{each_below}

-- ---- one piece more

pub more : (b0 b1 b2 l m : List ℕ) → b1 ≡ b0 ++ l → b2 ≡ b1 ++ m → b2 ≡ b0 ++ (l ++ m)
more b0 b1 b2 l m d e = e ∙ ap (λ b. b ++ m) d ∙ append_assoc b0 l m

-- ---- pieces of each number

pub each_below_more : (piece : ℕ → List ℕ) (n : ℕ) → each_below piece (n + 1) ≡ each_below piece n ++ piece n
each_below_more piece n = rw (add-one) refl

pub each_below-same : (f g : ℕ → List ℕ) (n : ℕ) → ((k : ℕ) → k < n → f k ≡ g k) → each_below f n ≡ each_below g n
each_below-same f g zero same = refl
each_below-same f g (suc n) same = ap₂ (λ (xs ys : List ℕ). xs ++ ys) (each_below-same f g n (λ k l. same k (omega arith))) (same n (omega arith))

-- ---- tests

pub same_test : (b c : Bool) → (b ≡ true → c ≡ true) → (c ≡ true → b ≡ true) → b ≡ c
same_test true c f g = sym (f refl)
same_test false true f g = g refl
same_test false false f g = refl

pub all-same : {X : Type 0} (p q : X → Bool) (xs : List X) → ((x : X) → p x ≡ true → q x ≡ true) → list_all p xs ≡ true → list_all q xs ≡ true
all-same p q [] h all = refl
all-same p q (x ∷ xs) h all =
    let a = and_parts (p x) (list_all p xs) all in
    and_from (q x) (list_all q xs) (h x a.0) (all-same p q xs h a.1)

-- what holds of all holds of those that pass
pub all-filter : {X : Type 0} (p q : X → Bool) (xs : List X) → list_all p xs ≡ true → list_all p (filter q xs) ≡ true
all-filter p q [] all = refl
all-filter p q (x ∷ xs) all =
    let a = and_parts (p x) (list_all p xs) all in
    kept (q x) (all-filter p q xs a.1) a.0
  where
    kept : (b : Bool) → list_all p (filter q xs) ≡ true → p x ≡ true → list_all p (cond b (x ∷ filter q xs) (filter q xs)) ≡ true
    kept true rest here = and_from (p x) (list_all p (filter q xs)) here rest
    kept false rest here = rest

-- two tests that agree on all of a list keep the same
pub filter-same : {X : Type 0} (known p q : X → Bool) (xs : List X) → ((x : X) → known x ≡ true → p x ≡ q x) → list_all known xs ≡ true → filter p xs ≡ filter q xs
filter-same known p q [] same all = refl
filter-same known p q (x ∷ xs) same all =
    let a = and_parts (known x) (list_all known xs) all in
    ap₂ (λ b ys. cond b (x ∷ ys) ys) (same x a.0) (filter-same known p q xs same a.1)
