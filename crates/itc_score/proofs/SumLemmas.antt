-- Laws of sums over the numbers below a bound, of counts over lists and of pairs.
use Rattle.std.proofs.Common.{inl, inr, ℕ, ◌≡◌, ◌+◌, ◌-◌, ◌*◌, ◌<◌, ◌≤◌, arith, refl, sym, ◌∙◌, ap, ap₂, zero, suc, Bool, true, false, not, cond, ◌&&◌, ◌||◌, List, [], ◌∷◌, ◌++◌, add-one}
use Rattle.std.specs.Prelude.{◌==◌, nat_lt}
use Rattle.std.specs.List.{count_by, sum_by, list_any, list_all}
use Rattle.std.proofs.lemmas.Bool.{and_parts, cases_eq, eq-eqb, ltb-true, ne_eqb}
use Rattle.std.proofs.lemmas.List.Sums.{sum_by-cons, sum_by_push}
use Rattle.itc_score.specs.Sums.{sum_below, count_pairs}

pub sum_below-same : (f g : ℕ → ℕ) (n : ℕ) → ((i : ℕ) → i < n → f i ≡ g i) → sum_below f n ≡ sum_below g n
sum_below-same f g zero h = refl
sum_below-same f g (suc n) h = ap₂ (λ x y. x + y) (sum_below-same f g n (λ i l. h i (omega arith))) (h n (omega arith))

pub sum_below-more : (f : ℕ → ℕ) (n x : ℕ) → x ≡ f n → sum_below f (n + 1) ≡ sum_below f n + x
sum_below-more f n x e = rw (add-one, e) refl

pub sum_below-+ : (f g : ℕ → ℕ) (n : ℕ) → sum_below (λ i. f i + g i) n ≡ sum_below f n + sum_below g n
sum_below-+ f g zero = refl
sum_below-+ f g (suc n) = omega (arith, sum_below-+ f g n)

pub sum_below-zero : (f : ℕ → ℕ) (n : ℕ) → ((i : ℕ) → i < n → f i ≡ 0) → sum_below f n ≡ 0
sum_below-zero f zero h = refl
sum_below-zero f (suc n) h = omega (arith, sum_below-zero f n (λ i l. h i (omega arith)), h n (omega arith))

-- only one number has a value
pub sum_below-one : (v j n : ℕ) → j < n → sum_below (λ k. cond (j == k) v 0) n ≡ v
sum_below-one v j zero l = absurd (omega arith)
sum_below-one v j (suc n) l = elim (cases_eq j n) [
  | inl same ↦
      let none : sum_below (λ k. cond (j == k) v 0) n ≡ 0 = sum_below-zero (λ k. cond (j == k) v 0) n (λ i m. ap (λ t. cond t v 0) (ne_eqb j i (λ e. absurd (omega (arith, e, same))))) in
      let here : cond (j == n) v 0 ≡ v = ap (λ t. cond t v 0) (eq-eqb j n same) in
      omega (arith, none, here)
  | inr other ↦
      let rest : sum_below (λ k. cond (j == k) v 0) n ≡ v = sum_below-one v j n (omega arith) in
      let here : cond (j == n) v 0 ≡ 0 = ap (λ t. cond t v 0) (ne_eqb j n other) in
      omega (arith, rest, here)
]

pub sum_below-less : (f g : ℕ → ℕ) (n : ℕ) → ((i : ℕ) → i < n → g i ≤ f i) → sum_below (λ i. f i - g i) n + sum_below g n ≡ sum_below f n
sum_below-less f g zero h = refl
sum_below-less f g (suc n) h = omega (arith, sum_below-less f g n (λ i l. h i (omega arith)), h n (omega arith))

pub sum_below-bound : (f : ℕ → ℕ) (b n : ℕ) → ((i : ℕ) → i < n → f i ≤ b) → sum_below f n ≤ n * b
sum_below-bound f b zero h = omega arith
sum_below-bound f b (suc n) h = omega (arith, sum_below-bound f b n (λ i l. h i (omega arith)), h n (omega arith))

-- ---- counts over lists

pub count-cons : {X : Type 0} (p : X → Bool) (x : X) (xs : List X) → count_by p (x ∷ xs) ≡ cond (p x) 1 0 + count_by p xs
count-cons p x xs = sum_by-cons (λ y. cond (p y) 1 0) x xs

pub count-push : {X : Type 0} (p : X → Bool) (xs : List X) (x : X) → count_by p (xs ++ x ∷ []) ≡ count_by p xs + cond (p x) 1 0
count-push p xs x = sum_by_push (λ y. cond (p y) 1 0) xs x

pub sum_by-same : {X : Type 0} (f g : X → ℕ) (ok : X → Bool) (xs : List X) → list_all ok xs ≡ true → ((x : X) → ok x ≡ true → f x ≡ g x) → sum_by f xs ≡ sum_by g xs
sum_by-same f g ok [] all h = refl
sum_by-same f g ok (x ∷ xs) all h =
    let a = and_parts (ok x) (list_all ok xs) all in
    sum_by-cons f x xs ∙ ap₂ (λ m n. m + n) (h x a.0) (sum_by-same f g ok xs a.1 h) ∙ sym (sum_by-cons g x xs)

pub count-same : {X : Type 0} (p q : X → Bool) (ok : X → Bool) (xs : List X) → list_all ok xs ≡ true → ((x : X) → ok x ≡ true → p x ≡ q x) → count_by p xs ≡ count_by q xs
count-same p q ok xs all h = sum_by-same (λ x. cond (p x) 1 0) (λ x. cond (q x) 1 0) ok xs all (λ x k. ap (λ t. cond t 1 0) (h x k))

pub any-same : {X : Type 0} (p q : X → Bool) (ok : X → Bool) (xs : List X) → list_all ok xs ≡ true → ((x : X) → ok x ≡ true → p x ≡ q x) → list_any p xs ≡ list_any q xs
any-same p q ok [] all h = refl
any-same p q ok (x ∷ xs) all h =
    let a = and_parts (ok x) (list_all ok xs) all in
    ap₂ (λ s t. s || t) (h x a.0) (any-same p q ok xs a.1 h)

pub sum_by-+ : {X : Type 0} (f g : X → ℕ) (xs : List X) → sum_by (λ x. f x + g x) xs ≡ sum_by f xs + sum_by g xs
sum_by-+ f g [] = refl
sum_by-+ f g (x ∷ xs) = omega (arith, sum_by-cons (λ y. f y + g y) x xs, sum_by-cons f x xs, sum_by-cons g x xs, sum_by-+ f g xs)

-- ---- a count, by the numbers that the elements have

one_place : (p t same : Bool) (rest : ℕ) → ◌≡◌ {A = ℕ} (cond t (cond (p && same) 1 0 + rest) 0) (cond same (cond (p && t) 1 0) 0 + cond t rest 0)
one_place true true true rest = refl
one_place true true false rest = refl
one_place true false true rest = refl
one_place true false false rest = refl
one_place false true true rest = refl
one_place false true false rest = refl
one_place false false true rest = refl
one_place false false false rest = refl

-- those that pass, and whose number passes, are counted number by number
pub count-split : {X : Type 0} (p : X → Bool) (number : X → ℕ) (t : ℕ → Bool) (n : ℕ) (xs : List X) → list_all (λ x. nat_lt (number x) n) xs ≡ true
    → sum_below (λ k. cond (t k) (count_by (λ x. p x && (number x == k)) xs) 0) n ≡ count_by (λ x. p x && t (number x)) xs
count-split p number t n [] all = sum_below-zero (λ k. cond (t k) 0 0) n (λ k l. none (t k))
  where
    none : (b : Bool) → ◌≡◌ {A = ℕ} (cond b 0 0) 0
    none true = refl
    none false = refl
count-split p number t n (x ∷ xs) all =
    let a = and_parts (nat_lt (number x) n) (list_all (λ y. nat_lt (number y) n) xs) all in
    let one : ℕ → ℕ = λ k. cond (number x == k) (cond (p x && t (number x)) 1 0) 0 in
    let rest : ℕ → ℕ = λ k. cond (t k) (count_by (λ y. p y && (number y == k)) xs) 0 in
    sum_below-same (λ k. cond (t k) (count_by (λ y. p y && (number y == k)) (x ∷ xs)) 0) (λ k. one k + rest k) n
    (λ k l. ap (λ c. cond (t k) c 0) (count-cons (λ y. p y && (number y == k)) x xs) ∙ one_place (p x) (t k) (number x == k) (count_by (λ y. p y && (number y == k)) xs) ∙ ap (λ c. c + rest k) (at_place k))
    ∙ sum_below-+ one rest n
    ∙ ap₂ (λ c d. c + d) (sum_below-one (cond (p x && t (number x)) 1 0) (number x) n (ltb-true (number x) n a.0)) (count-split p number t n xs a.1)
    ∙ sym (count-cons (λ y. p y && t (number y)) x xs)
  where
    at_place : (k : ℕ) → ◌≡◌ {A = ℕ} (cond (number x == k) (cond (p x && t k) 1 0) 0) (cond (number x == k) (cond (p x && t (number x)) 1 0) 0)
    at_place k = elim (cases_eq (number x) k) [
      | inl same ↦ ap (λ m. cond (number x == k) (cond (p x && t m) 1 0) 0) (sym same)
      | inr other ↦ rw (ne_eqb (number x) k other) refl
    ]

-- ---- pairs

pub sum_by-all : {X : Type 0} (f g : X → ℕ) (xs : List X) → ((x : X) → f x ≡ g x) → sum_by f xs ≡ sum_by g xs
sum_by-all f g [] h = refl
sum_by-all f g (x ∷ xs) h = sum_by-cons f x xs ∙ ap₂ (λ m n. m + n) (h x) (sum_by-all f g xs h) ∙ sym (sum_by-cons g x xs)

-- each element with all, where the relation goes both ways and never from an element to itself: each pair is counted twice
pub pairs-twice : {X : Type 0} (r : X → X → Bool) (xs : List X) → ((x : X) → r x x ≡ false) → ((x y : X) → r x y ≡ r y x) → sum_by (λ x. count_by (r x) xs) xs ≡ 2 * count_pairs r xs
pairs-twice r [] none both = refl
pairs-twice r (x ∷ xs) none both =
    let nothing : ◌≡◌ {A = ℕ} (cond (r x x) 1 0) 0 = ap (λ t. cond t 1 0) (none x) in
    let self : count_by (r x) (x ∷ xs) ≡ count_by (r x) xs = omega (arith, count-cons (r x) x xs, nothing) in
    let rest : sum_by (λ y. count_by (r y) (x ∷ xs)) xs ≡ count_by (r x) xs + sum_by (λ y. count_by (r y) xs) xs =
    sum_by-all (λ y. count_by (r y) (x ∷ xs)) (λ y. cond (r x y) 1 0 + count_by (r y) xs) xs (λ y. count-cons (r y) x xs ∙ ap (λ t. cond t 1 0 + count_by (r y) xs) (both y x))
    ∙ sum_by-+ (λ y. cond (r x y) 1 0) (λ y. count_by (r y) xs) xs in
    let all : sum_by (λ y. count_by (r y) (x ∷ xs)) (x ∷ xs) ≡ count_by (r x) (x ∷ xs) + sum_by (λ y. count_by (r y) (x ∷ xs)) xs = sum_by-cons (λ y. count_by (r y) (x ∷ xs)) x xs in
    let before : sum_by (λ y. count_by (r y) xs) xs ≡ 2 * count_pairs r xs = pairs-twice r xs none both in
    omega (arith, all, self, rest, before)

pub pairs-push : {X : Type 0} (r : X → X → Bool) (xs : List X) (x : X) → count_pairs r (xs ++ x ∷ []) ≡ count_pairs r xs + count_by (λ y. r y x) xs
pairs-push r [] x = refl
pairs-push r (y ∷ xs) x = omega (arith, count-push (r y) xs x, pairs-push r xs x, count-cons (λ z. r z x) y xs)

none-case : (b : Bool) (others : Bool) (n : ℕ) → not others ≡ (n == 0) → not (b || others) ≡ (cond b 1 0 + n == 0)
none-case true others n h = sym (ne_eqb (1 + n) 0 (λ e. absurd (omega (arith, e))))
none-case false others n h = h ∙ ap (λ m. m == 0) (let e : n ≡ 0 + n = omega arith in e)

pub any-none : {X : Type 0} (p : X → Bool) (xs : List X) → not (list_any p xs) ≡ (count_by p xs == 0)
any-none p [] = refl
any-none p (x ∷ xs) = none-case (p x) (list_any p xs) (count_by p xs) (any-none p xs) ∙ sym (ap (λ n. n == 0) (count-cons p x xs))

or-swap : (a b c d : Bool) → ((a || b) || (c || d)) ≡ ((a || c) || (b || d))
or-swap true b c d = refl
or-swap false true true d = refl
or-swap false true false d = refl
or-swap false false c d = refl

pub any-or : {X : Type 0} (p q : X → Bool) (xs : List X) → list_any (λ x. p x || q x) xs ≡ (list_any p xs || list_any q xs)
any-or p q [] = refl
any-or p q (x ∷ xs) = ap (λ t. (p x || q x) || t) (any-or p q xs) ∙ or-swap (p x) (q x) (list_any p xs) (list_any q xs)
