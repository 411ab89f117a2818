-- Lists that are given index by index.
use Rattle.std.proofs.Common.{ℕ, zero, suc, ◌≡◌, ◌+◌, ◌<◌, inl, inr, Bool, true, false, not, cond, refl, arith, ap, sym, ◌∙◌, List, [], ◌∷◌, ◌++◌, length, get_or, map, add-one, append_assoc}
use Rattle.std.specs.List.{list_all, list_any, flat_map, count_by}
use Rattle.std.proofs.lemmas.Bool.{cases_eq, and_parts, and_from, not-true}
use Rattle.std.proofs.lemmas.List.{length_push, get_or_push, get_or_append_left, map_push, flat_map_more, get_or-map, length-map}
use Rattle.std.proofs.lemmas.List.Sums.{sum_by-append}
use Rattle.measure_file.specs.Promised.{all_pairs}
use Rattle.demo_files.specs.Generator.{indices}

pub length-indices : (n : ℕ) → length (indices n) ≡ n
length-indices zero = refl
length-indices (suc n) = omega (arith, length_push (indices n) n, length-indices n)

pub index-at : (n i d : ℕ) → i < n → get_or (indices n) i d ≡ i
index-at zero i d l = absurd (omega arith)
index-at (suc n) i d l = elim (cases_eq i n) [
  | inl same ↦ get_or_push (indices n) n d i (length-indices n ∙ sym same) ∙ sym same
  | inr other ↦
      let before : i < n = omega arith in
      let there : i < length (indices n) = omega (arith, before, length-indices n) in
      get_or_append_left (indices n) (n ∷ []) d i there ∙ index-at n i d before
]

pub length-mapped : {A : Type 0} (f : ℕ → A) (n : ℕ) → length (map f (indices n)) ≡ n
length-mapped f n = length-map (indices n) f ∙ length-indices n

pub mapped-at : {A : Type 0} (f : ℕ → A) (n i : ℕ) (d : A) → i < n → get_or (map f (indices n)) i d ≡ f i
mapped-at f n i d l =
    let there : i < length (indices n) = omega (arith, l, length-indices n) in
    get_or-map f (indices n) i 0 d there ∙ ap f (index-at n i 0 l)

pub joined-more : {A : Type 0} (f : ℕ → List A) (n : ℕ) → flat_map f (indices (suc n)) ≡ flat_map f (indices n) ++ f n
joined-more f n = sym (flat_map_more f [] (indices n) n)

-- one step of a counter
pub mapped_more : {A : Type 0} (f : ℕ → A) (n : ℕ) → map f (indices (n + 1)) ≡ map f (indices n) ++ f n ∷ []
mapped_more f n = rw add-one (map_push f (indices n) n)

pub joined_more : {A : Type 0} (f : ℕ → List A) (n : ℕ) → flat_map f (indices (n + 1)) ≡ flat_map f (indices n) ++ f n
joined_more f n = rw add-one (joined-more f n)

pub appended_more : {A : Type 0} (f : ℕ → A) (front : List A) (n : ℕ) → front ++ map f (indices (n + 1)) ≡ (front ++ map f (indices n)) ++ f n ∷ []
appended_more f front n = ap (λ xs. front ++ xs) (mapped_more f n) ∙ sym (append_assoc front (map f (indices n)) (f n ∷ []))

pub all-append : {A : Type 0} (test : A → Bool) (xs ys : List A) → list_all test xs ≡ true → list_all test ys ≡ true → list_all test (xs ++ ys) ≡ true
all-append test [] ys h k = k
all-append test (x ∷ xs) ys h k = let p = and_parts (test x) (list_all test xs) h in and_from (test x) (list_all test (xs ++ ys)) p.0 (all-append test xs ys p.1 k)

pub all-at : {A : Type 0} (test : A → Bool) (f : ℕ → A) (n : ℕ) → ((i : ℕ) → i < n → test (f i) ≡ true) → list_all test (map f (indices n)) ≡ true
all-at test f zero h = refl
all-at test f (suc n) h =
    ap (list_all test) (map_push f (indices n) n)
    ∙ all-append test (map f (indices n)) (f n ∷ []) (all-at test f n (λ i l. h i (omega arith))) (and_from (test (f n)) true (h n (omega arith)) refl)

pub all-in : {A : Type 0} (test : A → Bool) (f : ℕ → List A) (n : ℕ) → ((i : ℕ) → i < n → list_all test (f i) ≡ true) → list_all test (flat_map f (indices n)) ≡ true
all-in test f zero h = refl
all-in test f (suc n) h =
    ap (list_all test) (joined-more f n)
    ∙ all-append test (flat_map f (indices n)) (f n) (all-in test f n (λ i l. h i (omega arith))) (h n (omega arith))

pub pairs-append : {A : Type 0} (test : A → A → Bool) (xs ys : List A) → all_pairs test xs ≡ true → all_pairs test ys ≡ true → list_all (λ x. list_all (test x) ys) xs ≡ true → all_pairs test (xs ++ ys) ≡ true
pairs-append test [] ys h k c = k
pairs-append test (x ∷ xs) ys h k c =
    let p = and_parts (list_all (test x) xs) (all_pairs test xs) h in
    let q = and_parts (list_all (test x) ys) (list_all (λ x. list_all (test x) ys) xs) c in
    and_from (list_all (test x) (xs ++ ys)) (all_pairs test (xs ++ ys)) (all-append (test x) xs ys p.0 q.0) (pairs-append test xs ys p.1 k q.1)

pub pairs-at : {A : Type 0} (test : A → A → Bool) (f : ℕ → A) (n : ℕ) → ((i j : ℕ) → i < j → j < n → test (f i) (f j) ≡ true) → all_pairs test (map f (indices n)) ≡ true
pairs-at test f zero h = refl
pairs-at test f (suc n) h =
    ap (all_pairs test) (map_push f (indices n) n)
    ∙ pairs-append test (map f (indices n)) (f n ∷ []) (pairs-at test f n (λ i j l k. h i j l (omega arith))) refl
    (all-at (λ x. list_all (test x) (f n ∷ [])) f n (λ i l. and_from (test (f i) (f n)) true (h i n l (omega arith)) refl))

pub pairs-in : {A : Type 0} (test : A → A → Bool) (f : ℕ → List A) (n : ℕ) → ((i : ℕ) → i < n → all_pairs test (f i) ≡ true)
    → ((i j : ℕ) → i < j → j < n → list_all (λ x. list_all (test x) (f j)) (f i) ≡ true) → all_pairs test (flat_map f (indices n)) ≡ true
pairs-in test f zero own across = refl
pairs-in test f (suc n) own across =
    ap (all_pairs test) (joined-more f n)
    ∙ pairs-append test (flat_map f (indices n)) (f n) (pairs-in test f n (λ i l. own i (omega arith)) (λ i j l k. across i j l (omega arith))) (own n (omega arith))
    (all-in (λ x. list_all (test x) (f n)) f n (λ i l. across i n l (omega arith)))

-- none of them passes
pub none-any : {A : Type 0} (test : A → Bool) (xs : List A) → list_all (λ x. not (test x)) xs ≡ true → not (list_any test xs) ≡ true
none-any test [] h = refl
none-any test (x ∷ xs) h = let p = and_parts (not (test x)) (list_all (λ y. not (test y)) xs) h in rw (not-true (test x) p.0) (none-any test xs p.1)

pub count-append : {A : Type 0} (test : A → Bool) (xs ys : List A) → count_by test (xs ++ ys) ≡ count_by test xs + count_by test ys
count-append test xs ys = sum_by-append (λ x. cond (test x) 1 0) xs ys

-- a test that answers the same of each of them
pub count-alike : {A : Type 0} (test : A → Bool) (b : Bool) (f : ℕ → A) (n : ℕ) → ((i : ℕ) → test (f i) ≡ b) → count_by test (map f (indices n)) ≡ cond b n 0
count-alike test true f zero h = refl
count-alike test false f zero h = refl
count-alike test true f (suc n) h =
    let one : count_by test (f n ∷ []) ≡ 1 = rw (h n) refl in
    ap (count_by test) (map_push f (indices n) n) ∙ omega (arith, count-append test (map f (indices n)) (f n ∷ []), one, count-alike test true f n h)
count-alike test false f (suc n) h =
    let none : count_by test (f n ∷ []) ≡ 0 = rw (h n) refl in
    ap (count_by test) (map_push f (indices n) n) ∙ omega (arith, count-append test (map f (indices n)) (f n ∷ []), none, count-alike test false f n h)
