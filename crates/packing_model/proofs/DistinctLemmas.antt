-- Lists of different numbers, and what stands in lists that are joined.
use Rattle.std.proofs.Common.{ℕ, ◌≡◌, ◌+◌, ◌<◌, ◌≤◌, inl, inr, zero, suc, Bool, true, false, not, ◌||◌, refl, arith, ap, ap₂, sym, ◌∙◌, List, [], ◌∷◌, ◌++◌, length, map}
use Rattle.std.specs.Prelude.{◌==◌, pos, ◌≤ℤ◌, nat_lt}
use Rattle.std.specs.List.{list_any, list_all, flat_map}
use Rattle.std.proofs.lemmas.Int.{ints}
use Rattle.std.proofs.lemmas.Bool.{cases_eq, cases_Bool, and_parts, and_from, or_left, or_right, not_from_false, not-true, eq-eqb, eqb-true, ne_eqb, true≢false, lt-ltb}
use Rattle.numbers.specs.Sums.{member, distinct, sum_below, sum_below-le, picked, total, value-member}
use Rattle.numbers.specs.Below.{any_below}
use Rattle.problem_core.specs.Below.{any_below_none}
use Rattle.problem_core.specs.Facts.{run_of}
use Rattle.problem_core.specs.Courses.{passing}

or_assoc : (a b c : Bool) → (a || (b || c)) ≡ ((a || b) || c)
or_assoc true b c = refl
or_assoc false b c = refl

pub or_none : (a : Bool) → (a || false) ≡ a
or_none true = refl
or_none false = refl

-- ---- what stands in a list

pub member-append : (k : ℕ) (xs ys : List ℕ) → member k (xs ++ ys) ≡ (member k xs || member k ys)
member-append k [] ys = refl
member-append k (x ∷ xs) ys = ap (λ b. (x == k) || b) (member-append k xs ys) ∙ or_assoc (x == k) (member k xs) (member k ys)

pub member-any : (k : ℕ) (xs : List ℕ) → member k xs ≡ list_any (λ q. q == k) xs
member-any k [] = refl
member-any k (x ∷ xs) = ap (λ b. (x == k) || b) (member-any k xs)

pub member-flat : (k : ℕ) (f : ℕ → List ℕ) (xs : List ℕ) → member k (flat_map f xs) ≡ list_any (λ e. member k (f e)) xs
member-flat k f [] = refl
member-flat k f (x ∷ xs) = member-append k (f x) (flat_map f xs) ∙ ap (λ b. member k (f x) || b) (member-flat k f xs)

-- what stands in one of the lists
pub flat_member : (k : ℕ) (f : ℕ → List ℕ) (xs : List ℕ) → member k (flat_map f xs) ≡ true → (e : ℕ) × (member e xs ≡ true) × (member k (f e) ≡ true)
flat_member k f [] h = absurd (true≢false (sym h))
flat_member k f (x ∷ xs) h = elim (cases_Bool (member k (f x))) [
  | inl hit ↦ (x, or_left (x == x) (member x xs) (eq-eqb x x refl), hit)
  | inr miss ↦
      let rest = flat_member k f xs (sym (member-append k (f x) (flat_map f xs) ∙ ap (λ b. b || member k (flat_map f xs)) miss) ∙ h) in
      (rest.0, or_right (x == rest.0) (member rest.0 xs) rest.1, rest.2)
]

-- only one of the numbers may pass
pub any_below-one : (test : ℕ → Bool) (k n : ℕ) → k < n → ((e : ℕ) → e < n → (e ≡ k → ⊥) → test e ≡ false) → any_below test n ≡ test k
any_below-one test k zero l h = absurd (omega arith)
any_below-one test k (suc n) l h = elim (cases_eq k n) [
  | inl same ↦
      let none : any_below test n ≡ false = any_below_none test n (λ e m. h e (omega arith) (λ q. absurd (omega arith))) in
      ap (λ b. test n || b) none ∙ or_none (test n) ∙ ap test (sym same)
  | inr other ↦
      let last : test n ≡ false = h n (omega arith) (λ q. other (sym q)) in
      ap (λ b. b || any_below test n) last ∙ any_below-one test k n (omega arith) (λ e m. h e (omega arith))
]

pub any_below-same : (f g : ℕ → Bool) (n : ℕ) → ((e : ℕ) → e < n → f e ≡ g e) → any_below f n ≡ any_below g n
any_below-same f g zero h = refl
any_below-same f g (suc n) h = ap₂ (λ a b. a || b) (h n (omega arith)) (any_below-same f g n (λ e l. h e (omega arith)))

pub passing_member : (test : ℕ → Bool) (n k : ℕ) → member k (passing test n) ≡ true → (k < n) × (test k ≡ true)
passing_member test zero k h = absurd (true≢false (sym h))
passing_member test (suc n) k h = elim (cases_Bool (test n)) [
  | inr miss ↦ let rest = passing_member test n k (rw miss at h) in (omega (arith, rest.0), rest.1)
  | inl hit ↦
      let h' : member k (passing test n ++ n ∷ []) ≡ true = rw hit at h in
      elim (cases_Bool (member k (passing test n))) [
        | inl before ↦ let rest = passing_member test n k before in (omega (arith, rest.0), rest.1)
        | inr after ↦
            let last : ((n == k) || false) ≡ true = sym (member-append k (passing test n) (n ∷ []) ∙ ap (λ b. b || ((n == k) || false)) after) ∙ h' in
            let same : n ≡ k = eqb-true n k (sym (or_none (n == k)) ∙ last) in
            (omega (arith, same), ap test (sym same) ∙ hit)
      ]
]

pub run_member : (s n t : ℕ) → member t (run_of s n) ≡ true → (s ≤ t) × (t < s + n)
run_member s zero t h = absurd (true≢false (sym h))
run_member s (suc n) t h = elim (cases_eq s t) [
  | inl same ↦ (omega (arith, same), omega (arith, same))
  | inr other ↦ let rest = run_member (s + 1) n t (sym (ap (λ b. b || member t (run_of (s + 1) n)) (ne_eqb s t other)) ∙ h) in (omega (arith, rest.0), omega (arith, rest.1))
]

-- a number stands where it is mapped to
pub member-map : (f : ℕ → ℕ) → ((a b : ℕ) → f a ≡ f b → a ≡ b) → (k : ℕ) (xs : List ℕ) → member (f k) (map f xs) ≡ member k xs
member-map f one k [] = refl
member-map f one k (x ∷ xs) = ap₂ (λ a b. a || b) (same_test (f x) (f k) x k (one x k) (λ e. ap f e)) (member-map f one k xs)
  where
    same_test : (a b c d : ℕ) → (a ≡ b → c ≡ d) → (c ≡ d → a ≡ b) → (a == b) ≡ (c == d)
    same_test a b c d to from = elim (cases_eq c d) [
      | inl same ↦ eq-eqb a b (from same) ∙ sym (eq-eqb c d same)
      | inr differ ↦ ne_eqb a b (λ e. differ (to e)) ∙ sym (ne_eqb c d differ)
    ]

-- and nothing else does
pub map_member : (f : ℕ → ℕ) (k : ℕ) (xs : List ℕ) → ((x : ℕ) → member x xs ≡ true → f x ≡ k → ⊥) → member k (map f xs) ≡ false
map_member f k [] h = refl
map_member f k (x ∷ xs) h =
    ap₂ (λ a b. a || b) (ne_eqb (f x) k (h x (or_left (x == x) (member x xs) (eq-eqb x x refl))))
    (map_member f k xs (λ y m. h y (or_right (x == y) (member y xs) m)))

-- ---- different numbers

pub distinct-append : (xs ys : List ℕ) → distinct xs ≡ true → distinct ys ≡ true → ((k : ℕ) → member k xs ≡ true → member k ys ≡ false) → distinct (xs ++ ys) ≡ true
distinct-append [] ys d e h = e
distinct-append (x ∷ xs) ys d e h =
    let parts = and_parts (not (member x xs)) (distinct xs) d in
    and_from (not (member x (xs ++ ys))) (distinct (xs ++ ys))
    (not_from_false (member x (xs ++ ys)) (member-append x xs ys ∙ ap₂ (λ a b. a || b) (not-true (member x xs) parts.0) (h x (or_left (x == x) (member x xs) (eq-eqb x x refl)))))
    (distinct-append xs ys parts.1 e (λ k m. h k (or_right (x == k) (member k xs) m)))

pub distinct-passing : (test : ℕ → Bool) (n : ℕ) → distinct (passing test n) ≡ true
distinct-passing test zero = refl
distinct-passing test (suc n) = elim (cases_Bool (test n)) [
  | inr miss ↦ rw miss (distinct-passing test n)
  | inl hit ↦ rw hit (distinct-append (passing test n) (n ∷ []) (distinct-passing test n) refl
      (λ k m. ap (λ b. b || false) (ne_eqb n k (λ e. absurd (omega (arith, e, (passing_member test n k m).0))))))
]

pub distinct-run : (s n : ℕ) → distinct (run_of s n) ≡ true
distinct-run s zero = refl
distinct-run s (suc n) = and_from (not (member s (run_of (s + 1) n))) (distinct (run_of (s + 1) n)) (not_from_false (member s (run_of (s + 1) n)) first) (distinct-run (s + 1) n)
  where
    first : member s (run_of (s + 1) n) ≡ false
    first = elim (cases_Bool (member s (run_of (s + 1) n))) [
      | inl hit ↦ absurd (omega (arith, (run_member (s + 1) n s hit).0))
      | inr miss ↦ miss
    ]

pub distinct-map : (f : ℕ → ℕ) → ((a b : ℕ) → f a ≡ f b → a ≡ b) → (xs : List ℕ) → distinct xs ≡ true → distinct (map f xs) ≡ true
distinct-map f one [] d = refl
distinct-map f one (x ∷ xs) d =
    let parts = and_parts (not (member x xs)) (distinct xs) d in
    and_from (not (member (f x) (map f xs))) (distinct (map f xs))
    (not_from_false (member (f x) (map f xs)) (member-map f one x xs ∙ not-true (member x xs) parts.0))
    (distinct-map f one xs parts.1)

-- lists of different numbers that have none in common
pub distinct-flat : (f : ℕ → List ℕ) (xs : List ℕ) → distinct xs ≡ true → ((e : ℕ) → member e xs ≡ true → distinct (f e) ≡ true)
    → ((k e g : ℕ) → member e xs ≡ true → member g xs ≡ true → member k (f e) ≡ true → member k (f g) ≡ true → e ≡ g) → distinct (flat_map f xs) ≡ true
distinct-flat f [] d each apart = refl
distinct-flat f (x ∷ xs) d each apart =
    let parts = and_parts (not (member x xs)) (distinct xs) d in
    let here = or_left (x == x) (member x xs) (eq-eqb x x refl) in
    distinct-append (f x) (flat_map f xs) (each x here)
    (distinct-flat f xs parts.1 (λ e m. each e (or_right (x == e) (member e xs) m)) (λ k e g m n. apart k e g (or_right (x == e) (member e xs) m) (or_right (x == g) (member g xs) n)))
    (λ k h. elim (cases_Bool (member k (flat_map f xs))) [
      | inr miss ↦ miss
      | inl hit ↦
          let w = flat_member k f xs hit in
          let same : x ≡ w.0 = apart k x w.0 here (or_right (x == w.0) (member w.0 xs) w.1) h w.2 in
          absurd (true≢false (sym w.1 ∙ ap (λ e. member e xs) (sym same) ∙ not-true (member x xs) parts.0))
    ])

-- ---- how many there are

all_below : (n : ℕ) (xs : List ℕ) → ((k : ℕ) → member k xs ≡ true → k < n) → list_all (λ p. nat_lt p n) xs ≡ true
all_below n [] h = refl
all_below n (x ∷ xs) h = and_from (nat_lt x n) (list_all (λ p. nat_lt p n) xs) (lt-ltb x n (h x (or_left (x == x) (member x xs) (eq-eqb x x refl)))) (all_below n xs (λ k m. h k (or_right (x == k) (member k xs) m)))

count_all : (xs : List ℕ) → total (λ (x : ℕ). pos 1) xs ≡ pos (length xs)
count_all [] = refl
count_all (x ∷ xs) = omega (arith, ints, count_all xs)

ones : (n : ℕ) → sum_below (λ _. pos 1) n ≡ pos n
ones zero = refl
ones (suc n) = omega (arith, ints, ones n)

at_most_one : (b : Bool) → picked b (pos 1) ≤ℤ pos 1
at_most_one true = omega (arith, ints)
at_most_one false = omega (arith, ints)

-- different numbers below n are at most n
pub few : (xs : List ℕ) (n : ℕ) → distinct xs ≡ true → ((k : ℕ) → member k xs ≡ true → k < n) → length xs ≤ n
few xs n d h =
    let all = value-member (λ (x : ℕ). pos 1) xs n d (all_below n xs h) in
    let less = sum_below-le (λ p. picked (member p xs) (pos 1)) (λ _. pos 1) n (λ i l. at_most_one (member i xs)) in
    omega (arith, ints, all, less, count_all xs, ones n)
