-- The numbers that pass a test, in order: how many there are, and which is where.
use Rattle.std.proofs.Common.{ℕ, ◌≡◌, ◌+◌, ◌<◌, ◌≤◌, inl, inr, zero, suc, Bool, true, false, ◌&&◌, ◌||◌, refl, arith, ap, sym, ◌∙◌, add-one, List, [], ◌∷◌, ◌++◌, length, get_or, take, map, append_assoc}
use Rattle.std.specs.List.{list_any, AllByRecursion}
use Rattle.std.proofs.lemmas.List.{length_push, get_or_append_left, get_or_push, take_all, take-append-le, append-nil, map-append}
use Rattle.std.proofs.lemmas.List.Folds.{list_any-append}
use Rattle.std.proofs.lemmas.Bool.{cases_eq, cases_Bool}
use Rattle.numbers.specs.Below.{any_below}
use Rattle.problem_core.specs.Courses.{passing}

pub passing-hit : (test : ℕ → Bool) (n : ℕ) → test n ≡ true → passing test (n + 1) ≡ passing test n ++ n ∷ []
passing-hit test n h = rw (add-one, h) refl

pub passing-miss : (test : ℕ → Bool) (n : ℕ) → test n ≡ false → passing test (n + 1) ≡ passing test n
passing-miss test n h = rw (add-one, h) refl

pub passing-few : (test : ℕ → Bool) (n : ℕ) → length (passing test n) ≤ n
passing-few test zero = omega arith
passing-few test (suc n) = elim (cases_Bool (test n)) [
  | inl hit ↦ rw hit (omega (arith, length_push (passing test n) n, passing-few test n))
  | inr miss ↦ rw miss (omega (arith, passing-few test n))
]

-- two tests that agree
pub passing-same : (f g : ℕ → Bool) (n : ℕ) → ((i : ℕ) → i < n → f i ≡ g i) → passing f n ≡ passing g n
passing-same f g zero h = refl
passing-same f g (suc n) h =
    let rest = passing-same f g n (λ i l. h i (omega arith)) in
    rw (h n (omega arith), rest) refl

-- what passes below a sum
pub passing-add : (test : ℕ → Bool) (a b : ℕ) → passing test (a + b) ≡ passing test a ++ map (λ i. a + i) (passing (λ i. test (a + i)) b)
passing-add test a zero = let e : a + 0 ≡ a = omega arith in ap (passing test) e ∙ sym (append-nil (passing test a))
passing-add test a (suc b) =
    let e : a + suc b ≡ suc (a + b) = omega arith in
    let front = passing-add test a b in
    let back = passing (λ i. test (a + i)) b in
    ap (passing test) e ∙ elim (cases_Bool (test (a + b))) [
      | inl hit ↦ rw hit (
          ap (λ xs. xs ++ (a + b) ∷ []) front
          ∙ append_assoc (passing test a) (map (λ i. a + i) back) ((a + b) ∷ [])
          ∙ ap (λ ys. passing test a ++ ys) (sym (map-append (λ i. a + i) back (b ∷ []))))
      | inr miss ↦ rw miss front
    ]

-- what passes below m is the front of what passes below n
pub passing-take : (test : ℕ → Bool) (m n : ℕ) → m ≤ n → take (length (passing test m)) (passing test n) ≡ passing test m
passing-take test m zero l = let e : m ≡ 0 = omega arith in rw e refl
passing-take test m (suc n) l = elim (cases_eq m (suc n)) [
  | inl same ↦ rw same (take_all (length (passing test (suc n))) (passing test (suc n)) (omega arith))
  | inr less ↦
      let rest = passing-take test m n (omega arith) in
      let few : length (passing test m) ≤ length (passing test n) = passing-le test m n (omega arith) in
      elim (cases_Bool (test n)) [
        | inl hit ↦ rw hit (take-append-le (length (passing test m)) (passing test n) (n ∷ []) few ∙ rest)
        | inr miss ↦ rw miss rest
      ]
]
  where
    passing-le : (test : ℕ → Bool) (m n : ℕ) → m ≤ n → length (passing test m) ≤ length (passing test n)
    passing-le test m zero l = let e : m ≡ 0 = omega arith in rw e (omega arith)
    passing-le test m (suc n) l = elim (cases_eq m (suc n)) [
      | inl same ↦ rw same (omega arith)
      | inr less ↦
          let rest = passing-le test m n (omega arith) in
          elim (cases_Bool (test n)) [
            | inl hit ↦ rw hit (omega (arith, length_push (passing test n) n, rest))
            | inr miss ↦ rw miss rest
          ]
    ]

-- a number that passes has fewer before it than pass in all
pub passing-before : (test : ℕ → Bool) (m n : ℕ) → m < n → test m ≡ true → length (passing test m) < length (passing test n)
passing-before test m zero l h = absurd (omega arith)
passing-before test m (suc n) l h = elim (cases_eq m n) [
  | inl same ↦ let hit : test n ≡ true = ap test (sym same) ∙ h in rw (hit, same) (omega (arith, length_push (passing test n) n))
  | inr less ↦
      let rest = passing-before test m n (omega arith) h in
      elim (cases_Bool (test n)) [
        | inl hit ↦ rw hit (omega (arith, length_push (passing test n) n, rest))
        | inr miss ↦ rw miss rest
      ]
]

-- a test on those that pass is one on all
pub any_passing : (test more : ℕ → Bool) (n : ℕ) → list_any more (passing test n) ≡ any_below (λ e. test e && more e) n
any_passing test more zero = refl
any_passing test more (suc n) = elim (cases_Bool (test n)) [
  | inl hit ↦ rw hit (list_any-append more (passing test n) (n ∷ []) ∙ or_last (list_any more (passing test n)) (more n) (any_below (λ e. test e && more e) n) (any_passing test more n))
  | inr miss ↦ rw miss (any_passing test more n)
]
  where
    or_last : (x y z : Bool) → x ≡ z → (x || (y || false)) ≡ (y || z)
    or_last true true z e = refl
    or_last true false z e = e
    or_last false true z e = refl
    or_last false false z e = e

-- and each of them is below the bound
pub passing-below : (test : ℕ → Bool) (n m : ℕ) → n ≤ m → AllByRecursion (λ e. e < m) (passing test n)
passing-below test zero m l = tt
passing-below test (suc n) m l = elim (cases_Bool (test n)) [
  | inl hit ↦ rw hit (each-push (λ e. e < m) (passing test n) n (passing-below test n m (omega arith)) (omega arith))
  | inr miss ↦ rw miss (passing-below test n m (omega arith))
]
  where
    each-push : (P : ℕ → Type 0) (xs : List ℕ) (y : ℕ) → AllByRecursion P xs → P y → AllByRecursion P (xs ++ y ∷ [])
    each-push P [] y h k = (k, tt)
    each-push P (x ∷ xs) y h k = (h.0, each-push P xs y h.1 k)

-- ---- the j-th of the numbers that pass

pub record IsNth (test : ℕ → Bool) (n j e : ℕ) : Type 0 where
  pub below : e < n
  pub passes : test e ≡ true
  pub place : length (passing test e) ≡ j

pub nth_is : (test : ℕ → Bool) (n j : ℕ) → j < length (passing test n) → IsNth test n j (get_or (passing test n) j 0)
nth_is test zero j l = absurd (omega arith)
nth_is test (suc n) j l = elim (cases_Bool (test n)) [
  | inr miss ↦ let rest = nth_is test n j (rw miss at l) in rw miss (record { below = omega (arith, rest.below); passes = rest.passes; place = rest.place })
  | inl hit ↦
      let l' : j < length (passing test n ++ n ∷ []) = rw hit at l in
      elim (cases_eq j (length (passing test n))) [
        | inl last ↦
            let e : get_or (passing test n ++ n ∷ []) j 0 ≡ n = get_or_push (passing test n) n 0 j (sym last) in
            rw (hit, e) (record { below = omega arith; passes = hit; place = sym last })
        | inr before ↦
            let m : j < length (passing test n) = omega (arith, l', length_push (passing test n) n) in
            let rest = nth_is test n j m in
            let e : get_or (passing test n ++ n ∷ []) j 0 ≡ get_or (passing test n) j 0 = get_or_append_left (passing test n) (n ∷ []) 0 j m in
            rw (hit, e) (record { below = omega (arith, rest.below); passes = rest.passes; place = rest.place })
      ]
]

-- a number that passes stands at its place
pub at_place : (test : ℕ → Bool) (n e : ℕ) → e < n → test e ≡ true → (length (passing test e) < length (passing test n)) × (get_or (passing test n) (length (passing test e)) 0 ≡ e)
at_place test zero e l h = absurd (omega arith)
at_place test (suc n) e l h = elim (cases_eq e n) [
  | inl same ↦
      let hit : test n ≡ true = ap test (sym same) ∙ h in
      rw (hit, same) (omega (arith, length_push (passing test n) n), get_or_push (passing test n) n 0 (length (passing test n)) refl)
  | inr less ↦
      let rest = at_place test n e (omega arith) h in
      elim (cases_Bool (test n)) [
        | inr miss ↦ rw miss rest
        | inl hit ↦ rw hit (omega (arith, rest.0, length_push (passing test n) n), get_or_append_left (passing test n) (n ∷ []) 0 (length (passing test e)) rest.0 ∙ rest.1)
      ]
]
