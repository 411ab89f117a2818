-- Each meeting stands once in the lists of the rooms and of those without a room.
use Rattle.std.proofs.Common.{ℕ, ◌≡◌, ◌≢◌, ◌+◌, ◌*◌, ◌<◌, ◌≤◌, inl, inr, arith, refl, sym, ◌∙◌, ap, ap₂, zero, suc, List, [], ◌∷◌, Bool, true, false, ◌&&◌, cond, length}
use Rattle.std.specs.Prelude.{◌==◌, nat_lt, count_by}
use Rattle.std.specs.List.{filter, list_all}
use Rattle.std.proofs.lemmas.Bool.{and_parts, cases_eq, cases_Bool, eq-eqb, ne_eqb}
use Rattle.std.proofs.lemmas.Bool.Decides.{nat_tests}
use Rattle.std.proofs.lemmas.List.Sums.{sum_by-cons, sum_by-append}
use Rattle.ctt_reader.specs.declared.instance.Instance.{Instance}
use Rattle.reports.specs.Rooms.{each_below, in_room, has_none, without_room}
use Rattle.reports.specs.Groups.{AreFit, is_fit}
use Rattle.reports.specs.Standing.{in_rooms, EachStandsOnce}
use Rattle.reports.specs.declared.session.Session.{Session}
use Rattle.reports.specs.declared.groups.Grouping.TheVariants.{ByEntry, BySlot}
use Rattle.reports.proofs.RoomLaws.{count-filter, sessions-fit}

abbrev one : Bool → ℕ
one b = cond b 1 0

count-two : {X : Type 0} (p q r : X → Bool) (xs : List X) → ((x : X) → cond (p x) 1 0 + cond (q x) 1 0 ≡ cond (r x) 1 0) → count_by p xs + count_by q xs ≡ count_by r xs
count-two p q r [] h = refl
count-two p q r (x ∷ xs) h =
    omega (arith, sum_by-cons (λ y. cond (p y) 1 0) x xs, sum_by-cons (λ y. cond (q y) 1 0) x xs, sum_by-cons (λ y. cond (r y) 1 0) x xs, h x, count-two p q r xs h)

count-same : {X : Type 0} (known p q : X → Bool) (xs : List X) → ((x : X) → known x ≡ true → p x ≡ q x) → list_all known xs ≡ true → count_by p xs ≡ count_by q xs
count-same known p q [] h all = refl
count-same known p q (x ∷ xs) h all =
    let a = and_parts (known x) (list_all known xs) all in
    let here : one (p x) ≡ one (q x) = ap one (h x a.0) in
    omega (arith, sum_by-cons (λ y. cond (p y) 1 0) x xs, sum_by-cons (λ y. cond (q y) 1 0) x xs, here, count-same known p q xs h a.1)

count-nothing : {X : Type 0} (p : X → Bool) (xs : List X) → ((x : X) → p x ≡ false) → count_by p xs ≡ 0
count-nothing p [] h = refl
count-nothing p (x ∷ xs) h =
    let here : one (p x) ≡ 0 = ap one (h x) in
    omega (arith, sum_by-cons (λ y. cond (p y) 1 0) x xs, here, count-nothing p xs h)

-- ---- tests of a number

lt-yes : (k n : ℕ) → k < n → nat_lt k n ≡ true
lt-yes k n h = grind (arith, nat_tests, h)

lt-no : (k n : ℕ) → n ≤ k → nat_lt k n ≡ false
lt-no k n h = grind (arith, nat_tests, h)

lt-is : (k n : ℕ) → nat_lt k n ≡ true → k < n
lt-is k n h = grind (arith, nat_tests, h)

le-is : (k n : ℕ) → nat_lt k n ≡ false → n ≤ k
le-is k n h = grind (arith, nat_tests, h)

-- below n, or n itself
below-or : (k n : ℕ) → cond (nat_lt k n) 1 0 + cond (k == n) 1 0 ≡ cond (nat_lt k (suc n)) 1 0
below-or k n = elim (cases_eq k n) [
  | inl same ↦ rw (lt-no k n (omega (arith, same)), eq-eqb k n same, lt-yes k (suc n) (omega (arith, same))) refl
  | inr differ ↦ elim (cases_Bool (nat_lt k n)) [
    | inl less ↦ rw (less, ne_eqb k n differ, lt-yes k (suc n) (omega (arith, lt-is k n less))) refl
    | inr more ↦ rw (more, ne_eqb k n differ, lt-no k (suc n) (above k n differ (le-is k n more))) refl
  ]
]
  where
    above : (k n : ℕ) → k ≢ n → n ≤ k → suc n ≤ k
    above k n differ l = omega arith

one-more : (t g : Bool) (k n : ℕ) → cond (t && (g && nat_lt k n)) 1 0 + cond (t && (g && (k == n))) 1 0 ≡ cond (t && (g && nat_lt k (suc n))) 1 0
one-more false g k n = refl
one-more true false k n = refl
one-more true true k n = below-or k n

none-below : (t g : Bool) (k : ℕ) → (t && (g && nat_lt k 0)) ≡ false
none-below false g k = refl
none-below true false k = refl
none-below true true k = lt-no k 0 (omega arith)

-- those that pass, in classes by a number, are those with a number below the bound
count-classes : {X : Type 0} (test g : X → Bool) (f : X → ℕ) (xs : List X) (n : ℕ)
    → count_by test (each_below (λ k. filter (λ x. g x && (f x == k)) xs) n) ≡ count_by (λ x. test x && (g x && nat_lt (f x) n)) xs
count-classes test g f xs zero = sym (count-nothing (λ x. test x && (g x && nat_lt (f x) 0)) xs (λ x. none-below (test x) (g x) (f x)))
count-classes test g f xs (suc n) =
    sum_by-append (λ x. cond (test x) 1 0) (each_below (λ k. filter (λ x. g x && (f x == k)) xs) n) (filter (λ x. g x && (f x == n)) xs)
    ∙ ap₂ (λ (a b : ℕ). a + b) (count-classes test g f xs n) (count-filter test (λ x. g x && (f x == n)) xs)
    ∙ count-two (λ x. test x && (g x && nat_lt (f x) n)) (λ x. test x && (g x && (f x == n))) (λ x. test x && (g x && nat_lt (f x) (suc n))) xs (λ x. one-more (test x) (g x) (f x) n)

-- ---- rooms

drop-known : (t g k : Bool) → k ≡ true → (t && (g && k)) ≡ (t && g)
drop-known false g k h = refl
drop-known true false k h = refl
drop-known true true k h = h

count-room : (i : Instance) (xs : List Session) (test : Session → Bool) (r : ℕ) → list_all (is_fit (BySlot i.periods) (i.days * i.periods)) xs ≡ true
    → count_by test (in_room i xs r) ≡ count_by (λ x. test x && (x.room == r + 1)) xs
count-room i xs test r slots =
    count-classes test (λ (x : Session). x.room == r + 1) (λ (x : Session). x.day * i.periods + x.period) xs (i.days * i.periods)
    ∙ count-same (is_fit (BySlot i.periods) (i.days * i.periods)) (λ (x : Session). test x && ((x.room == r + 1) && nat_lt (x.day * i.periods + x.period) (i.days * i.periods))) (λ (x : Session). test x && (x.room == r + 1)) xs
    (λ x known. drop-known (test x) (x.room == r + 1) (nat_lt (x.day * i.periods + x.period) (i.days * i.periods)) known) slots

one-more-room : (t : Bool) (k n : ℕ) → cond (t && (nat_lt 0 k && nat_lt k (n + 1))) 1 0 + cond (t && (k == n + 1)) 1 0 ≡ cond (t && (nat_lt 0 k && nat_lt k (suc n + 1))) 1 0
one-more-room false k n = refl
one-more-room true k n = elim (cases_eq k 0) [
  | inl none ↦ rw (lt-no 0 k (omega (arith, none)), ne_eqb k (n + 1) (differ k n none)) refl
  | inr some ↦ let e : suc n + 1 ≡ suc (n + 1) = omega arith in rw (lt-yes 0 k (omega arith), e) (below-or k (n + 1))
]
  where
    differ : (k n : ℕ) → k ≡ 0 → k ≡ n + 1 → ⊥
    differ k n none e = omega arith

no-room : (t : Bool) (k : ℕ) → (t && (nat_lt 0 k && nat_lt k (0 + 1))) ≡ false
no-room false k = refl
no-room true k = elim (cases_eq k 0) [
  | inl none ↦ rw (lt-no 0 k (omega (arith, none))) refl
  | inr some ↦ rw (lt-yes 0 k (omega arith)) (lt-no k (0 + 1) (omega arith))
]

count-rooms : (i : Instance) (xs : List Session) (test : Session → Bool) (n : ℕ) → list_all (is_fit (BySlot i.periods) (i.days * i.periods)) xs ≡ true
    → count_by test (each_below (in_room i xs) n) ≡ count_by (λ x. test x && (nat_lt 0 x.room && nat_lt x.room (n + 1))) xs
count-rooms i xs test zero slots = sym (count-nothing (λ (x : Session). test x && (nat_lt 0 x.room && nat_lt x.room (0 + 1))) xs (λ x. no-room (test x) x.room))
count-rooms i xs test (suc n) slots =
    sum_by-append (λ x. cond (test x) 1 0) (each_below (in_room i xs) n) (in_room i xs n)
    ∙ ap₂ (λ (a b : ℕ). a + b) (count-rooms i xs test n slots) (count-room i xs test n slots)
    ∙ count-two (λ (x : Session). test x && (nat_lt 0 x.room && nat_lt x.room (n + 1))) (λ (x : Session). test x && (x.room == n + 1)) (λ (x : Session). test x && (nat_lt 0 x.room && nat_lt x.room (suc n + 1))) xs
    (λ x. one-more-room (test x) x.room n)

some-or-none : (t : Bool) (k : ℕ) → cond (t && nat_lt 0 k) 1 0 + cond (t && (k == 0)) 1 0 ≡ cond t 1 0
some-or-none false k = refl
some-or-none true k = elim (cases_eq k 0) [
  | inl none ↦ rw (lt-no 0 k (omega (arith, none)), eq-eqb k 0 none) refl
  | inr some ↦ rw (lt-yes 0 k (omega arith), ne_eqb k 0 some) refl
]

pub stands-once : (i : Instance) (xs : List Session) (test : Session → Bool) → AreFit i xs → count_by test (in_rooms i xs) + count_by test (without_room xs) ≡ count_by test xs
stands-once i xs test fit =
    ap₂ (λ (a b : ℕ). a + b)
    (count-rooms i xs test (length i.rooms) fit.slots
    ∙ count-same (is_fit ByEntry (length i.rooms + 1)) (λ (x : Session). test x && (nat_lt 0 x.room && nat_lt x.room (length i.rooms + 1))) (λ (x : Session). test x && nat_lt 0 x.room) xs
    (λ x known. drop-known (test x) (nat_lt 0 x.room) (nat_lt x.room (length i.rooms + 1)) known) fit.rooms)
    (count-filter test has_none xs)
    ∙ count-two (λ (x : Session). test x && nat_lt 0 x.room) (λ (x : Session). test x && (x.room == 0)) test xs (λ x. some-or-none (test x) x.room)

pub each_stands_once : EachStandsOnce
each_stands_once i t p a are problem of legal test = stands-once i _ test (sessions-fit i t p a are problem of legal)
