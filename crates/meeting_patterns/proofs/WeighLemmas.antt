-- Sums and tests over a course's events are sums and tests over all events.
use Rattle.std.proofs.Common.{ℕ, ◌≡◌, ◌≢◌, ◌+◌, ◌*◌, ◌<◌, inl, inr, zero, suc, Bool, true, false, not, ◌&&◌, ◌||◌, refl, arith, ap, ap₂, sym, ◌∙◌, List, [], ◌∷◌, ◌++◌, length, get_or, drop, subst}
use Rattle.std.specs.Prelude.{ℤ, pos, negsuc, ◌+ℤ◌, ◌==◌}
use Rattle.std.specs.List.{list_any, AllByRecursion}
use Rattle.std.proofs.lemmas.Int.{ints}
use Rattle.std.proofs.lemmas.List.{at_drop_more, drop_more}
use Rattle.std.proofs.lemmas.Bool.{cases_eq, cases_Bool, cond-false, ne_eqb, eq-eqb, and_left}
use Rattle.numbers.specs.Below.{any_below}
use Rattle.numbers.specs.Sums.{sum_below, picked, total}
use Rattle.problem_core.specs.Below.{any_below_none}
use Rattle.problem_core.specs.Facts.{Facts, share_slot, course_of}
use Rattle.problem_core.specs.Choice.{entry}
use Rattle.problem_core.specs.Courses.{passing, is_of_course, place_of, events_of}
use Rattle.problem_core.specs.Measures.{gain}
use Rattle.problem_core.specs.Kept.{IsWithin}
use Rattle.problem_core.specs.Passing.{any_passing}
use Rattle.meeting_patterns.specs.Pattern.{has_bit, within, weight, share_event, share_a_slot, clash, is_equal, agrees_at, chooses}
use Rattle.meeting_patterns.specs.declared.pattern.Pattern.{Pattern}

total-append : (f : ℕ → ℤ) (xs ys : List ℕ) → total f (xs ++ ys) ≡ total f xs +ℤ total f ys
total-append f [] ys = omega (arith, ints)
total-append f (x ∷ xs) ys = omega (arith, ints, total-append f xs ys)

sum_passing : (test more : ℕ → Bool) (g : ℕ → ℤ) (n : ℕ) → total (λ e. picked (more e) (g e)) (passing test n) ≡ sum_below (λ e. picked (test e && more e) (g e)) n
sum_passing test more g zero = refl
sum_passing test more g (suc n) = elim (cases_Bool (test n)) [
  | inl hit ↦ rw hit (omega (arith, ints, total-append (λ e. picked (more e) (g e)) (passing test n) (n ∷ []), sum_passing test more g n))
  | inr miss ↦ rw miss (omega (arith, ints, sum_passing test more g n))
]

pub weight_is : (p : Facts) (x : Pattern) (k : ℕ) (events : List ℕ) (sum : ℤ) → k ≢ 5 → events ≡ events_of p x.course → sum ≡ total (λ e. picked (has_bit x.mask (place_of p e)) (gain p k e x.room)) events → sum ≡ weight p k x
weight_is p x k events sum other same h =
    h
    ∙ ap (total (λ e. picked (has_bit x.mask (place_of p e)) (gain p k e x.room))) same
    ∙ sum_passing (is_of_course p x.course) (λ e. has_bit x.mask (place_of p e)) (λ e. gain p k e x.room) (length p.events)
    ∙ sym (cond-false (k == 5) (negsuc 0) (sum_below (λ e. picked (within p x e) (gain p k e x.room)) (length p.events)) (ne_eqb k 5 other))

pub total-step : (f : ℕ → ℤ) (xs : List ℕ) (i x : ℕ) (sum sum' part : ℤ) → i < length xs → x ≡ get_or xs i 0 → sum' ≡ sum +ℤ part → part ≡ f x → sum +ℤ total f (drop i xs) ≡ total f xs → sum' +ℤ total f (drop (i + 1) xs) ≡ total f xs
total-step f xs i x sum sum' part l is e g h =
    let more : total f (drop i xs) ≡ f (get_or xs i 0) +ℤ total f (drop (i + 1) xs) = at_drop_more (total f) xs i 0 l in
    omega (arith, ints, more, e, g, ap f is, h)

pub within-step : (i : ℕ) (sum sum' part : ℤ) → sum' ≡ sum +ℤ part → IsWithin (pos (i * 48000000)) sum → IsWithin (pos 48000000) part → IsWithin (pos ((i + 1) * 48000000)) sum'
within-step i sum sum' part e a b = record { low = omega (arith, ints, e, a.low, b.low); high = omega (arith, ints, e, a.high, b.high) }

pub each_passes : (test : ℕ → Bool) (n : ℕ) → AllByRecursion (λ e. test e ≡ true) (passing test n)
each_passes test zero = tt
each_passes test (suc n) = elim (cases_Bool (test n)) [
  | inl hit ↦ rw hit (each_push (λ e. test e ≡ true) (passing test n) n (each_passes test n) hit)
  | inr miss ↦ rw miss (each_passes test n)
]
  where
    each_push : (P : ℕ → Type 0) (xs : List ℕ) (y : ℕ) → AllByRecursion P xs → P y → AllByRecursion P (xs ++ y ∷ [])
    each_push P [] y h k = (k, tt)
    each_push P (x ∷ xs) y h k = (h.0, each_push P xs y h.1 k)

any_same : (f g : ℕ → Bool) (n : ℕ) → ((k : ℕ) → f k ≡ g k) → any_below f n ≡ any_below g n
any_same f g zero h = refl
any_same f g (suc n) h = ap₂ (λ x y. x || y) (h n) (any_same f g n h)

and_group : (a b c d : Bool) → c ≡ d → (a && (b && c)) ≡ ((a && b) && d)
and_group true b c d e = ap (λ x. b && x) e
and_group false b c d e = refl

pub slots_tell : (p : Facts) (x y : Pattern) → list_any (λ e. has_bit x.mask (place_of p e) && list_any (λ f. has_bit y.mask (place_of p f) && share_slot p e f) (events_of p y.course)) (events_of p x.course) ≡ share_a_slot p x y
slots_tell p x y =
    any_passing (is_of_course p x.course) (λ e. has_bit x.mask (place_of p e) && list_any (λ f. has_bit y.mask (place_of p f) && share_slot p e f) (events_of p y.course)) (length p.events)
    ∙ any_same (λ e. is_of_course p x.course e && (has_bit x.mask (place_of p e) && list_any (λ f. has_bit y.mask (place_of p f) && share_slot p e f) (events_of p y.course)))
    (λ e. within p x e && any_below (λ f. within p y f && share_slot p e f) (length p.events)) (length p.events)
    (λ e. and_group (is_of_course p x.course e) (has_bit x.mask (place_of p e)) _ _ (others e))
  where
    others : (e : ℕ) → list_any (λ f. has_bit y.mask (place_of p f) && share_slot p e f) (events_of p y.course) ≡ any_below (λ f. within p y f && share_slot p e f) (length p.events)
    others e =
        any_passing (is_of_course p y.course) (λ f. has_bit y.mask (place_of p f) && share_slot p e f) (length p.events)
        ∙ any_same (λ f. is_of_course p y.course f && (has_bit y.mask (place_of p f) && share_slot p e f)) (λ f. within p y f && share_slot p e f) (length p.events)
        (λ f. and_group (is_of_course p y.course f) (has_bit y.mask (place_of p f)) (share_slot p e f) (share_slot p e f) refl)

both_bits : (of a b : Bool) → (of && (a && b)) ≡ ((of && a) && (of && b))
both_bits true a b = refl
both_bits false a b = refl

pub events_tell : (p : Facts) (x y : Pattern) → x.course ≡ y.course → list_any (λ e. has_bit x.mask (place_of p e) && has_bit y.mask (place_of p e)) (events_of p x.course) ≡ share_event p x y
events_tell p x y same =
    any_passing (is_of_course p x.course) (λ e. has_bit x.mask (place_of p e) && has_bit y.mask (place_of p e)) (length p.events)
    ∙ any_same (λ e. is_of_course p x.course e && (has_bit x.mask (place_of p e) && has_bit y.mask (place_of p e))) (λ e. within p x e && within p y e) (length p.events)
    (λ e. both_bits (is_of_course p x.course e) (has_bit x.mask (place_of p e)) (has_bit y.mask (place_of p e))
    ∙ ap (λ c. within p x e && (is_of_course p c e && has_bit y.mask (place_of p e))) same)

pub no_event : (p : Facts) (x y : Pattern) → x.course ≢ y.course → share_event p x y ≡ false
no_event p x y differ = any_below_none (λ e. within p x e && within p y e) (length p.events) (λ e l. elim (cases_eq (course_of p e) x.course) [
  | inr other ↦ and_left (within p x e) (within p y e) (and_left (is_of_course p x.course e) (has_bit x.mask (place_of p e)) (ne_eqb (course_of p e) x.course other))
  | inl same ↦ right_none (within p x e) (within p y e) (and_left (is_of_course p y.course e) (has_bit y.mask (place_of p e)) (ne_eqb (course_of p e) y.course (λ z. differ (sym same ∙ z))))
])
  where
    right_none : (a b : Bool) → b ≡ false → (a && b) ≡ false
    right_none true b h = h
    right_none false b h = refl

pub drop-step : (P : ℕ → Type 0) (xs : List ℕ) (i : ℕ) → i < length xs → AllByRecursion P (drop i xs) → AllByRecursion P (drop (i + 1) xs)
drop-step P xs i l h =
    let both : AllByRecursion P (get_or xs i 0 ∷ drop (i + 1) xs) = subst (AllByRecursion P) (drop_more xs i 0 l) h in
    both.1

not_implied : (of same : Bool) → (of && not same) ≡ not (not of || same)
not_implied true true = refl
not_implied true false = refl
not_implied false same = refl

-- a course's events tell what a choice chooses
pub choice_tells : (p : Facts) (a : List ℕ) (x : Pattern) (events : List ℕ) (differs : Bool) → events ≡ events_of p x.course
    → differs ≡ list_any (λ e. not (is_equal (has_bit x.mask (place_of p e)) (entry a e == x.room + 1))) events → not differs ≡ chooses p a x
choice_tells p a x events differs same h =
    ap not (h
    ∙ ap (list_any (λ e. not (is_equal (has_bit x.mask (place_of p e)) (entry a e == x.room + 1)))) same
    ∙ any_passing (is_of_course p x.course) (λ e. not (is_equal (has_bit x.mask (place_of p e)) (entry a e == x.room + 1))) (length p.events)
    ∙ any_same (λ e. is_of_course p x.course e && not (is_equal (has_bit x.mask (place_of p e)) (entry a e == x.room + 1))) (λ e. not (agrees_at p a x e)) (length p.events)
    (λ e. not_implied (is_of_course p x.course e) (is_equal (has_bit x.mask (place_of p e)) (entry a e == x.room + 1))))

clash_apart : (c r m e s : Bool) → c ≡ false → r ≡ true → e ≡ false → s ≡ (not (c && r && m) && (e || (r && (s || c))))
clash_apart c r m e true hc hr he = rw (hc, hr, he) refl
clash_apart c r m e false hc hr he = rw (hc, hr, he) refl

-- patterns of two courses in one room clash where their events meet
pub clash_in_room : (p : Facts) (x y : Pattern) → x.room ≡ y.room → x.course ≢ y.course → share_a_slot p x y ≡ clash p x y
clash_in_room p x y room course = clash_apart (x.course == y.course) (x.room == y.room) (x.mask == y.mask) (share_event p x y) (share_a_slot p x y) (ne_eqb x.course y.course course) (eq-eqb x.room y.room room) (no_event p x y course)
