-- The masks of a course in a room, a meeting at a time: those below twice a power of two are those below
-- the power and, where the next meeting suits the room, its bit alone and joined to each of them.
use Rattle.std.proofs.Common.{ℕ, ◌≡◌, ◌≢◌, ◌+◌, ◌-◌, ◌*◌, ◌/◌, ◌%◌, ◌^◌, ◌<◌, ◌≤◌, inl, inr, zero, suc, Bool, true, false, not, ◌&&◌, ◌||◌, refl, arith, ap, ap₂, sym, ◌∙◌, add-one, List, [], ◌∷◌, ◌++◌, length, get_or, drop, append_assoc}
use Rattle.std.specs.Prelude.{◌==◌, map}
use Rattle.std.proofs.lemmas.List.{append-nil, map-append, length-append, length-map, drop_at, get_or-map, get_or-append_right}
use Rattle.std.proofs.lemmas.Nat.{one_shl}
use Rattle.std.proofs.lemmas.Bool.{cases_eq, cases_Bool, and_from, and_right, ne_eqb, not_from_true, not_from_false}
use Rattle.numbers.specs.Below.{any_below, any_below_at}
use Rattle.problem_core.specs.Below.{any_below_none}
use Rattle.problem_core.specs.Facts.{Facts, suits}
use Rattle.problem_core.specs.Courses.{passing, is_of_course, place_of, events_of}
use Rattle.problem_core.specs.Passing.{IsNth, nth_is, at_place, passing-few, passing-same, passing-add}
use Rattle.meeting_patterns.specs.Pattern.{has_bit, within, no_pattern, pattern_at, pattern, is_mask}
use Rattle.meeting_patterns.specs.declared.pattern.Pattern.{Pattern}
use Rattle.meeting_patterns.proofs.BitLemmas.{pow_two, pow_few, no_bits}
use Rattle.meeting_patterns.proofs.ChosenLemmas.{place_is}

-- ---- the bits of a power of two and a smaller number

top_bit : (j i : ℕ) → i < 2 ^ j → has_bit (2 ^ j + i) j ≡ true
top_bit zero i l = let e : i ≡ 0 = omega arith in rw e refl
top_bit (suc j) i l =
    let half : (2 ^ suc j + i) / 2 ≡ 2 ^ j + i / 2 = omega (arith, pow_two j) in
    ap (λ m. has_bit m j) half ∙ top_bit j (i / 2) (omega (arith, l, pow_two j))

other_bit : (j i k : ℕ) → i < 2 ^ j → k ≢ j → has_bit (2 ^ j + i) k ≡ has_bit i k
other_bit zero i zero l d = absurd (d refl)
other_bit zero i (suc k) l d = let e : i ≡ 0 = omega arith in rw e refl
other_bit (suc j) i zero l d = let e : (2 ^ suc j + i) % 2 ≡ i % 2 = omega (arith, pow_two j) in ap (λ x. x == 1) e
other_bit (suc j) i (suc k) l d =
    let half : (2 ^ suc j + i) / 2 ≡ 2 ^ j + i / 2 = omega (arith, pow_two j) in
    ap (λ m. has_bit m k) half ∙ other_bit j (i / 2) k (omega (arith, l, pow_two j)) (λ e. d (ap suc e))

-- ---- numbers that pass

none_passing : (test : ℕ → Bool) (n : ℕ) → ((i : ℕ) → i < n → test i ≡ false) → passing test n ≡ []
none_passing test zero h = refl
none_passing test (suc n) h = rw (h n (omega arith)) (none_passing test n (λ i l. h i (omega arith)))

passing-or_zero : (test : ℕ → Bool) (n : ℕ) → 1 ≤ n → test 0 ≡ false → passing (λ i. (i == 0) || test i) n ≡ 0 ∷ passing test n
passing-or_zero test zero some h = absurd (omega arith)
passing-or_zero test (suc zero) some h = rw h refl
passing-or_zero test (suc (suc n)) some h =
    let rest = passing-or_zero test (suc n) (omega arith) h in
    let later : (suc n == 0) ≡ false = ne_eqb (suc n) 0 (λ z. absurd (omega (arith, z))) in
    elim (cases_Bool (test (suc n))) [
      | inl hit ↦ rw (later, hit) (ap (λ xs. xs ++ suc n ∷ []) rest)
      | inr miss ↦ rw (later, miss) rest
    ]

-- ---- a meeting joined to a mask of earlier ones

-- the mask names a meeting that does not suit the room
abbrev is_bad : Facts → ℕ → ℕ → ℕ → Bool
is_bad p c r m = any_below (λ e. within p (pattern c r m) e && not (suits p e r)) (length p.events)

any_same : (f g : ℕ → Bool) (n : ℕ) → ((k : ℕ) → k < n → f k ≡ g k) → any_below f n ≡ any_below g n
any_same f g zero h = refl
any_same f g (suc n) h = ap₂ (λ x y. x || y) (h n (omega arith)) (any_same f g n (λ k l. h k (omega arith)))

same_event : (p : Facts) (c j e f : ℕ) → IsNth (is_of_course p c) (length p.events) j e → f < length p.events → is_of_course p c f ≡ true → place_of p f ≡ j → f ≡ e
same_event p c j e f nth l of place =
    let test = is_of_course p c in
    let here = at_place test (length p.events) e nth.below nth.passes in
    let there = at_place test (length p.events) f l of in
    let found : place_of p f ≡ length (passing test f) = place_is p c (length (passing test f)) f (record { below = l; passes = of; place = refl }) in
    sym there.1 ∙ ap (λ k. get_or (events_of p c) k 0) (sym found ∙ place ∙ sym nth.place) ∙ here.1

bad_joined : (p : Facts) (c r j e i : ℕ) → IsNth (is_of_course p c) (length p.events) j e → suits p e r ≡ true → i < 2 ^ j → is_bad p c r (2 ^ j + i) ≡ is_bad p c r i
bad_joined p c r j e i nth suit l =
    any_same (λ f. within p (pattern c r (2 ^ j + i)) f && not (suits p f r)) (λ f. within p (pattern c r i) f && not (suits p f r)) (length p.events)
    (λ f k. elim (cases_Bool (is_of_course p c f)) [
      | inr other ↦ rw other refl
      | inl of ↦ elim (cases_eq (place_of p f) j) [
        | inr lower ↦ ap (λ b. (is_of_course p c f && b) && not (suits p f r)) (other_bit j i (place_of p f) l lower)
        | inl same ↦
            let fits : not (suits p f r) ≡ false = not_from_true (suits p f r) (ap (λ d. suits p d r) (same_event p c j e f nth k of same) ∙ suit) in
            and_right (within p (pattern c r (2 ^ j + i)) f) (not (suits p f r)) fits
            ∙ sym (and_right (within p (pattern c r i) f) (not (suits p f r)) fits)
      ]
    ])

none_bad : (p : Facts) (c r : ℕ) → is_bad p c r 0 ≡ false
none_bad p c r =
    any_below_none (λ e. within p (pattern c r 0) e && not (suits p e r)) (length p.events)
    (λ e l. ap (λ b. (is_of_course p c e && b) && not (suits p e r)) (no_bits (place_of p e)) ∙ nothing (is_of_course p c e) (not (suits p e r)))
  where
    nothing : (a b : Bool) → ((a && false) && b) ≡ false
    nothing true b = refl
    nothing false b = refl

some_power : (j : ℕ) → 1 ≤ 2 ^ j
some_power zero = omega arith
some_power (suc j) = omega (arith, pow_two j, some_power j)

mask_joined : (p : Facts) (c r j e i : ℕ) → IsNth (is_of_course p c) (length p.events) j e → suits p e r ≡ true → i < 2 ^ j → is_mask p c r (2 ^ j + i) ≡ ((i == 0) || is_mask p c r i)
mask_joined p c r j e i nth suit l =
    let some : (2 ^ j + i == 0) ≡ false = ne_eqb (2 ^ j + i) 0 (λ z. absurd (omega (arith, some_power j, z))) in
    ap (λ b. not b && not (is_bad p c r (2 ^ j + i))) some
    ∙ ap not (bad_joined p c r j e i nth suit l)
    ∙ elim (cases_eq i 0) [
      | inl alone ↦ rw alone (ap not (none_bad p c r))
      | inr more ↦ rw (ne_eqb i 0 more) refl
    ]

not_joined : (p : Facts) (c r j e i : ℕ) → IsNth (is_of_course p c) (length p.events) j e → suits p e r ≡ false → i < 2 ^ j → is_mask p c r (2 ^ j + i) ≡ false
not_joined p c r j e i nth unfit l =
    let held : within p (pattern c r (2 ^ j + i)) e ≡ true = and_from (is_of_course p c e) (has_bit (2 ^ j + i) (place_of p e)) nth.passes (ap (has_bit (2 ^ j + i)) (place_is p c j e nth) ∙ top_bit j i l) in
    and_right (not (2 ^ j + i == 0)) (not (is_bad p c r (2 ^ j + i)))
    (not_from_true (is_bad p c r (2 ^ j + i))
    (any_below_at (λ f. within p (pattern c r (2 ^ j + i)) f && not (suits p f r)) e (length p.events) nth.below
    (and_from (within p (pattern c r (2 ^ j + i)) e) (not (suits p e r)) held (not_from_false (suits p e r) unfit))))

-- ---- the masks, one meeting on

pub masks_more : (p : Facts) (c r j e : ℕ) → IsNth (is_of_course p c) (length p.events) j e → suits p e r ≡ true
    → passing (is_mask p c r) (2 ^ (j + 1)) ≡ passing (is_mask p c r) (2 ^ j) ++ 2 ^ j ∷ map (λ i. 2 ^ j + i) (passing (is_mask p c r) (2 ^ j))
masks_more p c r j e nth suit =
    let test = is_mask p c r in
    let twice : 2 ^ (j + 1) ≡ 2 ^ j + 2 ^ j = rw add-one (omega (arith, pow_two j)) in
    let none : 2 ^ j + 0 ≡ 2 ^ j = omega arith in
    ap (passing test) twice
    ∙ passing-add test (2 ^ j) (2 ^ j)
    ∙ ap (λ ys. passing test (2 ^ j) ++ map (λ i. 2 ^ j + i) ys)
    (passing-same (λ i. test (2 ^ j + i)) (λ i. (i == 0) || test i) (2 ^ j) (λ i l. mask_joined p c r j e i nth suit l)
    ∙ passing-or_zero test (2 ^ j) (some_power j) refl)
    ∙ ap (λ b. passing test (2 ^ j) ++ b ∷ map (λ i. 2 ^ j + i) (passing test (2 ^ j))) none

pub masks_same : (p : Facts) (c r j e : ℕ) → IsNth (is_of_course p c) (length p.events) j e → suits p e r ≡ false
    → passing (is_mask p c r) (2 ^ (j + 1)) ≡ passing (is_mask p c r) (2 ^ j)
masks_same p c r j e nth unfit =
    let test = is_mask p c r in
    let twice : 2 ^ (j + 1) ≡ 2 ^ j + 2 ^ j = rw add-one (omega (arith, pow_two j)) in
    ap (passing test) twice
    ∙ passing-add test (2 ^ j) (2 ^ j)
    ∙ ap (λ ys. passing test (2 ^ j) ++ map (λ i. 2 ^ j + i) ys) (none_passing (λ i. test (2 ^ j + i)) (2 ^ j) (λ i l. not_joined p c r j e i nth unfit l))
    ∙ append-nil (passing test (2 ^ j))

pub count_more : (p : Facts) (c r j e : ℕ) → IsNth (is_of_course p c) (length p.events) j e → suits p e r ≡ true
    → length (passing (is_mask p c r) (2 ^ (j + 1))) ≡ 2 * length (passing (is_mask p c r) (2 ^ j)) + 1
count_more p c r j e nth suit =
    let front = passing (is_mask p c r) (2 ^ j) in
    let back = map (λ i. 2 ^ j + i) front in
    let e : length (passing (is_mask p c r) (2 ^ (j + 1))) ≡ length (front ++ 2 ^ j ∷ back) = ap length (masks_more p c r j e nth suit) in
    omega (arith, e, length-append front (2 ^ j ∷ back), length-map front (λ i. 2 ^ j + i))

map_joined : (c r b : ℕ) (masks : List ℕ) → map (λ x. pattern c r (b + x.mask)) (map (pattern c r) masks) ≡ map (pattern c r) (map (λ i. b + i) masks)
map_joined c r b [] = refl
map_joined c r b (m ∷ masks) = ap (λ xs. pattern c r (b + m) ∷ xs) (map_joined c r b masks)

-- ---- what the code makes of a course's event

pub nth_event : (p : Facts) (c j : ℕ) (events : List ℕ) → events ≡ events_of p c → j < length events → IsNth (is_of_course p c) (length p.events) j (get_or events j 0)
nth_event p c j events same l = let m : j < length (events_of p c) = rw same at l in rw same (nth_is (is_of_course p c) (length p.events) j m)

pub bit_is : (p : Facts) (c j e place : ℕ) → IsNth (is_of_course p c) (length p.events) j e → place ≡ place_of p e → place < 12 → (1 * 2 ^ place) % 65536 ≡ 2 ^ j
bit_is p c j e place nth is few =
    let whole : (1 * 2 ^ place) % 65536 ≡ 2 ^ place = one_shl place 16 (omega arith) in
    whole ∙ ap (λ k. 2 ^ k) (is ∙ place_is p c j e nth)

pub earlier_less : (p : Facts) (c r j bit first i : ℕ) (front old : List Pattern) → bit ≡ 2 ^ j → first ≡ length front → old ≡ front ++ map (pattern c r) (passing (is_mask p c r) (2 ^ j))
    → first ≤ i → i < length old → (pattern_at old i).mask < bit
earlier_less p c r j bit first i front old is start was low high =
    let masks = passing (is_mask p c r) (2 ^ j) in
    let k : i - length front < length masks = omega (arith, ap length was, length-append front (map (pattern c r) masks), length-map masks (pattern c r)) in
    let e : pattern_at old i ≡ pattern c r (get_or masks (i - length front) 0) =
    ap (λ s. pattern_at s i) was
    ∙ get_or-append_right front (map (pattern c r) masks) (length front) i no_pattern refl (omega arith)
    ∙ get_or-map (pattern c r) masks (i - length front) 0 no_pattern k in
    let below = (nth_is (is_mask p c r) (2 ^ j) (i - length front) k).below in
    rw (e, is) below

-- the patterns of a bit alone and joined to those of the earlier meetings
pub patterns_more : (p : Facts) (c r j e bit first : ℕ) (front old new : List Pattern) → IsNth (is_of_course p c) (length p.events) j e → suits p e r ≡ true
    → bit ≡ 2 ^ j → first ≡ length front → old ≡ front ++ map (pattern c r) (passing (is_mask p c r) (2 ^ j))
    → new ≡ old ++ pattern c r bit ∷ map (λ x. pattern c r (bit + x.mask)) (drop first old)
    → new ≡ front ++ map (pattern c r) (passing (is_mask p c r) (2 ^ (j + 1)))
patterns_more p c r j e bit first front old new nth suit here start was is =
    let masks = passing (is_mask p c r) (2 ^ j) in
    let rest : drop first old ≡ map (pattern c r) masks = ap₂ drop start was ∙ drop_at front (map (pattern c r) masks) (length front) refl in
    is
    ∙ ap₂ (λ xs ys. xs ++ pattern c r bit ∷ map (λ x. pattern c r (bit + x.mask)) ys) was rest
    ∙ append_assoc front (map (pattern c r) masks) (pattern c r bit ∷ map (λ x. pattern c r (bit + x.mask)) (map (pattern c r) masks))
    ∙ ap (λ ys. front ++ (map (pattern c r) masks ++ pattern c r bit ∷ ys)) (map_joined c r bit masks)
    ∙ ap (λ ys. front ++ ys) (sym (map-append (pattern c r) masks (bit ∷ map (λ i. bit + i) masks)))
    ∙ ap (λ b. front ++ map (pattern c r) (masks ++ b ∷ map (λ i. b + i) masks)) here
    ∙ ap (λ ms. front ++ map (pattern c r) ms) (sym (masks_more p c r j e nth suit))

pub count_few : (p : Facts) (c r j count : ℕ) → j ≤ 12 → count ≡ length (passing (is_mask p c r) (2 ^ j)) → count ≤ 4096
count_few p c r j count few is = omega (arith, is, few, passing-few (is_mask p c r) (2 ^ j), pow_few j few)
