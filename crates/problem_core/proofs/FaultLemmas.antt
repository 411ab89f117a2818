-- The first fault, a step at a time, and that there is none exactly where a choice is legal.
use Rattle.std.proofs.Common.{ℕ, ◌≡◌, ◌≢◌, ◌+◌, ◌-◌, ◌<◌, ◌≤◌, inl, inr, zero, suc, Bool, true, false, not, refl, arith, ap, sym, ◌∙◌, subst, cond, List, [], ◌∷◌, length}
use Rattle.std.specs.Prelude.{◌==◌, nat_le, Option, Some, None, ◌↔◌}
use Rattle.std.specs.List.{list_all}
use Rattle.std.proofs.lemmas.Bool.{cases_eq, cases_Bool, cond-true, cond-false, and_cases, and_left, and_right, eq-eqb, ne_eqb, leb-true, le-leb, and_parts, and_from, not-true, true≢false}
use Rattle.numbers.specs.Below.{any_below, first_from, first_from_finds, any_below_at, none_below}
use Rattle.problem_core.specs.Below.{none_passes, none_found, any_below_none}
use Rattle.problem_core.specs.Facts.{Facts, suits, share_slot}
use Rattle.problem_core.specs.Choice.{entry, holds, IsChoice, IsLegal}
use Rattle.problem_core.specs.FirstChoice.{can_take}
use Rattle.problem_core.specs.Faults.{first_from_on, first_fault, fault_of, clash_of, unless_found}
use Rattle.problem_core.specs.declared.choice.RoomFault.{RoomFault}
use Rattle.problem_core.specs.declared.choice.RoomFault.TheVariants.{Unsuitable, Clash}

pub any_below-found : (test : ℕ → Bool) (n : ℕ) → not (first_from test 0 n == 0) ≡ any_below test n
any_below-found test n = elim (cases_eq (first_from test 0 n) 0) [
  | inl none ↦ rw (none) (sym (any_below_none test n (λ k l. none_passes test 0 n k none (omega arith) (omega arith))))
  | inr some ↦
      let found = first_from_finds test 0 n (first_from test 0 n - 1) (omega arith) in
      rw (ne_eqb (first_from test 0 n) 0 some) (sym (any_below_at test (first_from test 0 n - 1) n (omega arith) found.0))
]

pub first_from_on-some : (f : ℕ → Option RoomFault) (r n : ℕ) (x : RoomFault) → r < n → f r ≡ Some x → first_from_on f r (n - r) ≡ Some x
first_from_on-some f r n x l h = let e : n - r ≡ suc (n - (r + 1)) = omega arith in rw (e, h) refl

pub first_from_on-none : (f : ℕ → Option RoomFault) (r n : ℕ) → r < n → f r ≡ None → first_from_on f r (n - r) ≡ first_from_on f (r + 1) (n - (r + 1))
first_from_on-none f r n l h = let e : n - r ≡ suc (n - (r + 1)) = omega arith in rw (e, h) refl

pub first_from_on-end : (f : ℕ → Option RoomFault) (r n : ℕ) → n ≤ r → first_from_on f r (n - r) ≡ None
first_from_on-end f r n l = let e : n - r ≡ 0 = omega arith in rw e refl

unless-none : (o later : Option RoomFault) → unless_found o later ≡ None → (o ≡ None) × (later ≡ None)
unless-none None later h = (refl, h)
unless-none (Some x) later h = absurd (cc)

none_each : (f : ℕ → Option RoomFault) (r n k : ℕ) → first_from_on f r n ≡ None → r ≤ k → k < r + n → f k ≡ None
none_each f r zero k h l m = absurd (omega arith)
none_each f r (suc n) k h l m =
    let parts = unless-none (f r) (first_from_on f (r + 1) n) h in
    elim (cases_eq k r) [ inl same ↦ rw same parts.0 | inr other ↦ none_each f (r + 1) n k parts.1 (omega arith) (omega arith) ]

each_none : (f : ℕ → Option RoomFault) (r n : ℕ) → ((k : ℕ) → r ≤ k → k < r + n → f k ≡ None) → first_from_on f r n ≡ None
each_none f r zero h = refl
each_none f r (suc n) h = rw (h r (omega arith) (omega arith)) (each_none f (r + 1) n (λ k l m. h k (omega arith) (omega arith)))

clash-none : (found e : ℕ) → clash_of found e ≡ None → found ≡ 0
clash-none found e h = elim (cases_eq found 0) [
  | inl none ↦ none
  | inr some ↦ let same = sym (cond-false (found == 0) None (Some (Clash (found - 1) e)) (ne_eqb found 0 some)) ∙ h in absurd (cc)
]

fault-none : (p : Facts) (a : List ℕ) (e : ℕ) → fault_of p a e ≡ None → entry a e ≢ 0 → (suits p e (entry a e - 1) ≡ true) × (first_from (holds p a e (entry a e)) 0 e ≡ 0)
fault-none p a e h some =
    let fits = suits p e (entry a e - 1) in
    let clash = clash_of (first_from (holds p a e (entry a e)) 0 e) e in
    let here : cond fits clash (Some (Unsuitable e)) ≡ None = sym (cond-false (entry a e == 0) None (cond fits clash (Some (Unsuitable e))) (ne_eqb (entry a e) 0 some)) ∙ h in
    elim (cases_Bool fits) [
      | inl yes_fits ↦ (yes_fits, clash-none (first_from (holds p a e (entry a e)) 0 e) e (sym (cond-true fits clash (Some (Unsuitable e)) yes_fits) ∙ here))
      | inr no_fits ↦ let same = sym (cond-false fits clash (Some (Unsuitable e)) no_fits) ∙ here in absurd (cc)
    ]

apart_from : (p : Facts) (a : List ℕ) (e f : ℕ) → e < f → entry a e ≡ entry a f → first_from (holds p a f (entry a f)) 0 f ≡ 0 → share_slot p e f ≡ false
apart_from p a e f l same none =
    elim (and_cases (entry a e == entry a f) (share_slot p e f) (none_passes (holds p a f (entry a f)) 0 f e none (omega arith) (omega arith))) [
      | inl differs ↦ absurd (true≢false (sym (eq-eqb (entry a e) (entry a f) same) ∙ differs))
      | inr apart ↦ apart
    ]

legal_from : (p : Facts) (a : List ℕ) → IsChoice p a → first_fault p a ≡ None → IsLegal p a
legal_from p a choice h =
    let each : (e : ℕ) → e < length a → fault_of p a e ≡ None = λ e l. none_each (fault_of p a) 0 (length p.events) e h (omega arith) (omega (arith, choice.one_each)) in
    record {
      one_each = choice.one_each;
      known = choice.known;
      suitable = λ e l some. (fault-none p a e (each e l) some).0;
      apart = λ e f l m some same. apart_from p a e f l same (fault-none p a f (each f m) (λ none. some (same ∙ none))).1;
    }

no_holder : (p : Facts) (a : List ℕ) (e : ℕ) → IsLegal p a → e < length a → entry a e ≢ 0 → first_from (holds p a e (entry a e)) 0 e ≡ 0
no_holder p a e legal l some = none_found (holds p a e (entry a e)) 0 e (λ k _ m. elim (cases_eq (entry a k) (entry a e)) [
  | inl same ↦ and_right (entry a k == entry a e) (share_slot p k e) (legal.apart k e (omega arith) l (λ none. some (sym same ∙ none)) same)
  | inr differ ↦ and_left (entry a k == entry a e) (share_slot p k e) (ne_eqb (entry a k) (entry a e) differ)
])

nothing_wrong : (p : Facts) (a : List ℕ) (e : ℕ) → entry a e ≢ 0 → suits p e (entry a e - 1) ≡ true → first_from (holds p a e (entry a e)) 0 e ≡ 0 → fault_of p a e ≡ None
nothing_wrong p a e some suit free =
    cond-false (entry a e == 0) None _ (ne_eqb (entry a e) 0 some)
    ∙ cond-true (suits p e (entry a e - 1)) _ (Some (Unsuitable e)) suit
    ∙ ap (λ found. clash_of found e) free

-- nothing is wrong with an event that can take its room after the earlier events took theirs
pub no_fault_taken : (p : Facts) (a : List ℕ) (e : ℕ) → entry a e ≢ 0 → can_take p a e (entry a e - 1) ≡ true → fault_of p a e ≡ None
no_fault_taken p a e some h =
    let parts = and_parts (suits p e (entry a e - 1)) (not (any_below (holds p a e (entry a e - 1 + 1)) e)) h in
    let same : entry a e ≡ entry a e - 1 + 1 = omega arith in
    let free : any_below (holds p a e (entry a e)) e ≡ false = ap (λ x. any_below (holds p a e x) e) same ∙ not-true (any_below (holds p a e (entry a e - 1 + 1)) e) parts.1 in
    nothing_wrong p a e some parts.0 (none_found (holds p a e (entry a e)) 0 e (λ k _ l. none_below (holds p a e (entry a e)) k e free (omega arith)))

no_fault : (p : Facts) (a : List ℕ) (e : ℕ) → IsLegal p a → e < length a → fault_of p a e ≡ None
no_fault p a e legal l = elim (cases_eq (entry a e) 0) [
  | inl none ↦ cond-true (entry a e == 0) None _ (eq-eqb (entry a e) 0 none)
  | inr some ↦ nothing_wrong p a e some (legal.suitable e l some) (no_holder p a e legal l some)
]

pub none_is_legal : (p : Facts) (a : List ℕ) → IsChoice p a → (first_fault p a ≡ None) ↔ IsLegal p a
none_is_legal p a choice =
    (legal_from p a choice, λ legal. each_none (fault_of p a) 0 (length p.events) (λ k l m. no_fault p a k legal (omega (arith, legal.one_each))))

pub legal_where_none : (p : Facts) (a : List ℕ) (o : Option RoomFault) → IsChoice p a → first_fault p a ≡ o → (o ≡ None) ↔ IsLegal p a
legal_where_none p a o choice e = subst (λ x. (x ≡ None) ↔ IsLegal p a) e (none_is_legal p a choice)

known_from : (rooms : ℕ) (a : List ℕ) → list_all (λ x. nat_le x rooms) a ≡ true → (e : ℕ) → e < length a → entry a e ≤ rooms
known_from rooms [] h e l = absurd (omega arith)
known_from rooms (x ∷ xs) h zero l = leb-true x rooms (and_parts (nat_le x rooms) (list_all (λ y. nat_le y rooms) xs) h).0
known_from rooms (x ∷ xs) h (suc e) l = known_from rooms xs (and_parts (nat_le x rooms) (list_all (λ y. nat_le y rooms) xs) h).1 e (omega arith)

from_known : (rooms : ℕ) (a : List ℕ) → ((e : ℕ) → e < length a → entry a e ≤ rooms) → list_all (λ x. nat_le x rooms) a ≡ true
from_known rooms [] h = refl
from_known rooms (x ∷ xs) h = and_from (nat_le x rooms) (list_all (λ y. nat_le y rooms) xs) (le-leb x rooms (h 0 (omega arith))) (from_known rooms xs (λ e l. h (suc e) (omega arith)))

pub choice_is : (p : Facts) (a : List ℕ) (rooms : ℕ) → length a ≡ length p.events → rooms ≡ length p.capacity → (list_all (λ x. nat_le x rooms) a ≡ true) ↔ IsChoice p a
choice_is p a rooms one_each same = (
  λ h. record { one_each = one_each; known = λ e l some. let k = known_from rooms a h e l in omega arith },
  λ choice. from_known rooms a (λ e l. elim (cases_eq (entry a e) 0) [ inl none ↦ omega arith | inr some ↦ let k = choice.known e l some in omega arith ]),
)
