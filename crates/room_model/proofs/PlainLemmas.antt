-- Without measures no meeting is too long: each takes one slot.
use Rattle.std.proofs.Common.{ℕ, ◌≡◌, ◌<◌, ◌≤◌, ◌+◌, ◌*◌, ◌++◌, Bool, true, false, List, [], ◌∷◌, refl, ap, sym, ◌∙◌, arith, subst, append_assoc, inl, inr}
use Rattle.std.specs.Prelude.{◌==◌, ◌||◌, None}
use Rattle.std.specs.List.{list_any, list_all}
use Rattle.std.proofs.lemmas.Bool.{and_parts, or_parts, eq-eqb, ne_eqb, cases_lt, cases_eq, and_left}
use Rattle.std.proofs.Math.Nat.{mul-le-mul_right}
use Rattle.ctt_reader.specs.declared.instance.Instance.{Instance}
use Rattle.timed_solution.specs.declared.times.Times.{Times}
use Rattle.timed_solution.specs.declared.times.Meeting.{Meeting}
use Rattle.timed_solution.specs.Times.{AreTimes, is_meeting, same_time}
use Rattle.timed_solution.proofs.BackLemmas.{meeting_parts, none-before, here-passes}
use Rattle.measure_file.specs.Grammar.{no_measures}
use Rattle.room_model.specs.ProblemOf.{event_part}
use Rattle.room_model.specs.Long.{overlaps, fault_after, unless_found, long_from, long_fault}
use Rattle.room_model.proofs.TakenLemmas.{fault_none}

slot_below : (d p e periods : ℕ) → d < e → p < periods → d * periods + p + 1 ≤ e * periods
slot_below d p e periods l k =
    let more : (d + 1) * periods ≤ e * periods = mul-le-mul_right periods (omega arith) in
    omega (arith, more, k)

-- one slot is of one day and period
same_slot : (d p e q periods : ℕ) → p < periods → q < periods → d * periods + p ≡ e * periods + q → (d ≡ e) × (p ≡ q)
same_slot d p e q periods k l same = elim (cases_lt d e) [
  | inl before ↦ absurd (omega (arith, slot_below d p e periods before k, same))
  | inr no_later ↦ elim (cases_lt e d) [
    | inl after ↦ absurd (omega (arith, slot_below e q d periods after l, same))
    | inr no_sooner ↦
        let day : d ≡ e = omega arith in
        let days : d * periods ≡ e * periods = ap (λ x. x * periods) day in
        (day, omega (arith, days, same))
  ]
]

or_none : (a : Bool) → a ≡ false → ((a || false) || false) ≡ false
or_none a h = rw h refl

-- two meetings that are not at one time do not overlap
apart : (i : Instance) (x y : Meeting) → is_meeting i x ≡ true → is_meeting i y ≡ true → same_time x y ≡ false → overlaps (event_part i.periods no_measures x) (event_part i.periods no_measures y) ≡ false
apart i x y p q h = elim (cases_eq y.course x.course) [
  | inr other ↦ and_left (y.course == x.course) _ (ne_eqb y.course x.course other)
  | inl course ↦ elim (cases_eq (y.day * i.periods + y.period) (x.day * i.periods + x.period)) [
    | inr slots ↦ rw (eq-eqb y.course x.course course) (or_none _ (ne_eqb (y.day * i.periods + y.period) (x.day * i.periods + x.period) slots))
    | inl slot ↦
        let s = same_slot y.day y.period x.day x.period i.periods (meeting_parts i y q).period (meeting_parts i x p).period slot in
        let time : same_time x y ≡ true = rw (eq-eqb x.course y.course (sym course), eq-eqb x.day y.day (sym s.0), eq-eqb x.period y.period (sym s.1)) refl in
        cc
  ]
]

none_overlap : (i : Instance) (x : Meeting) (before : List Meeting) → is_meeting i x ≡ true → list_all (is_meeting i) before ≡ true → list_any (same_time x) before ≡ false
    → list_any (λ y. overlaps (event_part i.periods no_measures x) (event_part i.periods no_measures y)) before ≡ false
none_overlap i x [] p all h = refl
none_overlap i x (y ∷ before) p all h =
    let a = and_parts (is_meeting i y) (list_all (is_meeting i) before) all in
    let o = or_parts (same_time x y) (list_any (same_time x) before) h in
    rw (apart i x y p a.0 o.0) (none_overlap i x before p a.1 o.1)

front-passes : {A : Type 0} (test : A → Bool) (before rest : List A) → list_all test (before ++ rest) ≡ true → list_all test before ≡ true
front-passes test [] rest h = refl
front-passes test (x ∷ before) rest h =
    let p = and_parts (test x) (list_all test (before ++ rest)) h in
    rw (p.0, front-passes test before rest p.1) refl

none_from : (i : Instance) (before rest : List Meeting) → AreTimes i (before ++ rest) → long_from i no_measures before rest ≡ None
none_from i before [] are = refl
none_from i before (x ∷ rest) are =
    let known = here-passes (is_meeting i) before x rest are.each in
    let ends : x.period + 1 ≤ i.periods = omega (arith, (meeting_parts i x known).period) in
    let none : fault_after i no_measures before x ≡ None = fault_none i no_measures before x ends (none_overlap i x before known (front-passes (is_meeting i) before (x ∷ rest) are.each) (none-before x before rest are.apart)) in
    let all : (before ++ x ∷ []) ++ rest ≡ before ++ x ∷ rest = append_assoc before (x ∷ []) rest in
    ap (λ f. unless_found f (long_from i no_measures (before ++ x ∷ []) rest)) none ∙ none_from i (before ++ x ∷ []) rest (subst (λ ms. AreTimes i ms) (sym all) are)

pub never_long : (i : Instance) (t : Times) → AreTimes i t.meetings → long_fault i t no_measures ≡ None
never_long i t are = none_from i [] t.meetings are
