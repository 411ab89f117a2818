-- What holds of meetings of which none is too long.
use Rattle.std.proofs.Common.{ℕ, ◌≡◌, ◌≤◌, ◌+◌, ◌++◌, Bool, true, false, cond, not, List, [], ◌∷◌, length, map, refl, ap, sym, ◌∙◌, arith, append_assoc, append-nil}
use Rattle.std.specs.Prelude.{◌==◌, ◌&&◌, ◌||◌, nat_lt, nat_le, Option, Some, None, position}
use Rattle.std.specs.List.{list_all, list_any, position_or_len}
use Rattle.std.proofs.lemmas.Bool.{and_parts, and_from, or_parts, eq-eqb}
use Rattle.std.proofs.lemmas.Bool.Decides.{nat_tests}
use Rattle.std.proofs.lemmas.List.{map-append}
use Rattle.problem_core.specs.OfParts.{all_pairs, events_agree, are_apart}
use Rattle.problem_core.specs.declared.parts.EventPart.{EventPart}
use Rattle.problem_core.proofs.RunLemmas.{runs_meet}
use Rattle.ctt_reader.specs.declared.instance.Instance.{Instance}
use Rattle.timed_solution.specs.declared.times.Meeting.{Meeting}
use Rattle.measure_file.specs.declared.measures.Measures.{Measures}
use Rattle.measure_file.specs.Promised.{AreMeasures}
use Rattle.room_model.specs.ProblemOf.{length_of, event_part}
use Rattle.timed_solution.specs.declared.times.Times.{Times}
use Rattle.room_model.specs.Calendar.{Planned}
use Rattle.room_model.specs.Long.{overlaps, share_slot, passes_day, overlap_of, fault_after, unless_found, long_from, long_fault}
use Rattle.room_model.specs.declared.long.LongFault.{LongFault}
use Rattle.room_model.specs.declared.long.LongFault.TheVariants.{PastDay}
use Rattle.room_model.proofs.TableLemmas.{IsLength, length-fits}

-- ---- the first of a list that passes a test

placed-step : (t b : Bool) (k n : ℕ) → b ≡ nat_lt k n → (t || b) ≡ nat_lt (cond (not t) (1 + k) 0) (1 + n)
placed-step true b k n h = grind (arith, nat_tests)
placed-step false b k n h = h ∙ grind (arith, nat_tests)

pub any-placed : {A : Type 0} (p : A → Bool) (xs : List A) → list_any p xs ≡ nat_lt (position_or_len p xs) (length xs)
any-placed p [] = refl
any-placed p (x ∷ xs) =
    let one : 1 + length xs ≡ length (x ∷ xs) = omega arith in
    placed-step (p x) (list_any p xs) (position_or_len p xs) (length xs) (any-placed p xs) ∙ ap (nat_lt (position_or_len p (x ∷ xs))) one

pub none-placed : {A : Type 0} (p : A → Bool) (xs : List A) → list_any p xs ≡ false → position p xs ≡ None
none-placed p xs h = rw (sym (any-placed p xs) ∙ h) refl

placed-none : {A : Type 0} (p : A → Bool) (xs : List A) → position p xs ≡ None → list_any p xs ≡ false
placed-none p xs h = any-placed p xs ∙ by_case (nat_lt (position_or_len p xs) (length xs)) h
  where
    by_case : (t : Bool) → cond t (Some (position_or_len p xs)) None ≡ None → t ≡ false
    by_case true e = cc
    by_case false e = refl

-- ---- no fault

pub none-first : (a b : Option LongFault) → unless_found a b ≡ None → (a ≡ None) × (b ≡ None)
none-first None b h = (refl, h)
none-first (Some fault) b h = cc

pub record IsFree (i : Instance) (m : Measures) (before : List Meeting) (x : Meeting) : Type 0 where
  pub within : passes_day i m x ≡ false
  pub apart : list_any (λ y. overlaps (event_part i.periods m x) (event_part i.periods m y)) before ≡ false

overlap-none : (found : Option ℕ) (event : ℕ) → overlap_of found event ≡ None → found ≡ None
overlap-none None event h = refl
overlap-none (Some first) event h = cc

pub free-where : (i : Instance) (m : Measures) (before : List Meeting) (x : Meeting) → fault_after i m before x ≡ None → IsFree i m before x
free-where i m before x h =
    let p = by_case (passes_day i m x) h in
    record { within = p.0; apart = placed-none (λ y. overlaps (event_part i.periods m x) (event_part i.periods m y)) before (overlap-none (position (λ y. overlaps (event_part i.periods m x) (event_part i.periods m y)) before) (length before) p.1) }
  where
    by_case : (t : Bool) → cond t (Some (PastDay (length before))) (overlap_of (position (λ y. overlaps (event_part i.periods m x) (event_part i.periods m y)) before) (length before)) ≡ None
        → (t ≡ false) × (overlap_of (position (λ y. overlaps (event_part i.periods m x) (event_part i.periods m y)) before) (length before) ≡ None)
    by_case true e = cc
    by_case false e = (refl, e)

pub length_of-fits : (i : Instance) (m : Measures) (c : ℕ) → AreMeasures i m → IsLength (length_of m c)
length_of-fits i m c are = length-fits (length i.courses) c 1 m.lengths are.lengths (record { some = omega arith; short = omega arith })

apart-where : (a n b k : ℕ) → 1 ≤ n → 1 ≤ k → (nat_lt a (b + k) && nat_lt b (a + n) && nat_lt 0 n && nat_lt 0 k) ≡ false → (nat_le (b + k) a || nat_le (a + n) b) ≡ true
apart-where a n b k s t h = grind (arith, nat_tests, h)

equal_of : (a b : ℕ) → (a == b) ≡ true → a ≡ b
equal_of a b k = grind (arith, nat_tests, k)

-- a meeting that does not overlap an earlier one agrees with it
agree-where : (i : Instance) (m : Measures) (x y : Meeting) → AreMeasures i m → overlaps (event_part i.periods m x) (event_part i.periods m y) ≡ false → events_agree (event_part i.periods m y) (event_part i.periods m x) ≡ true
agree-where i m x y are h = by_case (y.course == x.course) refl
  where
    e : EventPart
    e = event_part i.periods m x

    f : EventPart
    f = event_part i.periods m y

    by_case : (t : Bool) → (y.course == x.course) ≡ t → events_agree f e ≡ true
    by_case false differ = rw differ refl
    by_case true same =
        let course : y.course ≡ x.course = equal_of y.course x.course same in
        let lengths : length_of m y.course ≡ length_of m x.course = ap (length_of m) course in
        let none : share_slot e f ≡ false = (let k : ((y.course == x.course) && share_slot e f) ≡ false = h in rw same at k) in
        let slots = sym (runs_meet e.slot e.length f.slot f.length) ∙ none in
        let apart : are_apart f e ≡ true = apart-where e.slot e.length f.slot f.length (length_of-fits i m x.course are).some (length_of-fits i m y.course are).some slots in
        rw (same, eq-eqb (length_of m y.course) (length_of m x.course) lengths) apart

all-agree : (i : Instance) (m : Measures) (x : Meeting) (before : List Meeting) → AreMeasures i m → list_any (λ y. overlaps (event_part i.periods m x) (event_part i.periods m y)) before ≡ false
    → list_all (λ e. events_agree e (event_part i.periods m x)) (map (event_part i.periods m) before) ≡ true
all-agree i m x [] are h = refl
all-agree i m x (y ∷ before) are h =
    let p = or_parts (overlaps (event_part i.periods m x) (event_part i.periods m y)) (list_any (λ y. overlaps (event_part i.periods m x) (event_part i.periods m y)) before) h in
    and_from (events_agree (event_part i.periods m y) (event_part i.periods m x)) _ (agree-where i m x y are p.0) (all-agree i m x before are p.1)

pub pairs-more : {X : Type 0} (test : X → X → Bool) (xs : List X) (z : X) → all_pairs test xs ≡ true → list_all (λ x. test x z) xs ≡ true → all_pairs test (xs ++ z ∷ []) ≡ true
pairs-more test [] z h k = refl
pairs-more test (x ∷ xs) z h k =
    let p = and_parts (list_all (test x) xs) (all_pairs test xs) h in
    let q = and_parts (test x z) (list_all (λ x. test x z) xs) k in
    and_from (list_all (test x) (xs ++ z ∷ [])) (all_pairs test (xs ++ z ∷ [])) (all_last (test x) xs z p.0 q.0) (pairs-more test xs z p.1 q.1)
  where
    all_last : {X : Type 0} (t : X → Bool) (xs : List X) (z : X) → list_all t xs ≡ true → t z ≡ true → list_all t (xs ++ z ∷ []) ≡ true
    all_last t [] z h k = and_from (t z) true k refl
    all_last t (x ∷ xs) z h k = let p = and_parts (t x) (list_all t xs) h in and_from (t x) (list_all t (xs ++ z ∷ [])) p.0 (all_last t xs z p.1 k)

pub pairs-agree : (i : Instance) (m : Measures) (before rest : List Meeting) → AreMeasures i m → all_pairs events_agree (map (event_part i.periods m) before) ≡ true → long_from i m before rest ≡ None
    → all_pairs events_agree (map (event_part i.periods m) (before ++ rest)) ≡ true
pairs-agree i m before [] are h none = ap (λ xs. all_pairs events_agree (map (event_part i.periods m) xs)) (append-nil before) ∙ h
pairs-agree i m before (x ∷ rest) are h none =
    let p = none-first (fault_after i m before x) (long_from i m (before ++ x ∷ []) rest) none in
    let free = free-where i m before x p.0 in
    let grown : map (event_part i.periods m) (before ++ x ∷ []) ≡ map (event_part i.periods m) before ++ event_part i.periods m x ∷ [] = map-append (event_part i.periods m) before (x ∷ []) in
    let more : all_pairs events_agree (map (event_part i.periods m) (before ++ x ∷ [])) ≡ true =
    ap (all_pairs events_agree) grown ∙ pairs-more events_agree (map (event_part i.periods m) before) (event_part i.periods m x) h (all-agree i m x before are free.apart) in
    ap (λ xs. all_pairs events_agree (map (event_part i.periods m) xs)) (sym (append_assoc before (x ∷ []) rest)) ∙ pairs-agree i m (before ++ x ∷ []) rest are more p.1

pub all-within : (i : Instance) (m : Measures) (before rest : List Meeting) → long_from i m before rest ≡ None → list_all (λ x. not (passes_day i m x)) rest ≡ true
all-within i m before [] none = refl
all-within i m before (x ∷ rest) none =
    let p = none-first (fault_after i m before x) (long_from i m (before ++ x ∷ []) rest) none in
    and_from (not (passes_day i m x)) (list_all (λ x. not (passes_day i m x)) rest) (ap not (free-where i m before x p.0).within) (all-within i m (before ++ x ∷ []) rest p.1)

-- where no fault is found, there is none
pub none_found : (i : Instance) (t : Times) (m : Measures) (p : Planned) (meetings : List Meeting) (fault : Option LongFault) → fault ≡ long_from p.instance p.measures [] meetings → p ≡ record { instance = i; measures = m } → meetings ≡ t.meetings → fault ≡ None
    → long_fault i t m ≡ None
none_found i t m p meetings fault e same listed none =
    ap (long_from i m []) (sym listed) ∙ ap (λ (q : Planned). long_from q.instance q.measures [] meetings) (sym same) ∙ sym e ∙ none
