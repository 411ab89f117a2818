-- Well formed parts within the limits are as every problem keeps them.
use Rattle.std.proofs.Common.{ℕ, ◌≡◌, ◌+◌, ◌<◌, ◌≤◌, inl, inr, zero, suc, Bool, true, false, not, ◌&&◌, arith, sym, ◌∙◌, List, [], ◌∷◌, length, ap, ◌-◌}
use Rattle.std.specs.Prelude.{ℤ, pos, negsuc, ◌≤ℤ◌, ◌==◌, nat_lt, nat_le, int_lt, Some, None}
use Rattle.std.specs.List.{list_all, All, AllPairs, AllByRecursion}
use Rattle.std.proofs.lemmas.Bool.{and_parts, cases_Bool, cond-false, cond-true, cond_both, eq-eqb, eqb-true, le-ltb, leb-true, lt-ltb, ltb-false, ltb-true, ne_eqb, not-true, or_cases, true≢false}
use Rattle.std.proofs.lemmas.Int.{ints}
use mir.Syntax.{w32}
use mir.Val.{to_z, of_z}
use Rattle.problem_core.specs.Below.{none_passes}
use Rattle.problem_core.specs.OfParts.{facts_of, well_formed, lists_fit, numbers_fit, events_fit, wishes_fit, all_pairs, is_million, is_features, event_fits, are_apart, events_agree, pair_fits, is_points, preference_fits, preferences_differ, row_fits, rows_rise}
use Rattle.problem_core.specs.Kept.{AreFit, EventFits, AreApart, IsWithin}
use Rattle.problem_core.specs.Limits.{limit_of, crowded_course, course_limit}
use Rattle.problem_core.specs.Courses.{meetings_of}
use Rattle.problem_core.specs.Facts.{Facts}
use Rattle.problem_core.specs.Measures.{points_of}
use Rattle.problem_core.specs.declared.limit.LimitKind.TheVariants.{Meetings, CourseMeetings}
use Rattle.problem_core.specs.declared.parts.Parts.{Parts}
use Rattle.problem_core.specs.declared.parts.EventPart.{EventPart}

all_from : {X : Type 0} (test : X → Bool) (P : X → Type 0) → ((x : X) → test x ≡ true → P x) → (xs : List X) → list_all test xs ≡ true → All P xs
all_from test P each [] h k d l = absurd (omega arith)
all_from test P each (x ∷ xs) h zero d l = each x (and_parts (test x) (list_all test xs) h).0
all_from test P each (x ∷ xs) h (suc k) d l = all_from test P each xs (and_parts (test x) (list_all test xs) h).1 k d (omega arith)

each_from : {X : Type 0} (test : X → Bool) (P : X → Type 0) → ((x : X) → test x ≡ true → P x) → (xs : List X) → list_all test xs ≡ true → AllByRecursion P xs
each_from test P each [] h = tt
each_from test P each (x ∷ xs) h = let parts = and_parts (test x) (list_all test xs) h in (each x parts.0, each_from test P each xs parts.1)

pairs_from : {X : Type 0} (test : X → X → Bool) (R : X → X → Type 0) → ((x y : X) → test x y ≡ true → R x y) → (xs : List X) → all_pairs test xs ≡ true → AllPairs R xs
pairs_from test R each [] h i j d l m = absurd (omega arith)
pairs_from test R each (x ∷ xs) h i zero d l m = absurd (omega arith)
pairs_from test R each (x ∷ xs) h zero (suc j) d l m = all_from (test x) (R x) (each x) xs (and_parts (list_all (test x) xs) (all_pairs test xs) h).0 j d (omega arith)
pairs_from test R each (x ∷ xs) h (suc i) (suc j) d l m = pairs_from test R each xs (and_parts (list_all (test x) xs) (all_pairs test xs) h).1 i j d (omega arith) (omega arith)

event_from : (courses slots : ℕ) (e : EventPart) → event_fits courses slots e ≡ true → EventFits courses slots e
event_from courses slots e h =
    let one = and_parts (nat_lt e.course courses && nat_le 1 e.length && nat_le e.length 48) (nat_le (e.slot + e.length) slots) h in
    let two = and_parts (nat_lt e.course courses && nat_le 1 e.length) (nat_le e.length 48) one.0 in
    let three = and_parts (nat_lt e.course courses) (nat_le 1 e.length) two.0 in
    record {
      known = ltb-true e.course courses three.0;
      some = leb-true 1 e.length three.1;
      short = leb-true e.length 48 two.1;
      within = leb-true (e.slot + e.length) slots one.1;
    }

apart_from : (e f : EventPart) → events_agree e f ≡ true → AreApart e f
apart_from e f h same =
    elim (or_cases (not (e.course == f.course)) ((e.length == f.length) && are_apart e f) h) [
      | inl differ ↦ absurd (true≢false (sym (eq-eqb e.course f.course same) ∙ not-true (e.course == f.course) differ))
      | inr agree ↦
          let parts = and_parts (e.length == f.length) (are_apart e f) agree in (
            eqb-true e.length f.length parts.0,
            elim (or_cases (nat_le (e.slot + e.length) f.slot) (nat_le (f.slot + f.length) e.slot) parts.1) [
              | inl before ↦ inl (leb-true (e.slot + e.length) f.slot before)
              | inr after ↦ inr (leb-true (f.slot + f.length) e.slot after)
            ],
          )
    ]

pair_from : (m n : ℕ) (x : ℕ × ℕ) → pair_fits m n x ≡ true → (x.0 < m) × (x.1 < n)
pair_from m n x h = let parts = and_parts (nat_lt x.0 m) (nat_lt x.1 n) h in (ltb-true x.0 m parts.0, ltb-true x.1 n parts.1)

at_least : (x y : ℤ) → int_lt x y ≡ false → y ≤ℤ x
at_least x y h = grind (arith, ints)

points_from : (z : ℤ) → is_points z ≡ true → IsWithin (pos 1000000) z
points_from z h =
    let parts = and_parts (not (int_lt z (negsuc 999999))) (not (int_lt (pos 1000000) z)) h in
    record {
      low = at_least z (negsuc 999999) (not-true (int_lt z (negsuc 999999)) parts.0);
      high = at_least (pos 1000000) z (not-true (int_lt (pos 1000000) z) parts.1);
    }

preference_from : (m n : ℕ) (x : ℕ × ℕ × ℤ) → preference_fits m n x ≡ true → (x.0 < m) × (x.1 < n)
preference_from m n x h =
    let one = and_parts (nat_lt x.0 m && nat_lt x.1 n) (is_points x.2) h in
    let parts = and_parts (nat_lt x.0 m) (nat_lt x.1 n) one.0 in (ltb-true x.0 m parts.0, ltb-true x.1 n parts.1)

record ListsFit (p : Parts) : Type 0 where
  needs : length p.needs ≡ length p.students
  features : length p.features ≡ length p.capacity
  few_courses : length p.students ≤ 1000
  few_rooms : length p.capacity ≤ 200
  few_slots : p.slots ≤ 672
  few_rows : length p.robust ≤ 100

lists_from : (p : Parts) → lists_fit p ≡ true → ListsFit p
lists_from p h =
    let a = length p.needs == length p.students in
    let b = length p.features == length p.capacity in
    let c = nat_le (length p.students) 1000 in
    let d = nat_le (length p.capacity) 200 in
    let e = nat_le 1 p.slots in
    let f = nat_le p.slots 672 in
    let g = nat_le (length p.robust) 100 in
    let six = and_parts (a && b && c && d && e && f) g h in
    let five = and_parts (a && b && c && d && e) f six.0 in
    let four = and_parts (a && b && c && d) e five.0 in
    let three = and_parts (a && b && c) d four.0 in
    let two = and_parts (a && b) c three.0 in
    let one = and_parts a b two.0 in
    record {
      needs = eqb-true (length p.needs) (length p.students) one.0;
      features = eqb-true (length p.features) (length p.capacity) one.1;
      few_courses = leb-true (length p.students) 1000 two.1;
      few_rooms = leb-true (length p.capacity) 200 three.1;
      few_slots = leb-true p.slots 672 five.1;
      few_rows = leb-true (length p.robust) 100 six.1;
    }

numbers_from : (p : Parts) → numbers_fit p ≡ true → All (λ n. n ≤ 1000000) p.students × All (λ n. n ≤ 1000000) p.capacity
numbers_from p h =
    let a = list_all is_million p.students in
    let b = list_all is_features p.needs in
    let c = list_all is_million p.capacity in
    let three = and_parts (a && b && c) (list_all is_features p.features) h in
    let two = and_parts (a && b) c three.0 in
    let one = and_parts a b two.0 in
    (all_from is_million (λ n. n ≤ 1000000) (λ n k. leb-true n 1000000 k) p.students one.0, all_from is_million (λ n. n ≤ 1000000) (λ n k. leb-true n 1000000 k) p.capacity two.1)

record WishesFit (p : Parts) : Type 0 where
  denied : All (λ x. (x.0 < length p.students) × (x.1 < length p.capacity)) p.denied
  closed : All (λ x. (x.0 < length p.capacity) × (x.1 < p.slots)) p.closed
  prefer : All (λ x. (x.0 < length p.students) × (x.1 < length p.capacity)) p.prefer
  points : All (λ x. IsWithin (pos 1000000) x.2) p.prefer
  rows : AllByRecursion (λ x. IsWithin (pos 1000000) x.1) p.robust

wishes_from : (p : Parts) → wishes_fit p ≡ true → WishesFit p
wishes_from p h =
    let courses = length p.students in
    let rooms = length p.capacity in
    let a = list_all (pair_fits courses rooms) p.denied in
    let b = list_all (pair_fits rooms p.slots) p.closed in
    let c = list_all (preference_fits courses rooms) p.prefer in
    let d = all_pairs preferences_differ p.prefer in
    let e = list_all row_fits p.robust in
    let five = and_parts (a && b && c && d && e) (all_pairs rows_rise p.robust) h in
    let four = and_parts (a && b && c && d) e five.0 in
    let three = and_parts (a && b && c) d four.0 in
    let two = and_parts (a && b) c three.0 in
    let one = and_parts a b two.0 in
    record {
      denied = all_from (pair_fits courses rooms) (λ x. (x.0 < courses) × (x.1 < rooms)) (pair_from courses rooms) p.denied one.0;
      closed = all_from (pair_fits rooms p.slots) (λ x. (x.0 < rooms) × (x.1 < p.slots)) (pair_from rooms p.slots) p.closed one.1;
      prefer = all_from (preference_fits courses rooms) (λ x. (x.0 < courses) × (x.1 < rooms)) (preference_from courses rooms) p.prefer two.1;
      points = all_from (preference_fits courses rooms) (λ x. IsWithin (pos 1000000) x.2)
          (λ x k. points_from x.2 (and_parts (nat_lt x.0 courses && nat_lt x.1 rooms) (is_points x.2) k).1) p.prefer two.1;
      rows = each_from row_fits (λ x. IsWithin (pos 1000000) x.1) (λ x k. points_from x.1 (and_parts (nat_le x.0 1000) (is_points x.1) k).1) p.robust four.1;
    }

no_course : (p : Parts) → course_limit (facts_of p) (crowded_course (facts_of p)) ≡ None → crowded_course (facts_of p) ≡ 0
no_course p h = elim (cases_Bool (crowded_course (facts_of p) == 0)) [
  | inl zero_found ↦ eqb-true (crowded_course (facts_of p)) 0 zero_found
  | inr found ↦ let e = sym (cond-false (crowded_course (facts_of p) == 0) None _ found) ∙ h in absurd (cc)
]

pub few_of_course : (p : Parts) → course_limit (facts_of p) (crowded_course (facts_of p)) ≡ None → (c : ℕ) → c < length p.students → meetings_of (facts_of p) c ≤ 12
few_of_course p h c l = ltb-false 12 _ (none_passes (λ c. nat_lt 12 (meetings_of (facts_of p) c)) 0 (length p.students) c (no_course p h) (omega arith) (omega arith))

pub AreFit-well_formed : (p : Parts) → well_formed p ≡ true → AreFit p
AreFit-well_formed p h =
    let one = and_parts (lists_fit p && numbers_fit p && events_fit p) (wishes_fit p) h in
    let two = and_parts (lists_fit p && numbers_fit p) (events_fit p) one.0 in
    let three = and_parts (lists_fit p) (numbers_fit p) two.0 in
    let lists = lists_from p three.0 in
    let numbers = numbers_from p three.1 in
    let events = and_parts (list_all (event_fits (length p.students) p.slots) p.events) (all_pairs events_agree p.events) two.1 in
    let wishes = wishes_from p one.1 in
    record {
      needs = lists.needs;
      features = lists.features;
      few_courses = lists.few_courses;
      few_rooms = lists.few_rooms;
      few_slots = lists.few_slots;
      few_rows = lists.few_rows;
      students = numbers.0;
      capacity = numbers.1;
      events = all_from (event_fits (length p.students) p.slots) (EventFits (length p.students) p.slots) (event_from (length p.students) p.slots) p.events events.0;
      apart = pairs_from events_agree AreApart apart_from p.events events.1;
      denied = wishes.denied;
      closed = wishes.closed;
      prefer = wishes.prefer;
      points = wishes.points;
      rows = wishes.rows;
    }

pub limit-at : (p : Facts) (course count : ℕ) → count ≡ meetings_of p course → Some (record { kind = CourseMeetings; count = count; limit = 12 }) ≡ course_limit p (course + 1)
limit-at p course count e =
    let back : course + 1 - 1 ≡ course = omega arith in
    sym (cond-false (course + 1 == 0) None (Some (record { kind = CourseMeetings; count = meetings_of p (course + 1 - 1); limit = 12 })) (ne_eqb (course + 1) 0 (λ z. absurd (omega arith)))
    ∙ ap (λ n. Some (record { kind = CourseMeetings; count = n; limit = 12 })) (ap (meetings_of p) back ∙ sym e))

pub limit-none : (p : Facts) (found : ℕ) → found ≡ 0 → None ≡ course_limit p found
limit-none p found e = sym (cond-true (found == 0) None (Some (record { kind = CourseMeetings; count = meetings_of p (found - 1); limit = 12 })) (eq-eqb found 0 e))

pub limit-meetings : (p : Facts) (n : ℕ) → n ≡ length p.events → 4000 < n → Some (record { kind = Meetings; count = n; limit = 4000 }) ≡ limit_of p
limit-meetings p n e l =
    sym (cond-true (nat_lt 4000 (length p.events)) (Some (record { kind = Meetings; count = length p.events; limit = 4000 })) (course_limit p (crowded_course p)) (lt-ltb 4000 (length p.events) (omega arith))
    ∙ ap (λ m. Some (record { kind = Meetings; count = m; limit = 4000 })) (sym e))

pub limit-course : (p : Facts) (n : ℕ) → n ≡ length p.events → n ≤ 4000 → course_limit p (crowded_course p) ≡ limit_of p
limit-course p n e l = sym (cond-false (nat_lt 4000 (length p.events)) (Some (record { kind = Meetings; count = length p.events; limit = 4000 })) (course_limit p (crowded_course p)) (le-ltb 4000 (length p.events) (omega arith)))

pub points_within : (c r : ℕ) (xs : List (ℕ × ℕ × ℤ)) → All (λ x. IsWithin (pos 1000000) x.2) xs → IsWithin (pos 1000000) (points_of c r xs)
points_within c r [] h = record { low = omega (arith, ints); high = omega (arith, ints) }
points_within c r (x ∷ xs) h =
    cond_both ((x.0 == c) && (x.1 == r)) x.2 (points_of c r xs) (IsWithin (pos 1000000)) (λ _. h 0 (0, 0, pos 0) (omega arith))
    (λ _. points_within c r xs (λ k d l. h (suc k) d (omega arith)))

-- points as the code holds them
pub points_same : (x : ℤ) → IsWithin (pos 1000000) x → to_z w32 (of_z w32 x) ≡ x
points_same x h = omega (arith, ints, h.low, h.high)
