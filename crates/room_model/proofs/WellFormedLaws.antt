-- The parts of the three files are well formed where no meeting is too long.
use Rattle.std.proofs.Common.{ℕ, ◌≡◌, ◌<◌, ◌≤◌, ◌+◌, ◌*◌, ◌^◌, refl, sym, ◌∙◌, ap, arith, List, [], ◌∷◌, length, map, Bool, true, false, not}
use Rattle.std.specs.Prelude.{◌&&◌, IsTrue, None, nat_lt}
use Rattle.std.specs.List.{list_all}
use Rattle.std.proofs.lemmas.Bool.{and_parts, and_from, le-leb, lt-ltb, eq-eqb, not-true}
use Rattle.std.proofs.lemmas.Bool.Decides.{nat_tests}
use Rattle.std.proofs.lemmas.List.{length-map}
use Rattle.std.proofs.lemmas.List.Folds.{list_all-map}
use Rattle.std.proofs.Math.Nat.{mul-le-mul_right}
use Rattle.problem_core.specs.Facts.{run_of}
use Rattle.problem_core.specs.OfParts.{well_formed, lists_fit, numbers_fit, events_fit, wishes_fit, is_million, is_features, event_fits, all_pairs, pair_fits, preference_fits, preferences_differ, row_fits, rows_rise}
use Rattle.problem_core.proofs.RunLemmas.{length-run_of}
use Rattle.ctt_reader.specs.declared.instance.Instance.{Instance}
use Rattle.ctt_reader.specs.declared.instance.Course.{Course}
use Rattle.ctt_reader.specs.declared.instance.Room.{Room}
use Rattle.ctt_reader.specs.Promised.{IsInstance, is_course, is_room}
use Rattle.timed_solution.specs.declared.times.Times.{Times}
use Rattle.timed_solution.specs.declared.times.Meeting.{Meeting}
use Rattle.timed_solution.specs.Times.{AreTimes, is_meeting}
use Rattle.timed_solution.proofs.BackLemmas.{meeting_parts}
use Rattle.measure_file.specs.declared.measures.Measures.{Measures}
use Rattle.measure_file.specs.Promised.{AreMeasures, is_pair, is_triple, all_pairs as all_listed_pairs, other_pair, rises}
use Rattle.room_model.specs.ProblemOf.{parts_of, event_part, sets_of, set_from, closed_slot, length_of}
use Rattle.room_model.specs.Long.{passes_day, long_fault}
use Rattle.room_model.proofs.TableLemmas.{set-small}
use Rattle.room_model.proofs.LongLemmas.{pairs-agree, all-within, length_of-fits}
use Rattle.room_model.proofs.TakenLemmas.{slots_within}

-- what holds of each, and what follows from it
list_all-implied : {X : Type 0} (p q : X → Bool) → ((x : X) → p x ≡ true → q x ≡ true) → (xs : List X) → list_all p xs ≡ true → list_all q xs ≡ true
list_all-implied p q h [] all = refl
list_all-implied p q h (x ∷ xs) all =
    let parts = and_parts (p x) (list_all p xs) all in
    and_from (q x) (list_all q xs) (h x parts.0) (list_all-implied p q h xs parts.1)

list_all-always : {X : Type 0} (q : X → Bool) → ((x : X) → q x ≡ true) → (xs : List X) → list_all q xs ≡ true
list_all-always q h [] = refl
list_all-always q h (x ∷ xs) = and_from (q x) (list_all q xs) (h x) (list_all-always q h xs)

few_students : (c : Course) → is_course c ≡ true → is_million c.students ≡ true
few_students c h = grind (arith, h)

few_seats : (r : Room) → is_room r ≡ true → is_million r.capacity ≡ true
few_seats r h = grind (arith, h)

pub slots_fit : (i : Instance) → IsInstance i → (1 ≤ i.days * i.periods) × (i.days * i.periods ≤ 672)
slots_fit i is =
    let low : 1 * i.periods ≤ i.days * i.periods = mul-le-mul_right i.periods is.some_days in
    let high : i.days * i.periods ≤ 14 * i.periods = mul-le-mul_right i.periods is.few_days in
    (omega (arith, low, is.some_periods), omega (arith, high, is.few_periods))

length-sets : (n : ℕ) (pairs : List (ℕ × ℕ)) → length (sets_of n pairs) ≡ n
length-sets n pairs = length-map (run_of 0 n) (λ k. set_from k 0 pairs) ∙ length-run_of 0 n

students_of : (i : Instance) → length (map (λ (c : Course). c.students) i.courses) ≡ length i.courses
students_of i = length-map i.courses (λ (c : Course). c.students)

seats_of : (i : Instance) → length (map (λ (r : Room). r.capacity) i.rooms) ≡ length i.rooms
seats_of i = length-map i.rooms (λ (r : Room). r.capacity)

lists : (i : Instance) (t : Times) (m : Measures) → IsInstance i → AreMeasures i m → lists_fit (parts_of i t m) ≡ true
lists i t m is are =
    let slots = slots_fit i is in
    rw (
      students_of i,
      length-sets (length i.courses) m.needs,
      seats_of i,
      length-sets (length i.rooms) m.has,
      eq-eqb (length i.courses) (length i.courses) refl,
      eq-eqb (length i.rooms) (length i.rooms) refl,
      le-leb (length i.courses) 1000 is.few_courses,
      le-leb (length i.rooms) 200 is.few_rooms,
      le-leb 1 (i.days * i.periods) slots.0,
      le-leb (i.days * i.periods) 672 slots.1,
      le-leb (length m.robust) 100 are.few_thresholds,
    ) refl

sets-fit : (n features : ℕ) (pairs : List (ℕ × ℕ)) → features ≤ 100 → list_all (is_pair n features) pairs ≡ true → list_all is_features (sets_of n pairs) ≡ true
sets-fit n features pairs few h =
    list_all-map is_features (λ k. set_from k 0 pairs) (run_of 0 n)
    ∙ list_all-always (λ k. is_features (set_from k 0 pairs)) (λ k. lt-ltb (set_from k 0 pairs) (2 ^ 100) (set-small n k 0 pairs features few h (omega arith))) (run_of 0 n)

numbers : (i : Instance) (t : Times) (m : Measures) → IsInstance i → AreMeasures i m → numbers_fit (parts_of i t m) ≡ true
numbers i t m is are =
    let students = list_all-map is_million (λ (c : Course). c.students) i.courses ∙ list_all-implied is_course (λ c. is_million c.students) few_students i.courses is.courses in
    let needs = sets-fit (length i.courses) (length m.features) m.needs are.few_features are.needs in
    let capacity = list_all-map is_million (λ (r : Room). r.capacity) i.rooms ∙ list_all-implied is_room (λ r. is_million r.capacity) few_seats i.rooms is.rooms in
    let features = sets-fit (length i.rooms) (length m.features) m.has are.few_features are.has in
    rw (students, needs, capacity, features) refl

reaches : (k n : ℕ) → nat_lt n k ≡ false → k ≤ n
reaches k n h = grind (arith, nat_tests, h)

meeting_fits : (i : Instance) (m : Measures) (x : Meeting) → AreMeasures i m → is_meeting i x ≡ true → not (passes_day i m x) ≡ true → event_fits (length i.courses) (i.days * i.periods) (event_part i.periods m x) ≡ true
meeting_fits i m x are h ends =
    let p = meeting_parts i x h in
    let l = length_of-fits i m x.course are in
    let within : x.period + length_of m x.course ≤ i.periods = reaches (x.period + length_of m x.course) i.periods (not-true (passes_day i m x) ends) in
    rw (lt-ltb x.course (length i.courses) p.course, le-leb 1 (length_of m x.course) l.some, le-leb (length_of m x.course) 48 l.short, le-leb (x.day * i.periods + x.period + length_of m x.course) (i.days * i.periods) (slots_within i m x h within)) refl

meetings_fit : (i : Instance) (m : Measures) (meetings : List Meeting) → AreMeasures i m → list_all (is_meeting i) meetings ≡ true → list_all (λ x. not (passes_day i m x)) meetings ≡ true
    → list_all (λ x. event_fits (length i.courses) (i.days * i.periods) (event_part i.periods m x)) meetings ≡ true
meetings_fit i m [] are h ends = refl
meetings_fit i m (x ∷ meetings) are h ends =
    let p = and_parts (is_meeting i x) (list_all (is_meeting i) meetings) h in
    let q = and_parts (not (passes_day i m x)) (list_all (λ x. not (passes_day i m x)) meetings) ends in
    and_from (event_fits (length i.courses) (i.days * i.periods) (event_part i.periods m x)) (list_all (λ x. event_fits (length i.courses) (i.days * i.periods) (event_part i.periods m x)) meetings)
    (meeting_fits i m x are p.0 q.0) (meetings_fit i m meetings are p.1 q.1)

events : (i : Instance) (t : Times) (m : Measures) → AreTimes i t.meetings → AreMeasures i m → long_fault i t m ≡ None → events_fit (parts_of i t m) ≡ true
events i t m times are none =
    let fit = list_all-map (event_fits (length i.courses) (i.days * i.periods)) (event_part i.periods m) t.meetings ∙ meetings_fit i m t.meetings are times.each (all-within i m [] t.meetings none) in
    rw (students_of i, fit, pairs-agree i m [] t.meetings are refl none) refl

slot_below : (d p e periods : ℕ) → d < e → p < periods → d * periods + p < e * periods
slot_below d p e periods l k =
    let more : (d + 1) * periods ≤ e * periods = mul-le-mul_right periods (omega arith) in
    omega (arith, more, k)

under : (k n : ℕ) → nat_lt k n ≡ true → k < n
under k n h = grind (arith, nat_tests, h)

closure_fits : (i : Instance) (x : ℕ × ℕ × ℕ) → is_triple (length i.rooms) i.days i.periods x ≡ true → pair_fits (length i.rooms) (i.days * i.periods) (closed_slot i.periods x) ≡ true
closure_fits i x h =
    let p = and_parts (nat_lt x.0 (length i.rooms) && nat_lt x.1 i.days) (nat_lt x.2 i.periods) h in
    let d = and_parts (nat_lt x.0 (length i.rooms)) (nat_lt x.1 i.days) p.0 in
    rw (d.0, lt-ltb (x.1 * i.periods + x.2) (i.days * i.periods) (slot_below x.1 x.2 i.days i.periods (under x.1 i.days d.1) (under x.2 i.periods p.1))) refl

pairs-same : {X : Type 0} (test : X → X → Bool) (xs : List X) → all_listed_pairs test xs ≡ all_pairs test xs
pairs-same test [] = refl
pairs-same test (x ∷ xs) = ap (λ b. list_all (test x) xs && b) (pairs-same test xs)

wishes : (i : Instance) (t : Times) (m : Measures) → AreMeasures i m → wishes_fit (parts_of i t m) ≡ true
wishes i t m are =
    let denied : list_all (pair_fits (length i.courses) (length i.rooms)) m.denied ≡ true = are.denied in
    let closed : list_all (pair_fits (length i.rooms) (i.days * i.periods)) (map (closed_slot i.periods) m.closed) ≡ true =
    list_all-map (pair_fits (length i.rooms) (i.days * i.periods)) (closed_slot i.periods) m.closed
    ∙ list_all-implied (is_triple (length i.rooms) i.days i.periods) (λ x. pair_fits (length i.rooms) (i.days * i.periods) (closed_slot i.periods x)) (closure_fits i) m.closed are.closed in
    let prefer : list_all (preference_fits (length i.courses) (length i.rooms)) m.prefer ≡ true = are.prefer in
    let once : all_pairs preferences_differ m.prefer ≡ true = sym (pairs-same other_pair m.prefer) ∙ are.one_preference in
    let robust : list_all row_fits m.robust ≡ true = are.robust in
    let rising : all_pairs rows_rise m.robust ≡ true = sym (pairs-same rises m.robust) ∙ are.rising in
    rw (students_of i, seats_of i, denied, closed, prefer, once, robust, rising) refl

pub well_formed_where : (i : Instance) (t : Times) (m : Measures) → IsInstance i → AreTimes i t.meetings → AreMeasures i m → long_fault i t m ≡ None → IsTrue (well_formed (parts_of i t m))
well_formed_where i t m is times are none = rw (lists i t m is are, numbers i t m is are, events i t m times are none, wishes i t m are) refl
