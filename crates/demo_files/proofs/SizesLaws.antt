-- There are few meetings, and no limit is passed.
use Rattle.std.proofs.Common.{ℕ, zero, suc, ◌≡◌, ◌<◌, ◌≤◌, ◌+◌, ◌*◌, ◌/◌, ◌%◌, ◌^◌, ◌++◌, inl, inr, Bool, true, false, refl, arith, ap, sym, ◌∙◌, subst, List, [], ◌∷◌, length, map, get_or, take}
use Rattle.std.specs.Prelude.{◌==◌, nat_lt, None}
use Rattle.std.specs.List.{count_by}
use Rattle.std.proofs.lemmas.Bool.{cases_lt, cases_Bool, and_parts, le-ltb, leb-true, eqb-true, false_from_ne_true}
use Rattle.std.proofs.lemmas.List.{length-map, length-append, length-take, length_push, take_more, take_all, get_or-map}
use Rattle.numbers.specs.Below.{first_from}
use Rattle.problem_core.specs.Facts.{Facts, Event, event_at, no_event}
use Rattle.problem_core.specs.OfParts.{event_of}
use Rattle.problem_core.specs.declared.parts.EventPart.{EventPart}
use Rattle.problem_core.specs.Courses.{passing, is_of_course, meetings_of}
use Rattle.problem_core.specs.Passing.{passing-few, passing-take, nth_is}
use Rattle.problem_core.specs.Limits.{limit_of, course_limit}
use Rattle.meeting_patterns.specs.Pattern.{IsBefore, ArePatterns, pattern, pattern_at, masks_at, is_mask, in_rooms, in_courses, patterns_of}
use Rattle.meeting_patterns.specs.declared.pattern.Pattern.{Pattern}
use Rattle.meeting_patterns.proofs.ListLemmas.{patterns_are}
use Rattle.packing_model.specs.declared.row.Row.TheVariants.{Event as EventRow, RoomSlot, CourseRoom}
use Rattle.packing_model.specs.Rows.{stands_in, has_some, has_two, event_rows, slot_rows, course_rows}
use Rattle.packing_model.specs.Built.{rows_of, model_limit}
use Rattle.ctt_reader.specs.declared.instance.Course.{Course}
use Rattle.ctt_reader.specs.declared.instance.Room.{Room}
use Rattle.timed_solution.specs.declared.times.Meeting.{Meeting}
use Rattle.timed_solution.specs.Times.{held_of}
use Rattle.measure_file.specs.Grammar.{no_measures}
use Rattle.room_model.specs.ProblemOf.{event_part, problem_of}
use Rattle.room_model.specs.Long.{fault_after, unless_found, long_from, long_fault}
use Rattle.room_model.specs.Existence.{no_meeting}
use Rattle.room_model.proofs.PlainLemmas.{never_long}
use Rattle.demo_files.specs.Generator as made
use Rattle.demo_files.specs.Generator.{indices, lectures_at, instance_of, times_of, measures_of}
use Rattle.demo_files.specs.Sizes.{IsSmall}
use Rattle.demo_files.proofs.IndexLemmas.{length-mapped, joined-more, count-append}
use Rattle.demo_files.proofs.TimesLaws.{held-past, held-below, times_fit}

abbrev facts : ℕ → Facts
facts n = problem_of (instance_of n) (times_of n) (measures_of n)

-- ---- meetings

total-meetings : (n : ℕ) → length (times_of n).meetings + (n % 3 + 1) / 2 ≡ 2 * n
total-meetings zero = refl
total-meetings (suc n) =
    let more : length (times_of (suc n)).meetings ≡ length (times_of n).meetings + lectures_at n =
    ap length (joined-more made.meetings_of n) ∙ omega (arith, length-append (times_of n).meetings (made.meetings_of n), length-mapped (made.meeting_at n) (lectures_at n)) in
    omega (arith, more, total-meetings n)

few_meetings : (n : ℕ) → length (times_of n).meetings ≤ 2 * n
few_meetings n = omega (arith, total-meetings n)

length-events : (n : ℕ) → length (facts n).events ≡ length (times_of n).meetings
length-events n = length-map (map (event_part 8 (measures_of n)) (times_of n).meetings) event_of ∙ length-map (times_of n).meetings (event_part 8 (measures_of n))

-- the numbers that pass, of the places of a list whose elements pass
passing-count : {A : Type 0} (test : ℕ → Bool) (own : A → Bool) (xs : List A) (d : A) (n : ℕ) → n ≤ length xs → ((e : ℕ) → e < length xs → test e ≡ own (get_or xs e d))
    → length (passing test n) ≡ count_by own (take n xs)
passing-count test own xs d zero l h = refl
passing-count test own xs d (suc n) l h =
    let rest = passing-count test own xs d n (omega arith) h in
    let here = h n (omega arith) in
    let next : suc n ≡ n + 1 = omega arith in
    let cut : take (suc n) xs ≡ take n xs ++ get_or xs n d ∷ [] = ap (λ k. take k xs) next ∙ take_more xs n d (omega arith) in
    let counted = count-append own (take n xs) (get_or xs n d ∷ []) in
    elim (cases_Bool (test n)) [
      | inl hit ↦
          let one : count_by own (get_or xs n d ∷ []) ≡ 1 = rw (sym here ∙ hit) refl in
          rw (hit, cut) (omega (arith, length_push (passing test n) n, rest, counted, one))
      | inr miss ↦
          let none : count_by own (get_or xs n d ∷ []) ≡ 0 = rw (sym here ∙ miss) refl in
          rw (miss, cut) (omega (arith, rest, counted, none))
    ]

course-at : (n e : ℕ) → e < length (times_of n).meetings → (event_at (facts n) e).course ≡ (get_or (times_of n).meetings e no_meeting).course
course-at n e l =
    let meetings = (times_of n).meetings in
    let part : EventPart = event_part 8 (measures_of n) no_meeting in
    let there : e < length (map (event_part 8 (measures_of n)) meetings) = omega (arith, l, length-map meetings (event_part 8 (measures_of n))) in
    ap (λ (x : Event). x.course) (get_or-map event_of (map (event_part 8 (measures_of n)) meetings) e part no_event there)
    ∙ ap (λ (x : EventPart). x.course) (get_or-map (event_part 8 (measures_of n)) meetings e no_meeting part l)

meetings-held : (n c : ℕ) → meetings_of (facts n) c ≡ held_of c (times_of n).meetings
meetings-held n c =
    let meetings = (times_of n).meetings in
    passing-count (is_of_course (facts n) c) (λ (m : Meeting). m.course == c) meetings no_meeting (length (facts n).events) (omega (arith, length-events n)) (λ e l. ap (λ x. x == c) (course-at n e l))
    ∙ ap (held_of c) (take_all (length (facts n).events) meetings (omega (arith, length-events n)))

few-held : (n c : ℕ) → held_of c (times_of n).meetings ≤ lectures_at c
few-held n c = elim (cases_lt c n) [ inl known ↦ omega (arith, held-below n c known) | inr past ↦ omega (arith, held-past n c past) ]

few_of_course : (n c : ℕ) → meetings_of (facts n) c ≤ lectures_at c
few_of_course n c = omega (arith, meetings-held n c, few-held n c)

-- ---- the problem

same-faults : (n : ℕ) (before rest : List Meeting) → long_from (instance_of n) (measures_of n) before rest ≡ long_from (instance_of n) no_measures before rest
same-faults n before [] = refl
same-faults n before (x ∷ rest) = ap (unless_found (fault_after (instance_of n) no_measures before x)) (same-faults n (before ++ x ∷ []) rest)

none_long : (n : ℕ) → long_fault (instance_of n) (times_of n) (measures_of n) ≡ None
none_long n = same-faults n [] (times_of n).meetings ∙ never_long (instance_of n) (times_of n) (times_fit n)

first_from-none : (test : ℕ → Bool) (r n : ℕ) → ((k : ℕ) → test k ≡ false) → first_from test r n ≡ 0
first_from-none test r zero h = refl
first_from-none test r (suc n) h = rw (h r) (first_from-none test (r + 1) n h)

no_limit : (n : ℕ) → n ≤ 300 → limit_of (facts n) ≡ None
no_limit n few =
    let meetings : nat_lt 4000 (length (facts n).events) ≡ false = le-ltb 4000 (length (facts n).events) (omega (arith, few, few_meetings n, length-events n)) in
    let crowded = first_from-none (λ c. nat_lt 12 (meetings_of (facts n) c)) 0 (length (facts n).students) (λ c. le-ltb 12 (meetings_of (facts n) c) (omega (arith, few_of_course n c))) in
    rw meetings (ap (course_limit (facts n)) crowded)

-- ---- the patterns

masks-few : (p : Facts) (c r : ℕ) → meetings_of p c ≤ 3 → length (masks_at p c r) ≤ 8
masks-few p c r few = omega (arith, passing-few (is_mask p c r) (2 ^ meetings_of p c), eight (meetings_of p c) few)
  where
    eight : (k : ℕ) → k ≤ 3 → 2 ^ k ≤ 8
    eight zero l = omega arith
    eight (suc zero) l = omega arith
    eight (suc (suc zero)) l = omega arith
    eight (suc (suc (suc zero))) l = omega arith
    eight (suc (suc (suc (suc k)))) l = absurd (omega arith)

in_rooms-few : (p : Facts) (c r : ℕ) → meetings_of p c ≤ 3 → length (in_rooms p c r) ≤ r * 8
in_rooms-few p c zero few = omega arith
in_rooms-few p c (suc r) few =
    omega (arith, length-append (in_rooms p c r) (map (pattern c r) (masks_at p c r)), length-map (masks_at p c r) (pattern c r), masks-few p c r few, in_rooms-few p c r few)

in_courses-few : (p : Facts) (n : ℕ) → length p.capacity ≡ 12 → ((c : ℕ) → meetings_of p c ≤ 3) → length (in_courses p n) ≤ n * 96
in_courses-few p zero rooms few = omega arith
in_courses-few p (suc n) rooms few =
    omega (arith, length-append (in_courses p n) (in_rooms p n (length p.capacity)), in_rooms-few p n (length p.capacity) (few n), rooms, in_courses-few p n rooms few)

-- ---- the base rows

-- a course of one meeting has one pattern in a room
one_pattern : (p : Facts) (s : List Pattern) (c r : ℕ) → ArePatterns p s → meetings_of p c ≤ 1 → has_two p s (CourseRoom c r) ≡ false
one_pattern p s c r are few = false_from_ne_true (has_two p s (CourseRoom c r)) (λ h.
    let test : ℕ → Bool = λ i. stands_in p (CourseRoom c r) (pattern_at s i) in
    let two : 2 ≤ length (passing test (length s)) = leb-true 2 (length (passing test (length s))) h in
    let first = nth_is test (length s) 0 (omega (arith, two)) in
    let second = nth_is test (length s) 1 (omega (arith, two)) in
    apart test (get_or (passing test (length s)) 0 0) (get_or (passing test (length s)) 1 0) first.below second.below first.passes second.passes first.place second.place)
  where
    two_masks : (x y : Pattern) (m : ℕ) → IsBefore x y → x.course ≡ y.course → x.room ≡ y.room → 1 ≤ x.mask → y.mask < 2 ^ m → m ≤ 1 → ⊥
    two_masks x y m before course room some below few = elim before [
      | inl earlier ↦ absurd (omega (arith, earlier, course))
      | inr (same, inl lower) ↦ absurd (omega (arith, lower, room))
      | inr (same, inr (alike, less)) ↦ absurd (omega (arith, less, some, below, power m few))
    ]
      where
        power : (m : ℕ) → m ≤ 1 → 2 ^ m ≤ 2
        power zero l = omega arith
        power (suc zero) l = omega arith
        power (suc (suc m)) l = absurd (omega arith)

    apart : (test : ℕ → Bool) (i j : ℕ) → i < length s → j < length s → stands_in p (CourseRoom c r) (pattern_at s i) ≡ true → stands_in p (CourseRoom c r) (pattern_at s j) ≡ true
        → length (passing test i) ≡ 0 → length (passing test j) ≡ 1 → ⊥
    apart test i j l m hi hj pi pj =
        let a = and_parts ((pattern_at s i).course == c) ((pattern_at s i).room == r) hi in
        let b = and_parts ((pattern_at s j).course == c) ((pattern_at s j).room == r) hj in
        let ci = eqb-true (pattern_at s i).course c a.0 in
        let cj = eqb-true (pattern_at s j).course c b.0 in
        let ri = eqb-true (pattern_at s i).room r a.1 in
        let rj = eqb-true (pattern_at s j).room r b.1 in
        let limit : meetings_of p (pattern_at s j).course ≤ 1 = subst (λ k. meetings_of p k ≤ 1) (sym cj) few in
        two_masks (pattern_at s i) (pattern_at s j) (meetings_of p (pattern_at s j).course) (are.rising i j (less test i j pi pj) m) (ci ∙ sym cj) (ri ∙ sym rj) (are.each i l).some (are.each j m).of_course limit
      where
        less : (test : ℕ → Bool) (i j : ℕ) → length (passing test i) ≡ 0 → length (passing test j) ≡ 1 → i < j
        less test i j none one = elim (cases_lt i j) [
          | inl before ↦ before
          | inr after ↦
              let front = ap length (passing-take test j i after) in
              absurd (omega (arith, front, length-take (length (passing test j)) (passing test i), none, one))
        ]

length-event_rows : (p : Facts) (s : List Pattern) → length (event_rows p s) ≤ length p.events
length-event_rows p s =
    omega (arith, length-map (passing (λ e. has_some p s (EventRow e)) (length p.events)) EventRow, passing-few (λ e. has_some p s (EventRow e)) (length p.events))

slot_rows-few : (p : Facts) (s : List Pattern) (r : ℕ) → p.slots ≡ 40 → length (slot_rows p s r) ≤ r * 40
slot_rows-few p s zero slots = omega arith
slot_rows-few p s (suc r) slots =
    let found = passing (λ t. has_some p s (RoomSlot r t)) p.slots in
    omega (arith, slots, length-append (slot_rows p s r) (map (RoomSlot r) found), length-map found (RoomSlot r), passing-few (λ t. has_some p s (RoomSlot r t)) p.slots, slot_rows-few p s r slots)

none-pass : (test : ℕ → Bool) (n : ℕ) → ((k : ℕ) → test k ≡ false) → passing test n ≡ []
none-pass test zero h = refl
none-pass test (suc n) h = rw (h n) (none-pass test n h)

-- two courses of three have rows of their own
course_rows-few : (p : Facts) (s : List Pattern) (c : ℕ) → length p.capacity ≡ 12 → ArePatterns p s → ((k : ℕ) → meetings_of p k ≤ lectures_at k) → length (course_rows p s c) ≤ 12 * (2 * c / 3)
course_rows-few p s zero rooms are few = omega arith
course_rows-few p s (suc c) rooms are few =
    let found = passing (λ r. has_two p s (CourseRoom c r)) (length p.capacity) in
    let whole : length (course_rows p s (suc c)) ≡ length (course_rows p s c) + length found =
    omega (arith, length-append (course_rows p s c) (map (CourseRoom c) found), length-map found (CourseRoom c)) in
    let rest = course_rows-few p s c rooms are few in
    let at_most : length found ≤ 12 = omega (arith, rooms, passing-few (λ r. has_two p s (CourseRoom c r)) (length p.capacity)) in
    elim (cases_lt 0 (c % 3)) [
      | inl more ↦ omega (arith, whole, rest, at_most, more)
      | inr one ↦
          let single : meetings_of p c ≤ 1 = omega (arith, one, few c) in
          let none : length found ≡ 0 = ap length (none-pass (λ r. has_two p s (CourseRoom c r)) (length p.capacity) (λ r. one_pattern p s c r are single)) in
          omega (arith, whole, rest, none, one)
    ]

no_model_limit : (n : ℕ) → n ≤ 300 → model_limit (facts n) ≡ None
no_model_limit n few =
    let p = facts n in
    let s = patterns_of p in
    let courses : length p.students ≡ n = length-map (instance_of n).courses (λ (x : Course). x.students) ∙ length-mapped made.course_at n in
    let rooms : length p.capacity ≡ 12 = length-map (instance_of n).rooms (λ (x : Room). x.capacity) ∙ length-mapped made.room_at 12 in
    let patterns : length s ≤ 28800 = omega (arith, few, courses, in_courses-few p (length p.students) rooms (λ c. omega (arith, few_of_course n c))) in
    let first = length-event_rows p s in
    let second = slot_rows-few p s (length p.capacity) refl in
    let third = course_rows-few p s (length p.students) rooms (patterns_are p) (few_of_course n) in
    let joined = length-append (event_rows p s ++ slot_rows p s (length p.capacity)) (course_rows p s (length p.students)) in
    let earlier = length-append (event_rows p s) (slot_rows p s (length p.capacity)) in
    let rows : length (rows_of p) ≤ 4000 = omega (arith, few, courses, rooms, first, second, third, joined, earlier, few_meetings n, length-events n) in
    rw (le-ltb 200000 (length s) (omega (arith, patterns)), le-ltb 4000 (length (rows_of p)) rows) refl

pub is_small : (n : ℕ) → n ≤ 300 → IsSmall n
is_small n few = record {
  few_meetings = few_meetings n;
  few_of_a_course = λ c. omega (arith, few_of_course n c);
  model = record { problem = record { short = none_long n; few = no_limit n few }; few = no_model_limit n few };
}
