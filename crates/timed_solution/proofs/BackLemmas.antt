-- What is written of meetings is read as these meetings.
use Rattle.std.proofs.Common.{ℕ, ◌≡◌, ◌≤◌, ◌<◌, ◌+◌, ◌-◌, ◌++◌, Bool, true, false, cond, not, List, [], ◌∷◌, ◌≢◌, length, map, get_or, refl, ap, sym, ◌∙◌, arith, subst, suc, zero, append_assoc, append-nil}
use Rattle.std.specs.Prelude.{◌&&◌, ◌==◌, nat_lt, nat_le, Some, Ok, codes, bytes_eq, decimal}
use Rattle.std.specs.List.{list_all, list_any}
use Rattle.std.proofs.lemmas.Bool.{and_parts, not-true, eq-eqb, ne_eqb}
use Rattle.std.proofs.lemmas.Bool.Decides.{nat_tests}
use Rattle.std.proofs.lemmas.List.{length-map}
use Rattle.std.proofs.lemmas.List.Sums.{sum_by-append}
use Rattle.input_core.specs.Lines.{is_field}
use Rattle.input_core.specs.Fields.{name_of, number_below, or_fault}
use Rattle.input_core.specs.declared.faults.LineKind.TheVariants.{UnknownRoom}
use Rattle.input_core.proofs.ChainLemmas.{bind-ok, both}
use Rattle.text_lines.specs.Written.{rows_of}
use Rattle.text_lines.proofs.ReadBack.{unread-written, decimal-is_field}
use Rattle.ctt_reader.specs.Names.{course_at, room_at, place_of}
use Rattle.ctt_reader.specs.Naming.{course_name, room_name, no_room}
use Rattle.ctt_reader.specs.Entries.{course_names, room_names}
use Rattle.ctt_reader.specs.Promised.{IsInstance, is_room}
use Rattle.ctt_reader.specs.declared.instance.Instance.{Instance}
use Rattle.ctt_reader.specs.declared.instance.Room.{Room}
use Rattle.ctt_reader.proofs.EntryLemmas.{or_parts}
use Rattle.ctt_reader.proofs.FieldsBackLemmas.{number_below-back, at_most, under, name_of-back, name-is_field, place_of-back, named-at, passes-at}
use Rattle.ctt_reader.proofs.LinesBackLemmas.{room_parts, course_at-back, course_name-is_name}
use Rattle.timed_solution.specs.Times.{room_entry, meeting_in, same_time, held_of, lectures_of, admitted, meeting_of, times_from, times_of, is_meeting, are_apart, AreTimes}
use Rattle.timed_solution.specs.Writing.{meeting_fields, times_text, with_room, with_rooms, is_entry}
use Rattle.timed_solution.specs.declared.times.Meeting.{Meeting}
use Rattle.timed_solution.proofs.TimesLemmas.{same-sym}

-- ---- a line

pub record MeetingParts (i : Instance) (m : Meeting) : Type 0 where
  pub course : m.course < length i.courses
  pub room : m.room ≤ length i.rooms
  pub day : m.day < i.days
  pub period : m.period < i.periods

pub meeting_parts : (i : Instance) (m : Meeting) → is_meeting i m ≡ true → MeetingParts i m
meeting_parts i m h =
    let p = and_parts (nat_lt m.course (length i.courses) && nat_le m.room (length i.rooms) && nat_lt m.day i.days) (nat_lt m.period i.periods) h in
    let d = and_parts (nat_lt m.course (length i.courses) && nat_le m.room (length i.rooms)) (nat_lt m.day i.days) p.0 in
    let r = and_parts (nat_lt m.course (length i.courses)) (nat_le m.room (length i.rooms)) d.0 in
    record { course = under m.course (length i.courses) r.0; room = at_most m.room (length i.rooms) r.1; day = under m.day i.days d.1; period = under m.period i.periods p.1 }

known_room : (i : Instance) (k : ℕ) → IsInstance i → k < length i.rooms → is_room (get_or i.rooms k no_room) ≡ true
known_room i k is l = passes-at is_room i.rooms k no_room is.rooms l

room_at-back : (i : Instance) (k : ℕ) → IsInstance i → k < length i.rooms → room_at (room_names i.rooms) (get_or i.rooms k no_room).name ≡ Ok k
room_at-back i k is l =
    let name = (get_or i.rooms k no_room).name in
    let here : get_or (room_names i.rooms) k [] ≡ name = named-at (λ (r : Room). r.name) i.rooms k no_room [] l in
    let there : k < length (room_names i.rooms) = omega (arith, length-map i.rooms (λ (r : Room). r.name), l) in
    let placed : place_of name (room_names i.rooms) ≡ Some k = ap (λ x. place_of x (room_names i.rooms)) (sym here) ∙ place_of-back (room_names i.rooms) k [] is.room_names there in
    bind-ok (name_of name) _ name (name_of-back name (room_parts (get_or i.rooms k no_room) (known_room i k is l)).name) ∙ ap (λ o. or_fault o UnknownRoom) placed

-- the name of a room by its entry
room_name-of : (i : Instance) (k : ℕ) → room_name i (suc k) ≡ (get_or i.rooms k no_room).name
room_name-of i k =
    let some : suc k ≢ 0 = λ e. absurd (omega arith) in
    let before : suc k - 1 ≡ k = omega arith in
    rw (ne_eqb (suc k) 0 some, before) refl

entry-of : (i : Instance) (name : List ℕ) (k : ℕ) → bytes_eq name (codes "-") ≡ false → room_at (room_names i.rooms) name ≡ Ok k → room_entry (room_names i.rooms) name ≡ Ok (suc k)
entry-of i name k other e =
    let next : k + 1 ≡ suc k = omega arith in
    rw other (bind-ok (room_at (room_names i.rooms) name) _ k e ∙ ap Ok next)

room_entry-back : (i : Instance) (entry : ℕ) → IsInstance i → entry ≤ length i.rooms → room_entry (room_names i.rooms) (room_name i entry) ≡ Ok entry
room_entry-back i zero is l = refl
room_entry-back i (suc k) is l =
    let known : k < length i.rooms = omega arith in
    let name = (get_or i.rooms k no_room).name in
    ap (room_entry (room_names i.rooms)) (room_name-of i k)
    ∙ entry-of i name k (room_parts (get_or i.rooms k no_room) (known_room i k is known)).other (room_at-back i k is known)

meeting_in-back : (i : Instance) (m : Meeting) → IsInstance i → is_meeting i m ≡ true → meeting_in i (course_name i m.course) (room_name i m.room) (decimal m.day) (decimal m.period) ≡ Ok m
meeting_in-back i m is h =
    let p = meeting_parts i m h in
    bind-ok (course_at (course_names i.courses) (course_name i m.course)) _ m.course (course_at-back i m.course is p.course)
    ∙ bind-ok (room_entry (room_names i.rooms) (room_name i m.room)) _ m.room (room_entry-back i m.room is p.room)
    ∙ bind-ok (number_below i.days (decimal m.day)) _ m.day (number_below-back i.days m.day p.day (omega (arith, is.few_days)))
    ∙ bind-ok (number_below i.periods (decimal m.period)) _ m.period (number_below-back i.periods m.period p.period (omega (arith, is.few_periods)))

-- ---- what stands before

pub none-before : (m : Meeting) (before rest : List Meeting) → are_apart (before ++ m ∷ rest) ≡ true → list_any (same_time m) before ≡ false
none-before m [] rest h = refl
none-before m (x ∷ before) rest h =
    let p = and_parts (not (list_any (same_time x) (before ++ m ∷ rest))) (are_apart (before ++ m ∷ rest)) h in
    rw (same-sym m x) (rw (met x before rest (not-true _ p.0)) (none-before m before rest p.1))
  where
    met : (x : Meeting) (before rest : List Meeting) → list_any (same_time x) (before ++ m ∷ rest) ≡ false → same_time x m ≡ false
    met x [] rest h = (or_parts (same_time x m) (list_any (same_time x) rest) h).0
    met x (y ∷ before) rest h = met x before rest (or_parts (same_time x y) (list_any (same_time x) (before ++ m ∷ rest)) h).1

equal-self : (c : ℕ) → (c == c) ≡ true
equal-self c = eq-eqb c c refl

not_full : (n k : ℕ) → k < n → nat_le n k ≡ false
not_full n k h = grind (arith, nat_tests, h)

pub held-first : (course : ℕ) (m : Meeting) (meetings : List Meeting) → held_of course (m ∷ meetings) ≡ cond (m.course == course) 1 0 + held_of course meetings
held-first course m meetings = omega (arith, sum_by-append (λ (x : Meeting). cond (x.course == course) 1 0) (m ∷ []) meetings)

held-before : (m : Meeting) (before rest : List Meeting) → held_of m.course before + 1 ≤ held_of m.course (before ++ m ∷ rest)
held-before m before rest =
    let split = sum_by-append (λ (x : Meeting). cond (x.course == m.course) 1 0) before (m ∷ rest) in
    let here : ℕ = cond (m.course == m.course) 1 0 in
    let one : here ≡ 1 = rw (equal-self m.course) refl in
    omega (arith, split, one, held-first m.course m rest)

admitted-back : (i : Instance) (before rest : List Meeting) (m : Meeting) → AreTimes i (before ++ m ∷ rest) → admitted i before m ≡ Ok m
admitted-back i before rest m are =
    let room : held_of m.course before < lectures_of i.courses m.course = omega (arith, held-before m before rest, are.within m.course) in
    rw (none-before m before rest are.apart, not_full (lectures_of i.courses m.course) (held_of m.course before) room) refl

pub here-passes : {A : Type 0} (test : A → Bool) (before : List A) (x : A) (rest : List A) → list_all test (before ++ x ∷ rest) ≡ true → test x ≡ true
here-passes test [] x rest h = (and_parts (test x) (list_all test rest) h).0
here-passes test (y ∷ before) x rest h = here-passes test before x rest (and_parts (test y) (list_all test (before ++ x ∷ rest)) h).1

times_from-back : (i : Instance) (n : ℕ) (before meetings : List Meeting) → IsInstance i → AreTimes i (before ++ meetings) → times_from i before (rows_of n (map (meeting_fields i) meetings)) ≡ Ok (before ++ meetings)
times_from-back i n before [] is are = ap Ok (sym (append-nil before))
times_from-back i n before (m ∷ meetings) is are =
    let line : meeting_of i before (meeting_fields i m) ≡ Ok m =
    bind-ok (meeting_in i (course_name i m.course) (room_name i m.room) (decimal m.day) (decimal m.period)) (admitted i before) m (meeting_in-back i m is (here-passes (is_meeting i) before m meetings are.each))
    ∙ admitted-back i before meetings m are in
    let all : (before ++ m ∷ []) ++ meetings ≡ before ++ m ∷ meetings = append_assoc before (m ∷ []) meetings in
    rw line (times_from-back i (n + 1) (before ++ m ∷ []) meetings is (subst (λ ms. AreTimes i ms) (sym all) are) ∙ ap Ok all)

-- ---- the fields of the lines

room_name-is_field : (i : Instance) (entry : ℕ) → IsInstance i → entry ≤ length i.rooms → is_field (room_name i entry) ≡ true
room_name-is_field i zero is l = refl
room_name-is_field i (suc k) is l = ap is_field (room_name-of i k) ∙ name-is_field (get_or i.rooms k no_room).name (room_parts (get_or i.rooms k no_room) (known_room i k is (omega arith))).name

meeting-fields : (i : Instance) (m : Meeting) → IsInstance i → is_meeting i m ≡ true → list_all is_field (meeting_fields i m) ≡ true
meeting-fields i m is h =
    let p = meeting_parts i m h in
    rw (
      name-is_field (course_name i m.course) (course_name-is_name i m.course is p.course),
      room_name-is_field i m.room is p.room,
      decimal-is_field m.day (omega (arith, p.day, is.few_days)),
      decimal-is_field m.period (omega (arith, p.period, is.few_periods)),
    ) refl

lines-fields : (i : Instance) (meetings : List Meeting) → IsInstance i → list_all (is_meeting i) meetings ≡ true → list_all (list_all is_field) (map (meeting_fields i) meetings) ≡ true
lines-fields i [] is h = refl
lines-fields i (m ∷ meetings) is h =
    let p = and_parts (is_meeting i m) (list_all (is_meeting i) meetings) h in
    both (list_all is_field (meeting_fields i m)) (list_all (list_all is_field) (map (meeting_fields i) meetings)) (meeting-fields i m is p.0) (lines-fields i meetings is p.1)

-- what is written of times that a reader gives is read as these times
pub times-back : (i : Instance) (meetings : List Meeting) → IsInstance i → AreTimes i meetings → times_of i (times_text i meetings) ≡ Ok meetings
times-back i meetings is are =
    ap (λ u. times_from i [] u.rows) (unread-written (map (meeting_fields i) meetings) (lines-fields i meetings is are.each)) ∙ times_from-back i 1 [] meetings is are

-- ---- times with other rooms

roomed-each : (i : Instance) (meetings : List Meeting) (entries : List ℕ) → list_all (is_meeting i) meetings ≡ true → list_all (is_entry i) entries ≡ true → list_all (is_meeting i) (with_rooms meetings entries) ≡ true
roomed-each i [] entries h k = refl
roomed-each i (m ∷ meetings) [] h k = refl
roomed-each i (m ∷ meetings) (entry ∷ entries) h k =
    let p = and_parts (is_meeting i m) (list_all (is_meeting i) meetings) h in
    let q = and_parts (is_entry i entry) (list_all (is_entry i) entries) k in
    both (is_meeting i (with_room m entry)) (list_all (is_meeting i) (with_rooms meetings entries)) (roomed-is_meeting i m entry p.0 q.0) (roomed-each i meetings entries p.1 q.1)
  where
    roomed-is_meeting : (i : Instance) (m : Meeting) (entry : ℕ) → is_meeting i m ≡ true → is_entry i entry ≡ true → is_meeting i (with_room m entry) ≡ true
    roomed-is_meeting i m entry h k = grind (arith, h, k)

roomed-any : (m : Meeting) (meetings : List Meeting) (entries : List ℕ) → list_any (same_time m) meetings ≡ false → list_any (same_time m) (with_rooms meetings entries) ≡ false
roomed-any m [] entries h = refl
roomed-any m (x ∷ meetings) [] h = refl
roomed-any m (x ∷ meetings) (entry ∷ entries) h =
    let p = or_parts (same_time m x) (list_any (same_time m) meetings) h in
    rw p.0 (roomed-any m meetings entries p.1)

roomed-apart : (meetings : List Meeting) (entries : List ℕ) → are_apart meetings ≡ true → are_apart (with_rooms meetings entries) ≡ true
roomed-apart [] entries h = refl
roomed-apart (m ∷ meetings) [] h = refl
roomed-apart (m ∷ meetings) (entry ∷ entries) h =
    let p = and_parts (not (list_any (same_time m) meetings)) (are_apart meetings) h in
    both (not (list_any (same_time (with_room m entry)) (with_rooms meetings entries))) (are_apart (with_rooms meetings entries))
    (ap not (roomed-any m meetings entries (not-true (list_any (same_time m) meetings) p.0))) (roomed-apart meetings entries p.1)

roomed-held : (course : ℕ) (meetings : List Meeting) (entries : List ℕ) → held_of course (with_rooms meetings entries) ≤ held_of course meetings
roomed-held course [] entries = omega arith
roomed-held course (m ∷ meetings) [] = omega arith
roomed-held course (m ∷ meetings) (entry ∷ entries) =
    omega (arith, held-first course m meetings, held-first course (with_room m entry) (with_rooms meetings entries), roomed-held course meetings entries)

pub roomed-times : (i : Instance) (meetings : List Meeting) (entries : List ℕ) → AreTimes i meetings → list_all (is_entry i) entries ≡ true → AreTimes i (with_rooms meetings entries)
roomed-times i meetings entries are known = record {
  each = roomed-each i meetings entries are.each known;
  apart = roomed-apart meetings entries are.apart;
  within = λ course. omega (arith, roomed-held course meetings entries, are.within course);
}

-- what was added to no text is the text
pub text_is : (i : Instance) (meetings : List Meeting) (entries : List ℕ) (text start : List ℕ) (ms : List Meeting) (es : List ℕ) → text ≡ start ++ times_text i (with_rooms ms es) → start ≡ [] → ms ≡ meetings → es ≡ entries
    → text ≡ times_text i (with_rooms meetings entries)
text_is i meetings entries text start ms es e none listed chosen = e ∙ rw (none, listed, chosen) refl
