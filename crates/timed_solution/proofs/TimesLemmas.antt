-- What the meetings that are read keep to.
use Rattle.std.proofs.Common.{ℕ, ◌≡◌, ◌≤◌, ◌<◌, ◌+◌, ◌++◌, Bool, true, false, cond, not, List, [], ◌∷◌, length, get_or, refl, ap, sym, ◌∙◌, arith, subst, suc, zero}
use Rattle.std.specs.Prelude.{◌&&◌, ◌||◌, ◌==◌, nat_lt, nat_le, Result, Ok, Err, codes, bytes_eq}
use Rattle.std.specs.List.{list_all, list_any}
use Rattle.std.proofs.lemmas.Bool.{and_parts, not-true}
use Rattle.std.proofs.lemmas.Bool.Decides.{nat_tests}
use Rattle.input_core.specs.Rows.{unread}
use Rattle.input_core.specs.Fields.{◌>>=◌, in_line, number_below, name_of, or_fault}
use Rattle.input_core.specs.declared.cursors.Row.{Row}
use Rattle.input_core.specs.declared.faults.LineFault.{LineFault}
use Rattle.input_core.specs.declared.faults.LineKind.TheVariants.{RepeatedMeeting, TooMany, UnknownRoom}
use Rattle.input_core.proofs.ChainLemmas.{chained, ok-same, else-ok, unless-ok, in_line-ok, number_below-ok, or_fault-ok, both}
use Rattle.ctt_reader.specs.Names.{course_at, room_at, place_of}
use Rattle.ctt_reader.specs.Entries.{course_names, room_names}
use Rattle.ctt_reader.specs.Promised.{IsInstance, is_course, is_name}
use Rattle.ctt_reader.specs.declared.instance.Course.{Course}
use Rattle.ctt_reader.specs.declared.instance.Instance.{Instance}
use Rattle.ctt_reader.specs.declared.instance.Room.{Room}
use Rattle.ctt_reader.proofs.PromiseLemmas.{place_of-ok, course_at-ok}
use Rattle.std.proofs.lemmas.List.{length-map}
use Rattle.std.proofs.lemmas.List.Sums.{sum_by-append}
use Rattle.ctt_reader.proofs.EntryLemmas.{all-more, or_parts}
use Rattle.timed_solution.specs.Times.{room_entry, meeting_in, same_time, held_of, lectures_of, admitted, admitted_in, meeting_of, times_from, times_of, is_meeting, are_apart, AreTimes}
use Rattle.timed_solution.specs.declared.times.Meeting.{Meeting}

pub any-more : {A : Type 0} (test : A → Bool) (xs : List A) (x : A) → list_any test (xs ++ x ∷ []) ≡ (list_any test xs || test x)
any-more test [] x = elim (test x) as (λ t. (t || false) ≡ (false || t)) [ true ↦ refl | false ↦ refl ]
any-more test (y ∷ ys) x = elim (test y) as (λ t. (t || list_any test (ys ++ x ∷ [])) ≡ ((t || list_any test ys) || test x)) [ true ↦ refl | false ↦ any-more test ys x ]

pub held-more : (course : ℕ) (meetings : List Meeting) (m : Meeting) → held_of course (meetings ++ m ∷ []) ≡ held_of course meetings + cond (m.course == course) 1 0
held-more course meetings m = omega (arith, sum_by-append (λ (x : Meeting). cond (x.course == course) 1 0) meetings (m ∷ []))

pub lectures-at : (courses : List Course) (k : ℕ) (d : Course) → k < length courses → lectures_of courses k ≡ (get_or courses k d).lectures
lectures-at [] k d l = absurd (omega arith)
lectures-at (c ∷ courses) zero d l = refl
lectures-at (c ∷ courses) (suc k) d l = lectures-at courses k d (omega arith)

at_most : (n high : ℕ) → nat_le n high ≡ true → n ≤ high
at_most n high h = grind (arith, nat_tests, h)

equal_of : (a b : ℕ) → (a == b) ≡ true → a ≡ b
equal_of a b h = grind (arith, nat_tests, h)

four : (a b c d : Bool) → a ≡ true → b ≡ true → c ≡ true → d ≡ true → (a && b && c && d) ≡ true
four a b c d p q r s = rw (p, q, r, s) refl

pub lectures-few : (courses : List Course) (k : ℕ) → list_all is_course courses ≡ true → lectures_of courses k ≤ 1000
lectures-few [] k h = omega arith
lectures-few (c ∷ courses) zero h =
    let p = and_parts (is_course c) _ h in
    let a = and_parts (is_name c.name && is_name c.teacher && nat_le c.lectures 1000 && nat_le c.min_days 1000) (nat_le c.students 1000000) p.0 in
    let b = and_parts (is_name c.name && is_name c.teacher && nat_le c.lectures 1000) (nat_le c.min_days 1000) a.0 in
    at_most c.lectures 1000 (and_parts (is_name c.name && is_name c.teacher) (nat_le c.lectures 1000) b.0).1
lectures-few (c ∷ courses) (suc k) h = lectures-few courses k (and_parts (is_course c) _ h).1

equal-sym : (a b : ℕ) → (a == b) ≡ (b == a)
equal-sym a b = grind (arith, nat_tests)

pub same-sym : (a b : Meeting) → same_time a b ≡ same_time b a
same-sym a b = rw (equal-sym a.course b.course, equal-sym a.day b.day, equal-sym a.period b.period) refl

apart-more : (meetings : List Meeting) (m : Meeting) → are_apart meetings ≡ true → list_any (same_time m) meetings ≡ false → are_apart (meetings ++ m ∷ []) ≡ true
apart-more [] m h e = refl
apart-more (x ∷ meetings) m h e =
    let p = and_parts (not (list_any (same_time x) meetings)) (are_apart meetings) h in
    let q = or_parts (same_time m x) (list_any (same_time m) meetings) e in
    let none : list_any (same_time x) (meetings ++ m ∷ []) ≡ false = any-more (same_time x) meetings m ∙ rw (not-true (list_any (same_time x) meetings) p.0, same-sym x m, q.0) refl in
    both (not (list_any (same_time x) (meetings ++ m ∷ []))) (are_apart (meetings ++ m ∷ [])) (ap not none) (apart-more meetings m p.1 q.1)

-- a meeting that may follow those before it
pub record IsAdmitted (i : Instance) (before : List Meeting) (m : Meeting) : Type 0 where
  pub known : is_meeting i m ≡ true
  pub apart : list_any (same_time m) before ≡ false
  pub room : held_of m.course before < lectures_of i.courses m.course

room_at-ok : (names : List (List ℕ)) (field : List ℕ) (k : ℕ) → room_at names field ≡ Ok k → nat_lt k (length names) ≡ true
room_at-ok names field k e =
    let c = chained (name_of field) (λ name. or_fault (place_of name names) UnknownRoom) k e in
    place_of-ok c.first names k (or_fault-ok (place_of c.first names) UnknownRoom k c.rest)

next_le : (k n : ℕ) → nat_lt k n ≡ true → nat_le (k + 1) n ≡ true
next_le k n h = grind (arith, nat_tests, h)

no_room : (n : ℕ) → nat_le 0 n ≡ true
no_room n = grind (arith, nat_tests)

room_entry-ok : (rooms : List (List ℕ)) (field : List ℕ) (r : ℕ) → room_entry rooms field ≡ Ok r → nat_le r (length rooms) ≡ true
room_entry-ok rooms field r e = by_case (bytes_eq field (codes "-")) e
  where
    by_case : (t : Bool) → cond t (Ok 0) (room_at rooms field >>= λ room. Ok (room + 1)) ≡ Ok r → nat_le r (length rooms) ≡ true
    by_case true e = let same : 0 ≡ r = ok-same 0 r e in subst (λ (x : ℕ). nat_le x (length rooms) ≡ true) same (no_room (length rooms))
    by_case false e =
        let k = chained (room_at rooms field) (λ room. Ok (room + 1)) r e in
        let same = ok-same (k.first + 1) r k.rest in
        subst (λ (x : ℕ). nat_le x (length rooms) ≡ true) same (next_le k.first (length rooms) (room_at-ok rooms field k.first k.is))

meeting_in-ok : (i : Instance) (course room day period : List ℕ) (m : Meeting) → meeting_in i course room day period ≡ Ok m → is_meeting i m ≡ true
meeting_in-ok i course room day period m e =
    let c = chained (course_at (course_names i.courses) course) _ m e in
    let r = chained (room_entry (room_names i.rooms) room) _ m c.rest in
    let d = chained (number_below i.days day) _ m r.rest in
    let p = chained (number_below i.periods period) _ m d.rest in
    let same = ok-same _ m p.rest in
    let kc : nat_lt c.first (length i.courses) ≡ true = ap (nat_lt c.first) (sym (length-map i.courses (λ (x : Course). x.name))) ∙ course_at-ok (course_names i.courses) course c.first c.is in
    let kr : nat_le r.first (length i.rooms) ≡ true = ap (nat_le r.first) (sym (length-map i.rooms (λ (x : Room). x.name))) ∙ room_entry-ok (room_names i.rooms) room r.first r.is in
    let kd = number_below-ok i.days day d.first d.is in
    let kp = number_below-ok i.periods period p.first p.is in
    subst (λ (x : Meeting). is_meeting i x ≡ true) same (four (nat_lt c.first (length i.courses)) (nat_le r.first (length i.rooms)) (nat_lt d.first i.days) (nat_lt p.first i.periods) kc kr kd kp)

less : (n k : ℕ) → nat_le n k ≡ false → k < n
less n k h = grind (arith, nat_tests, h)

admitted_in-ok : (i : Instance) (before : List Meeting) (course room day period : List ℕ) (m : Meeting) → admitted_in i before course room day period ≡ Ok m → IsAdmitted i before m
admitted_in-ok i before course room day period m e =
    let k = chained (meeting_in i course room day period) (admitted i before) m e in
    let n = k.first in
    let t = else-ok (list_any (same_time n) before) (cond (nat_le (lectures_of i.courses n.course) (held_of n.course before)) (Err (TooMany (lectures_of i.courses n.course))) (Ok n)) m RepeatedMeeting k.rest in
    let u = unless-ok (nat_le (lectures_of i.courses n.course) (held_of n.course before)) n m (TooMany (lectures_of i.courses n.course)) t.1 in
    subst (λ (x : Meeting). IsAdmitted i before x) u.1 (record {
      known = meeting_in-ok i course room day period n k.is;
      apart = t.0;
      room = less (lectures_of i.courses n.course) (held_of n.course before) u.0;
    })

pub meeting_of-ok : (i : Instance) (before : List Meeting) (fields : List (List ℕ)) (m : Meeting) → meeting_of i before fields ≡ Ok m → IsAdmitted i before m
meeting_of-ok i before [] m e = cc
meeting_of-ok i before (a ∷ []) m e = cc
meeting_of-ok i before (a ∷ b ∷ []) m e = cc
meeting_of-ok i before (a ∷ b ∷ c ∷ []) m e = admitted_in-ok i before a (codes "-") b c m e
meeting_of-ok i before (a ∷ b ∷ c ∷ d ∷ []) m e = admitted_in-ok i before a b c d m e
meeting_of-ok i before (a ∷ b ∷ c ∷ d ∷ x ∷ more) m e = cc

-- the room that is left makes a course's meetings few
pub admitted-few : (i : Instance) (before : List Meeting) (m : Meeting) → IsInstance i → IsAdmitted i before m → held_of m.course before < 1000
admitted-few i before m good h = omega (arith, lectures-few i.courses m.course good.courses, h.room)

within-more : (i : Instance) (before : List Meeting) (m : Meeting) (course : ℕ) → held_of course before ≤ lectures_of i.courses course → held_of m.course before < lectures_of i.courses m.course → held_of course (before ++ m ∷ []) ≤ lectures_of i.courses course
within-more i before m course h room =
    elim (m.course == course) as (λ t. (m.course == course) ≡ t → held_of course (before ++ m ∷ []) ≤ lectures_of i.courses course) [
      | true ↦ λ e.
          let same : m.course ≡ course = equal_of m.course course e in
          let more : held_of course (before ++ m ∷ []) ≡ held_of course before + 1 = held-more course before m ∙ rw e refl in
          let left : held_of course before < lectures_of i.courses course = subst (λ (c : ℕ). held_of c before < lectures_of i.courses c) same room in
          omega (arith, more, left)
      | false ↦ λ e.
          let more : held_of course (before ++ m ∷ []) ≡ held_of course before + 0 = held-more course before m ∙ rw e refl in
          omega (arith, more, h)
    ] refl

AreTimes-more : (i : Instance) (before : List Meeting) (m : Meeting) → IsAdmitted i before m → AreTimes i before → AreTimes i (before ++ m ∷ [])
AreTimes-more i before m new old = record {
  each = all-more (is_meeting i) before m old.each new.known;
  apart = apart-more before m old.apart new.apart;
  within = λ course. within-more i before m course (old.within course) new.room;
}

times_from-ok : (i : Instance) (rows : List (Result Row LineFault)) (before meetings : List Meeting) → AreTimes i before → times_from i before rows ≡ Ok meetings → AreTimes i meetings
times_from-ok i [] before meetings h e = subst (λ (ms : List Meeting). AreTimes i ms) (ok-same before meetings e) h
times_from-ok i (Err fault ∷ rows) before meetings h e = cc
times_from-ok i (Ok row ∷ rows) before meetings h e =
    let k = chained (in_line row.line (meeting_of i before row.fields)) _ meetings e in
    let new = meeting_of-ok i before row.fields k.first (in_line-ok row.line (meeting_of i before row.fields) k.first k.is) in
    times_from-ok i rows (before ++ k.first ∷ []) meetings (AreTimes-more i before k.first new h) k.rest

none_held : (courses : List Course) (course : ℕ) → held_of course [] ≤ lectures_of courses course
none_held courses course = omega arith

pub times_of-ok : (i : Instance) (bytes : List ℕ) (meetings : List Meeting) → times_of i bytes ≡ Ok meetings → AreTimes i meetings
times_of-ok i bytes meetings e = times_from-ok i (unread bytes).rows [] meetings (record { each = refl; apart = refl; within = none_held i.courses }) e

under : (k n : ℕ) → nat_lt k n ≡ true → k < n
under k n h = grind (arith, nat_tests, h)

pub course-known : (i : Instance) (m : Meeting) → is_meeting i m ≡ true → m.course < length i.courses
course-known i m h =
    let a = and_parts (nat_lt m.course (length i.courses) && nat_le m.room (length i.rooms) && nat_lt m.day i.days) (nat_lt m.period i.periods) h in
    let b = and_parts (nat_lt m.course (length i.courses) && nat_le m.room (length i.rooms)) (nat_lt m.day i.days) a.0 in
    under m.course (length i.courses) (and_parts (nat_lt m.course (length i.courses)) (nat_le m.room (length i.rooms)) b.0).0

not_reached : (n k : ℕ) → k < n → nat_le n k ≡ false
not_reached n k h = grind (arith, nat_tests, h)

reached : (n k : ℕ) → n ≤ k → nat_le n k ≡ true
reached n k h = grind (arith, nat_tests, h)

pub admitted-is : (i : Instance) (before : List Meeting) (m : Meeting) (courses : List Course) (d : Course) (held : ℕ) → courses ≡ i.courses → is_meeting i m ≡ true → list_any (same_time m) before ≡ false
    → held ≡ held_of m.course before → held < (get_or courses m.course d).lectures → Ok m ≡ admitted i before m
admitted-is i before m courses d held same known apart is less =
    let limit : lectures_of i.courses m.course ≡ (get_or courses m.course d).lectures = lectures-at i.courses m.course d (course-known i m known) ∙ ap (λ (cs : List Course). (get_or cs m.course d).lectures) (sym same) in
    let open_still : nat_le (lectures_of i.courses m.course) (held_of m.course before) ≡ false = not_reached (lectures_of i.courses m.course) (held_of m.course before) (omega (arith, limit, is, less)) in
    rw (apart, open_still) refl

pub admitted-over : (i : Instance) (before : List Meeting) (m : Meeting) (courses : List Course) (d : Course) (held : ℕ) → courses ≡ i.courses → is_meeting i m ≡ true → list_any (same_time m) before ≡ false
    → held ≡ held_of m.course before → (get_or courses m.course d).lectures ≤ held → Err (TooMany (get_or courses m.course d).lectures) ≡ admitted i before m
admitted-over i before m courses d held same known apart is more =
    let limit : lectures_of i.courses m.course ≡ (get_or courses m.course d).lectures = lectures-at i.courses m.course d (course-known i m known) ∙ ap (λ (cs : List Course). (get_or cs m.course d).lectures) (sym same) in
    let full : nat_le (lectures_of i.courses m.course) (held_of m.course before) ≡ true = reached (lectures_of i.courses m.course) (held_of m.course before) (omega (arith, limit, is, more)) in
    rw (apart, full) (ap (λ n. Err (TooMany n)) (sym limit))
