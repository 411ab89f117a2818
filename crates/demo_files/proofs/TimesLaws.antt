-- The times are such as the reader of timed solutions gives: a meeting is known, no two of a course are in one slot, and
-- a course has as many as its lectures.
use Rattle.std.proofs.Common.{ℕ, zero, suc, ◌≡◌, ◌<◌, ◌≤◌, ◌+◌, ◌/◌, ◌%◌, inl, inr, Bool, true, not, cond, ◌&&◌, refl, arith, ap, ◌∙◌, List, [], ◌∷◌, length, map}
use Rattle.std.specs.Prelude.{◌==◌, nat_lt, nat_le}
use Rattle.std.specs.List.{list_all, list_any, flat_map}
use Rattle.std.proofs.lemmas.Bool.{cases_lt, cases_eq, and_parts, and_from, and_left, lt-ltb, eqb-true, ne_eqb, eq-eqb, false_from_ne_true, not_from_false}
use Rattle.timed_solution.specs.Times.{is_meeting, same_time, held_of, lectures_of, are_apart, AreTimes}
use Rattle.timed_solution.specs.declared.times.Meeting.{Meeting}
use Rattle.timed_solution.proofs.TimesLemmas.{lectures-at}
use Rattle.ctt_reader.specs.declared.instance.Course.{Course}
use Rattle.ctt_reader.specs.Naming.{no_course}
use Rattle.measure_file.specs.Promised.{all_pairs}
use Rattle.demo_files.specs.Generator.{indices, course_at, room_at, lectures_at, slot_at, meeting_at, meetings_of, times_of, instance_of}
use Rattle.demo_files.proofs.IndexLemmas.{length-mapped, mapped-at, joined-more, all-at, all-in, pairs-at, pairs-in, none-any, count-append, count-alike}

four : (a b c d : Bool) → a ≡ true → b ≡ true → c ≡ true → d ≡ true → (a && b && c && d) ≡ true
four a b c d p q r s = rw (p, q, r, s) refl

meeting-fits : (n i j : ℕ) → i < n → is_meeting (instance_of n) (meeting_at i j) ≡ true
meeting-fits n i j l =
    four (nat_lt i (length (map course_at (indices n)))) (nat_le 0 (length (map room_at (indices 12)))) (nat_lt (slot_at i j / 8) 5) (nat_lt (slot_at i j % 8) 8)
    (lt-ltb i (length (map course_at (indices n))) (omega (arith, l, length-mapped course_at n))) refl (lt-ltb (slot_at i j / 8) 5 (omega arith)) (lt-ltb (slot_at i j % 8) 8 (omega arith))

abbrev at_other_time : Meeting → Meeting → Bool
at_other_time x y = not (same_time x y)

one_slot : (a b : ℕ) → a / 8 ≡ b / 8 → a % 8 ≡ b % 8 → a ≡ b
one_slot a b day period = omega (arith, day, period)

slots-differ : (i j k : ℕ) → j < k → k < 3 → slot_at i j ≡ slot_at i k → ⊥
slots-differ i j k l m same = absurd (omega (arith, l, m, same))

own-differ : (i j k : ℕ) → j < k → k < lectures_at i → at_other_time (meeting_at i j) (meeting_at i k) ≡ true
own-differ i j k l m = not_from_false (same_time (meeting_at i j) (meeting_at i k)) (false_from_ne_true (same_time (meeting_at i j) (meeting_at i k)) (λ h.
    let p = and_parts (i == i) ((slot_at i j / 8 == slot_at i k / 8) && (slot_at i j % 8 == slot_at i k % 8)) h in
    let q = and_parts (slot_at i j / 8 == slot_at i k / 8) (slot_at i j % 8 == slot_at i k % 8) p.1 in
    let same = one_slot (slot_at i j) (slot_at i k) (eqb-true (slot_at i j / 8) (slot_at i k / 8) q.0) (eqb-true (slot_at i j % 8) (slot_at i k % 8) q.1) in
    slots-differ i j k l (omega (arith, m)) same))

across-differ : (i j a b : ℕ) → i < j → at_other_time (meeting_at i a) (meeting_at j b) ≡ true
across-differ i j a b l = not_from_false (same_time (meeting_at i a) (meeting_at j b)) (and_left (i == j) _ (ne_eqb i j (λ e. absurd (omega arith))))

apart-pairs : (meetings : List Meeting) → all_pairs at_other_time meetings ≡ true → are_apart meetings ≡ true
apart-pairs [] h = refl
apart-pairs (x ∷ meetings) h =
    let p = and_parts (list_all (at_other_time x) meetings) (all_pairs at_other_time meetings) h in
    and_from (not (list_any (same_time x) meetings)) (are_apart meetings) (none-any (same_time x) meetings p.0) (apart-pairs meetings p.1)

meetings-apart : (n : ℕ) → are_apart (times_of n).meetings ≡ true
meetings-apart n =
    apart-pairs (times_of n).meetings (pairs-in at_other_time meetings_of n
    (λ i l. pairs-at at_other_time (meeting_at i) (lectures_at i) (own-differ i))
    (λ i j l k. all-at (λ x. list_all (at_other_time x) (meetings_of j)) (meeting_at i) (lectures_at i)
    (λ a m. all-at (at_other_time (meeting_at i a)) (meeting_at j) (lectures_at j) (λ b o. across-differ i j a b l))))

-- ---- how many meetings a course has

held-own : (i c : ℕ) → held_of c (meetings_of i) ≡ cond (i == c) (lectures_at i) 0
held-own i c = count-alike (λ (m : Meeting). m.course == c) (i == c) (meeting_at i) (lectures_at i) (λ j. refl)

held-more : (n c : ℕ) → held_of c (times_of (suc n)).meetings ≡ held_of c (times_of n).meetings + cond (n == c) (lectures_at n) 0
held-more n c = ap (held_of c) (joined-more meetings_of n) ∙ omega (arith, count-append (λ (m : Meeting). m.course == c) (flat_map meetings_of (indices n)) (meetings_of n), held-own n c)

pub held-past : (n c : ℕ) → n ≤ c → held_of c (times_of n).meetings ≡ 0
held-past zero c l = refl
held-past (suc n) c l =
    let none : cond {A = ℕ} (n == c) (lectures_at n) 0 ≡ 0 = rw (ne_eqb n c (λ e. absurd (omega arith))) refl in
    omega (arith, held-more n c, held-past n c (omega arith), none)

pub held-below : (n c : ℕ) → c < n → held_of c (times_of n).meetings ≡ lectures_at c
held-below zero c l = absurd (omega arith)
held-below (suc n) c l = elim (cases_eq n c) [
  | inl same ↦
      let here : cond {A = ℕ} (n == c) (lectures_at n) 0 ≡ lectures_at c = rw (eq-eqb n c same) (ap lectures_at same) in
      omega (arith, held-more n c, held-past n c (omega (arith, same)), here)
  | inr other ↦
      let none : cond {A = ℕ} (n == c) (lectures_at n) 0 ≡ 0 = rw (ne_eqb n c other) refl in
      omega (arith, held-more n c, held-below n c (omega (arith, other, l)), none)
]

lectures-known : (n c : ℕ) → c < n → lectures_of (instance_of n).courses c ≡ lectures_at c
lectures-known n c l =
    let there : c < length (map course_at (indices n)) = omega (arith, l, length-mapped course_at n) in
    lectures-at (map course_at (indices n)) c no_course there ∙ ap (λ (x : Course). x.lectures) (mapped-at course_at n c no_course l)

pub times_fit : (n : ℕ) → AreTimes (instance_of n) (times_of n).meetings
times_fit n = record {
  each = all-in (is_meeting (instance_of n)) meetings_of n (λ i l. all-at (is_meeting (instance_of n)) (meeting_at i) (lectures_at i) (λ j m. meeting-fits n i j l));
  apart = meetings-apart n;
  within = λ c. elim (cases_lt c n) [
    | inl known ↦ omega (arith, held-below n c known, lectures-known n c known)
    | inr past ↦ omega (arith, held-past n c past)
  ];
}
