-- The events that a fault names are there.
use Rattle.std.proofs.Common.{ℕ, ◌≡◌, ◌<◌, ◌≤◌, ◌+◌, ◌-◌, ◌++◌, Bool, true, false, cond, List, [], ◌∷◌, length, map, refl, ap, sym, ◌∙◌, arith, subst, zero, suc}
use Rattle.std.specs.Prelude.{◌==◌, nat_lt, Option, Some, None, position}
use Rattle.std.specs.List.{position_or_len}
use Rattle.std.proofs.lemmas.Bool.{lt-ltb, and_from, ne_eqb}
use Rattle.std.proofs.lemmas.Bool.Decides.{nat_tests}
use Rattle.std.proofs.lemmas.List.{length-map, length-append}
use Rattle.numbers.specs.Below.{first_from, first_from_finds}
use Rattle.problem_core.specs.Facts.{Facts, suits}
use Rattle.problem_core.specs.Choice.{entry, holds}
use Rattle.problem_core.specs.Faults.{fault_of, clash_of, unless_found, first_from_on, first_fault}
use Rattle.problem_core.specs.OfParts.{event_of}
use Rattle.problem_core.specs.declared.choice.RoomFault.{RoomFault}
use Rattle.problem_core.specs.declared.choice.RoomFault.TheVariants.{Unsuitable, Clash}
use Rattle.ctt_reader.specs.declared.instance.Instance.{Instance}
use Rattle.timed_solution.specs.declared.times.Times.{Times}
use Rattle.timed_solution.specs.declared.times.Meeting.{Meeting}
use Rattle.measure_file.specs.declared.measures.Measures.{Measures}
use Rattle.room_model.specs.ProblemOf.{problem_of, event_part}
use Rattle.room_model.specs.Long.{overlaps, passes_day, overlap_of, fault_after, unless_found as unless_long, long_from, long_fault}
use Rattle.room_model.specs.declared.long.LongFault.{LongFault}
use Rattle.room_model.specs.declared.long.LongFault.TheVariants.{PastDay, Overlap}
use Rattle.reports.specs.Lines.{room_fault_within, long_fault_within}

-- ---- faults of rooms

clash_within : (found e n : ℕ) (fault : RoomFault) → found ≤ e → e < n → clash_of found e ≡ Some fault → room_fault_within n fault ≡ true
clash_within zero e n fault l m h = cc
clash_within (suc k) e n fault l m h = subst (λ f. room_fault_within n f ≡ true) (same h) (and_from (nat_lt k n) (nat_lt e n) (lt-ltb k n (omega arith)) (lt-ltb e n m))
  where
    same : clash_of (suc k) e ≡ Some fault → Clash k e ≡ fault
    same h =
        let some : (suc k == 0) ≡ false = ne_eqb (suc k) 0 (λ z. absurd (omega (arith, z))) in
        let before : suc k - 1 ≡ k = omega arith in
        let is : clash_of (suc k) e ≡ Some (Clash k e) = rw (some, before) refl in
        cc

found_small : (test : ℕ → Bool) (n : ℕ) → first_from test 0 n ≤ n
found_small test n = by_case (first_from test 0 n) refl
  where
    by_case : (x : ℕ) → first_from test 0 n ≡ x → x ≤ n
    by_case zero e = omega arith
    by_case (suc k) e =
        let next : suc k ≡ k + 1 = omega arith in
        let there = first_from_finds test 0 n k (e ∙ next) in
        let small : k < 0 + n = there.1 in
        omega (arith, small)

event_within : (p : Facts) (a : List ℕ) (e n : ℕ) (fault : RoomFault) → e < n → fault_of p a e ≡ Some fault → room_fault_within n fault ≡ true
event_within p a e n fault l h = by_room (entry a e == 0) h
  where
    by_suits : (t : Bool) → cond t (clash_of (first_from (holds p a e (entry a e)) 0 e) e) (Some (Unsuitable e)) ≡ Some fault → room_fault_within n fault ≡ true
    by_suits true h = clash_within (first_from (holds p a e (entry a e)) 0 e) e n fault (found_small (holds p a e (entry a e)) e) l h
    by_suits false h = let same : Unsuitable e ≡ fault = cc in subst (λ f. room_fault_within n f ≡ true) same (lt-ltb e n l)

    by_room : (t : Bool) → cond t None (cond (suits p e (entry a e - 1)) (clash_of (first_from (holds p a e (entry a e)) 0 e) e) (Some (Unsuitable e))) ≡ Some fault → room_fault_within n fault ≡ true
    by_room true h = cc
    by_room false h = by_suits (suits p e (entry a e - 1)) h

faults_within : (p : Facts) (a : List ℕ) (e k n : ℕ) (fault : RoomFault) → e + k ≤ n → first_from_on (fault_of p a) e k ≡ Some fault → room_fault_within n fault ≡ true
faults_within p a e zero n fault l h = cc
faults_within p a e (suc k) n fault l h = by_case (λ later. faults_within p a (e + 1) k n fault (omega arith) later) (fault_of p a e) refl h
  where
    by_case : (first_from_on (fault_of p a) (e + 1) k ≡ Some fault → room_fault_within n fault ≡ true) → (r : Option RoomFault) → fault_of p a e ≡ r → unless_found r (first_from_on (fault_of p a) (e + 1) k) ≡ Some fault
        → room_fault_within n fault ≡ true
    by_case more None is h = more h
    by_case more (Some other) is h = let same : other ≡ fault = cc in event_within p a e n fault (omega arith) (is ∙ ap Some same)

-- the events of a room's fault are meetings
pub room_fault_known : (i : Instance) (t : Times) (m : Measures) (a : List ℕ) (p : Facts) (found : Option RoomFault) (fault : RoomFault) → p ≡ problem_of i t m → found ≡ first_fault p a → found ≡ Some fault → room_fault_within (length t.meetings) fault ≡ true
room_fault_known i t m a p found fault same is some =
    let count : length (problem_of i t m).events ≡ length t.meetings = length-map (map (event_part i.periods m) t.meetings) event_of ∙ length-map t.meetings (event_part i.periods m) in
    let events : length p.events ≡ length t.meetings = ap (λ (q : Facts). length q.events) same ∙ count in
    faults_within p a 0 (length p.events) (length t.meetings) fault (omega (arith, events)) (sym is ∙ some)

-- ---- meetings that are too long

placed_small : {A : Type 0} (test : A → Bool) (xs : List A) (k : ℕ) → position test xs ≡ Some k → k < length xs
placed_small test xs k h = by_case (nat_lt (position_or_len test xs) (length xs)) refl h
  where
    below : (a b : ℕ) → nat_lt a b ≡ true → a < b
    below a b h = grind (arith, nat_tests, h)

    by_case : (t : Bool) → nat_lt (position_or_len test xs) (length xs) ≡ t → cond t (Some (position_or_len test xs)) None ≡ Some k → k < length xs
    by_case true is h = let same : position_or_len test xs ≡ k = cc in subst (λ n. n < length xs) same (below (position_or_len test xs) (length xs) is)
    by_case false is h = cc

after_within : (i : Instance) (m : Measures) (before : List Meeting) (x : Meeting) (n : ℕ) (fault : LongFault) → length before < n → fault_after i m before x ≡ Some fault → long_fault_within n fault ≡ true
after_within i m before x n fault l h = by_case (passes_day i m x) h
  where
    by_found : (found : Option ℕ) → position (λ y. overlaps (event_part i.periods m x) (event_part i.periods m y)) before ≡ found → overlap_of found (length before) ≡ Some fault → long_fault_within n fault ≡ true
    by_found None is h = cc
    by_found (Some k) is h =
        let same : Overlap k (length before) ≡ fault = cc in
        let small = placed_small (λ y. overlaps (event_part i.periods m x) (event_part i.periods m y)) before k is in
        subst (λ f. long_fault_within n f ≡ true) same (and_from (nat_lt k n) (nat_lt (length before) n) (lt-ltb k n (omega (arith, small, l))) (lt-ltb (length before) n l))

    by_case : (t : Bool) → cond t (Some (PastDay (length before))) (overlap_of (position (λ y. overlaps (event_part i.periods m x) (event_part i.periods m y)) before) (length before)) ≡ Some fault → long_fault_within n fault ≡ true
    by_case true h = let same : PastDay (length before) ≡ fault = cc in subst (λ f. long_fault_within n f ≡ true) same (lt-ltb (length before) n l)
    by_case false h = by_found (position (λ y. overlaps (event_part i.periods m x) (event_part i.periods m y)) before) refl h

long_within : (i : Instance) (m : Measures) (before meetings : List Meeting) (n : ℕ) (fault : LongFault) → length before + length meetings ≤ n → long_from i m before meetings ≡ Some fault → long_fault_within n fault ≡ true
long_within i m before [] n fault l h = cc
long_within i m before (x ∷ meetings) n fault l h =
    by_case (λ later. long_within i m (before ++ x ∷ []) meetings n fault (omega (arith, length-append before (x ∷ []), l)) later) (fault_after i m before x) refl h
  where
    by_case : (long_from i m (before ++ x ∷ []) meetings ≡ Some fault → long_fault_within n fault ≡ true) → (r : Option LongFault) → fault_after i m before x ≡ r → unless_long r (long_from i m (before ++ x ∷ []) meetings) ≡ Some fault
        → long_fault_within n fault ≡ true
    by_case more None is h = more h
    by_case more (Some other) is h = let same : other ≡ fault = cc in after_within i m before x n fault (omega arith) (is ∙ ap Some same)

pub long_fault_known : (i : Instance) (t : Times) (m : Measures) (fault : LongFault) → long_fault i t m ≡ Some fault → long_fault_within (length t.meetings) fault ≡ true
long_fault_known i t m fault h = long_within i m [] t.meetings (length t.meetings) fault (omega arith) h
