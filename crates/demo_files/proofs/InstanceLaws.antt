-- The instance is such as the reader of instance files gives.
use Rattle.std.proofs.Common.{ℕ, ◌≡◌, ◌<◌, ◌≤◌, ◌+◌, ◌*◌, Bool, true, not, ◌&&◌, refl, arith, ap, ◌∙◌, List, [], ◌∷◌, map}
use Rattle.std.specs.Prelude.{decimal, bytes_eq, codes, nat_le}
use Rattle.std.proofs.lemmas.Bool.{le-leb}
use Rattle.ctt_reader.specs.Promised.{is_name, is_course, is_room, are_different, IsInstance}
use Rattle.ctt_reader.specs.declared.instance.Course.{Course}
use Rattle.ctt_reader.specs.declared.instance.Room.{Room}
use Rattle.demo_files.specs.Generator.{indices, course_at, room_at, lectures_at, students_at, instance_of}
use Rattle.demo_files.proofs.IndexLemmas.{length-mapped, all-at}
use Rattle.demo_files.proofs.NameLemmas.{numbered-is_name, numbered-different}

five : (a b c d e : Bool) → a ≡ true → b ≡ true → c ≡ true → d ≡ true → e ≡ true → (a && b && c && d && e) ≡ true
five a b c d e p q r s t = rw (p, q, r, s, t) refl

three : (a b c : Bool) → a ≡ true → b ≡ true → c ≡ true → (a && b && c) ≡ true
three a b c p q r = rw (p, q, r) refl

course-fits : (i : ℕ) → i < 1000 → is_course (course_at i) ≡ true
course-fits i l =
    five (is_name (100 ∷ decimal i)) (is_name (116 ∷ decimal i)) (nat_le (lectures_at i) 1000) (nat_le 1 1000) (nat_le (students_at i) 1000000)
    (numbered-is_name 100 i refl l) (numbered-is_name 116 i refl l) (le-leb (lectures_at i) 1000 (omega arith)) refl (le-leb (students_at i) 1000000 (omega arith))

room-fits : (r : ℕ) → r < 12 → is_room (room_at r) ≡ true
room-fits r l =
    three (is_name (104 ∷ decimal r)) (not (bytes_eq (104 ∷ decimal r) (codes "-"))) (nat_le (20 + 20 * r) 1000000)
    (numbered-is_name 104 r refl (omega arith)) refl (le-leb (20 + 20 * r) 1000000 (omega arith))

named : {A B : Type 0} (f : ℕ → A) (name : A → B) (xs : List ℕ) → map name (map f xs) ≡ map (λ i. name (f i)) xs
named f name [] = refl
named f name (x ∷ xs) = ap (λ ys. name (f x) ∷ ys) (named f name xs)

pub instance_fits : (n : ℕ) → n ≤ 300 → IsInstance (instance_of n)
instance_fits n few = record {
  few_courses = omega (arith, few, length-mapped course_at n);
  few_rooms = omega (arith, length-mapped room_at 12);
  some_days = omega arith;
  few_days = omega arith;
  some_periods = omega arith;
  few_periods = omega arith;
  few_curricula = omega arith;
  few_constraints = omega arith;
  title = refl;
  courses = all-at is_course course_at n (λ i l. course-fits i (omega arith));
  course_names = ap are_different (named course_at (λ (c : Course). c.name) (indices n)) ∙ numbered-different 100 n (omega arith);
  rooms = all-at is_room room_at 12 room-fits;
  room_names = ap are_different (named room_at (λ (r : Room). r.name) (indices 12)) ∙ numbered-different 104 12 (omega arith);
  curricula = refl;
  constraints = refl;
}
