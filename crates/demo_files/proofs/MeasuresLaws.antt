-- The measures are such as the reader of measures files gives.
use Rattle.std.proofs.Common.{ℕ, ◌≡◌, ◌<◌, ◌%◌, Bool, true, ◌&&◌, refl, arith, length, map}
use Rattle.std.specs.Prelude.{◌==◌, pos, nat_lt}
use Rattle.std.proofs.lemmas.Bool.{and_left, lt-ltb, ne_eqb, not_from_false}
use Rattle.measure_file.specs.Grammar.{same_pair}
use Rattle.measure_file.specs.Promised.{is_points, is_preference, other_pair, AreMeasures}
use Rattle.demo_files.specs.Generator.{indices, course_at, room_at, preference_at, measures_of, instance_of}
use Rattle.demo_files.proofs.IndexLemmas.{length-mapped, all-at, pairs-at}

three : (a b c : Bool) → a ≡ true → b ≡ true → c ≡ true → (a && b && c) ≡ true
three a b c p q r = rw (p, q, r) refl

preference-fits : (n i : ℕ) → i < n → is_preference (length (instance_of n).courses) (length (instance_of n).rooms) (preference_at i) ≡ true
preference-fits n i l =
    three (nat_lt i (length (map course_at (indices n)))) (nat_lt (i % 12) (length (map room_at (indices 12)))) (is_points (pos 3))
    (lt-ltb i (length (map course_at (indices n))) (omega (arith, l, length-mapped course_at n)))
    (lt-ltb (i % 12) (length (map room_at (indices 12))) (omega (arith, length-mapped room_at 12))) refl

pub measures_fit : (n : ℕ) → AreMeasures (instance_of n) (measures_of n)
measures_fit n = record {
  few_features = omega arith;
  features = refl;
  different_features = refl;
  has = refl;
  needs = refl;
  denied = refl;
  closed = refl;
  prefer = all-at (is_preference (length (instance_of n).courses) (length (instance_of n).rooms)) preference_at n (λ i l. preference-fits n i l);
  one_preference = pairs-at other_pair preference_at n (λ i j l k. not_from_false (same_pair (preference_at i) (preference_at j)) (and_left (i == j) _ (ne_eqb i j (λ e. absurd (omega arith)))));
  few_thresholds = omega arith;
  robust = refl;
  rising = refl;
  lengths = refl;
  one_length = refl;
}
