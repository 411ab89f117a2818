-- The six sums, an event at a time.
use Rattle.std.proofs.Common.{ℕ, ◌≡◌, ◌+◌, ◌*◌, ◌≤◌, arith, refl, List, [], ◌∷◌, length}
use Rattle.std.specs.Prelude.{ℤ, pos, ◌+ℤ◌}
use Rattle.std.proofs.lemmas.Int.{ints}
use Rattle.std.specs.List.{AllByRecursion}
use Rattle.numbers.specs.Sums.{sum_below, sum_below-more}
use Rattle.problem_core.specs.Facts.{Facts}
use Rattle.problem_core.specs.Measures.{gained, measures}
use Rattle.problem_core.specs.Kept.{IsWithin}
use Rattle.problem_core.specs.Sums.{AreSums, AreGains, AreWithin}
use Rattle.problem_core.specs.declared.measures.Sums.{Sums}

within_more : (n : ℕ) (total part sum : ℤ) → sum ≡ total +ℤ part → IsWithin (pos (n * 48000000)) total → IsWithin (pos 48000000) part → IsWithin (pos ((n + 1) * 48000000)) sum
within_more n total part sum e a b = record { low = omega (arith, ints, e, a.low, b.low); high = omega (arith, ints, e, a.high, b.high) }

within_wider : (m n : ℕ) (z : ℤ) → m ≤ n → IsWithin (pos m) z → IsWithin (pos n) z
within_wider m n z l a = record { low = omega (arith, ints, l, a.low); high = omega (arith, ints, l, a.high) }

sum_more : (f : ℕ → ℤ) (n : ℕ) (total part sum : ℤ) → sum ≡ total +ℤ part → total ≡ sum_below f n → part ≡ f n → sum ≡ sum_below f (n + 1)
sum_more f n total part sum e a b = omega (arith, ints, e, a, sum_below-more f n part b)

pub record ArePlus (total part sum : Sums) : Type 0 where
  pub hours : sum.hours ≡ total.hours +ℤ part.hours
  pub students : sum.students ≡ total.students +ℤ part.students
  pub utilisation : sum.utilisation ≡ total.utilisation +ℤ part.utilisation
  pub preference : sum.preference ≡ total.preference +ℤ part.preference
  pub rooms : sum.rooms ≡ total.rooms +ℤ part.rooms
  pub robustness : sum.robustness ≡ total.robustness +ℤ part.robustness

pub AreSums-more : (p : Facts) (a : List ℕ) (n : ℕ) (total part sum : Sums) → ArePlus total part sum → AreSums p a n total → AreGains p a n part → AreSums p a (n + 1) sum
AreSums-more p a n total part sum e s g = record {
  hours = sum_more (gained p 1 a) n total.hours part.hours sum.hours e.hours s.hours g.hours;
  students = sum_more (gained p 2 a) n total.students part.students sum.students e.students s.students g.students;
  utilisation = sum_more (gained p 3 a) n total.utilisation part.utilisation sum.utilisation e.utilisation s.utilisation g.utilisation;
  preference = sum_more (gained p 4 a) n total.preference part.preference sum.preference e.preference s.preference g.preference;
  rooms = sum_more (gained p 5 a) n total.rooms part.rooms sum.rooms e.rooms s.rooms g.rooms;
  robustness = sum_more (gained p 6 a) n total.robustness part.robustness sum.robustness e.robustness s.robustness g.robustness;
}

pub AreWithin-more : (n : ℕ) (total part sum : Sums) → ArePlus total part sum → AreWithin (n * 48000000) total → AreWithin 48000000 part → AreWithin ((n + 1) * 48000000) sum
AreWithin-more n total part sum e s g = record {
  hours = within_more n total.hours part.hours sum.hours e.hours s.hours g.hours;
  students = within_more n total.students part.students sum.students e.students s.students g.students;
  utilisation = within_more n total.utilisation part.utilisation sum.utilisation e.utilisation s.utilisation g.utilisation;
  preference = within_more n total.preference part.preference sum.preference e.preference s.preference g.preference;
  rooms = within_more n total.rooms part.rooms sum.rooms e.rooms s.rooms g.rooms;
  robustness = within_more n total.robustness part.robustness sum.robustness e.robustness s.robustness g.robustness;
}

pub AreWithin-wider : (m n : ℕ) (s : Sums) → m ≤ n → AreWithin m s → AreWithin n s
AreWithin-wider m n s l a = record {
  hours = within_wider m n s.hours l a.hours;
  students = within_wider m n s.students l a.students;
  utilisation = within_wider m n s.utilisation l a.utilisation;
  preference = within_wider m n s.preference l a.preference;
  rooms = within_wider m n s.rooms l a.rooms;
  robustness = within_wider m n s.robustness l a.robustness;
}

pub measures_are : (p : Facts) (a : List ℕ) (n : ℕ) (total : Sums) → AreSums p a n total → n ≡ length a → total.hours ∷ total.students ∷ total.utilisation ∷ total.preference ∷ total.rooms ∷ total.robustness ∷ [] ≡ measures p a
measures_are p a n total s e = rw (s.hours, s.students, s.utilisation, s.preference, s.rooms, s.robustness, e) refl

pub measures_small : (total : Sums) (xs : List ℤ) → xs ≡ total.hours ∷ total.students ∷ total.utilisation ∷ total.preference ∷ total.rooms ∷ total.robustness ∷ [] → AreWithin 192000000000 total → AllByRecursion (IsWithin (pos 192000000000)) xs
measures_small total xs e s = rw e (s.hours, (s.students, (s.utilisation, (s.preference, (s.rooms, (s.robustness, tt))))))
