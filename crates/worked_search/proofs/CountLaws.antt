-- Patterns that weigh 1 each weigh together as many as they are, so an objective of these weights has a level.
use Rattle.std.proofs.Common.{ℕ, ◌≡◌, ◌≤◌, arith, zero, suc, Bool, true, false}
use Rattle.std.specs.Prelude.{ℤ, pos, ◌≤ℤ◌, ◌^◌, Option, [], length}
use Rattle.std.proofs.lemmas.Int.{ints}
use Rattle.numbers.specs.Sums.{picked, value}
use Rattle.duality.specs.Sums.{IsWithin}
use Rattle.problem_core.specs.Facts.{Facts}
use Rattle.meeting_patterns.specs.Pattern.{patterns_of}
use Rattle.packing_model.specs.Closing.{counted, choice_of}
use Rattle.node_bound.specs.Bounds.{IsLevelAt}

picked_one : (b : Bool) → (pos 0 ≤ℤ picked b (pos 1)) × (picked b (pos 1) ≤ℤ pos 1)
picked_one true = (omega (arith, ints), omega (arith, ints))
picked_one false = (omega (arith, ints), omega (arith, ints))

count_between : (has : ℕ → Bool) (n : ℕ) → (pos 0 ≤ℤ value has (λ p. pos 1) n) × (value has (λ p. pos 1) n ≤ℤ pos n)
count_between has zero = (omega (arith, ints), omega (arith, ints))
count_between has (suc n) =
    let rest = count_between has n in
    let one = picked_one (has n) in
    (omega (arith, ints, rest.0, one.0), omega (arith, ints, rest.1, one.1))

few_counted : (has : ℕ → Bool) (n : ℕ) → n ≤ 200000 → IsWithin (10 ^ 12) (value has (λ p. pos 1) n)
few_counted has n few =
    let between = count_between has n in
    record { low = omega (arith, ints, between.0); high = omega (arith, ints, between.1, few) }

pub only_level : (p : Facts) (count : ℕ) (floor : Option ((ℕ → ℤ) × ℤ)) → count ≡ length (patterns_of p) → length (patterns_of p) ≤ 200000
    → IsLevelAt p (counted (λ level pattern. pos 1) floor) count 1 1 []
only_level p count floor same few = record {
  counted = same;
  high = omega arith;
  targets_are = record { low = omega arith; count = omega arith; small = λ i l. absurd (omega (arith, l)) };
  small = λ a legal. few_counted (choice_of p a) (length (patterns_of p)) few;
}
