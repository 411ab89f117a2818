-- Sums of 128 bits over patterns, far from the ends of the type.
use Rattle.std.proofs.Common.{ℕ, ◌≡◌, ◌+◌, ◌^◌, ◌<◌, zero, suc, refl, arith, List, [], ◌∷◌, length, get_or, drop}
use Rattle.std.specs.Prelude.{ℤ, ◌+ℤ◌}
use Rattle.std.proofs.lemmas.Int.{ints}
use mir.Syntax.{w64, w128}
use mir.Val.{to_z, of_z}
use Rattle.numbers.specs.Sums.{total}
use Rattle.duality.specs.Sums.{IsWithin}

pub plain : (b : ℕ) (z : ℤ) → IsWithin b z → b < 2 ^ 127 → to_z w128 (of_z w128 z) ≡ z
plain b z h l = omega (arith, ints, h.low, h.high)

pub plain64 : (z : ℤ) → IsWithin (10 ^ 12) z → to_z w64 (of_z w64 z) ≡ z
plain64 z h = omega (arith, ints, h.low, h.high)

pub total-drop : (f : ℕ → ℤ) (xs : List ℕ) (i : ℕ) → i < length xs → total f (drop i xs) ≡ f (get_or xs i 0) +ℤ total f (drop (i + 1) xs)
total-drop f [] i l = absurd (omega arith)
total-drop f (x ∷ xs) zero l = refl
total-drop f (x ∷ xs) (suc i) l = let e : suc i + 1 ≡ suc (i + 1) = omega arith in rw e (total-drop f xs i (omega arith))

pub total_step : (f : ℕ → ℤ) (xs : List ℕ) (i : ℕ) (before part shown : ℤ) → i < length xs → before +ℤ total f (drop i xs) ≡ total f xs → part ≡ f (get_or xs i 0) → shown ≡ before +ℤ part → shown +ℤ total f (drop (i + 1) xs) ≡ total f xs
total_step f xs i before part shown l rest here sum = omega (arith, ints, total-drop f xs i l, rest, here, sum)
