-- The values that are printed, and their lines, one after the other.
use mir.Syntax.{w64}
use mir.Val.{to_z, of_z}
use Rattle.std.proofs.lemmas.Int.{ints, to_z-of_z}
use Rattle.std.proofs.Common.{FitsSigned, ℕ, ℤ, ◌≡◌, ◌<◌, ◌++◌, List, [], ◌∷◌, length, get_or, ap, ◌∙◌, arith, zero, suc}
use Rattle.std.specs.Prelude.{neg_ℤ, pos}
use Rattle.std.specs.List.{AllByRecursion}
use Rattle.problem_core.specs.Kept.{IsWithin}

pub within_at : (bound : ℤ) (xs : List ℤ) (k : ℕ) (d : ℤ) → k < length xs → AllByRecursion (IsWithin bound) xs → IsWithin bound (get_or xs k d)
within_at bound [] k d l h = absurd (omega arith)
within_at bound (x ∷ xs) zero d l h = h.0
within_at bound (x ∷ xs) (suc k) d l h = within_at bound xs k d (omega arith) h.1

pub turned_back : (z : ℤ) → IsWithin (pos 1000000000000) z → to_z w64 (of_z w64 z) ≡ z
turned_back z h = let fits : FitsSigned w64 z = omega (arith, ints, h.low, h.high) in to_z-of_z w64 z fits

pub turned_line : (z r : ℤ) → IsWithin (pos 1000000000000) z → r ≡ neg_ℤ (to_z w64 (of_z w64 z)) → to_z w64 (of_z w64 r) ≡ neg_ℤ z
turned_line z r h e =
    let is : r ≡ neg_ℤ z = e ∙ ap neg_ℤ (turned_back z h) in
    let other : IsWithin (pos 1000000000000) r = record { low = omega (arith, ints, is, h.high); high = omega (arith, ints, is, h.low) } in
    turned_back r other ∙ is

pub six_lines : (b0 b1 b2 b3 b4 b5 b6 l1 l2 l3 l4 l5 l6 : List ℕ) → b0 ≡ [] → b1 ≡ b0 ++ l1 → b2 ≡ b1 ++ l2 → b3 ≡ b2 ++ l3 → b4 ≡ b3 ++ l4 → b5 ≡ b4 ++ l5 → b6 ≡ b5 ++ l6 → b6 ≡ l1 ++ l2 ++ l3 ++ l4 ++ l5 ++ l6
six_lines b0 b1 b2 b3 b4 b5 b6 l1 l2 l3 l4 l5 l6 e0 e1 e2 e3 e4 e5 e6 =
    let d1 : b1 ≡ l1 = e1 ∙ ap (λ b. b ++ l1) e0 in
    let d2 : b2 ≡ l1 ++ l2 = e2 ∙ ap (λ b. b ++ l2) d1 in
    let d3 : b3 ≡ l1 ++ l2 ++ l3 = e3 ∙ ap (λ b. b ++ l3) d2 in
    let d4 : b4 ≡ l1 ++ l2 ++ l3 ++ l4 = e4 ∙ ap (λ b. b ++ l4) d3 in
    let d5 : b5 ≡ l1 ++ l2 ++ l3 ++ l4 ++ l5 = e5 ∙ ap (λ b. b ++ l5) d4 in
    e6 ∙ ap (λ b. b ++ l6) d5

-- the measures of a legal choice are small enough to be printed
pub small_values : (vs : List ℤ) → AllByRecursion (IsWithin (pos 192000000000)) vs → AllByRecursion (IsWithin (pos 1000000000000)) vs
small_values [] h = tt
small_values (v ∷ vs) h = (record { low = omega (arith, ints, h.0.low); high = omega (arith, ints, h.0.high) }, small_values vs h.1)
