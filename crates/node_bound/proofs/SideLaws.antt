-- What is left of a row's side.
use Rattle.std.proofs.Common.{ℕ, ◌≡◌, ◌*◌, ◌^◌, arith, refl, sym, ◌∙◌, ap, ap₂, true, false, List, []}
use Rattle.std.specs.Prelude.{ℤ, pos, ◌-ℤ◌, ◌==◌, if◌then◌else◌}
use Rattle.std.proofs.lemmas.Int.{ints}
use Rattle.std.proofs.lemmas.Bool.{ne_eqb}
use mir.Syntax.{w64}
use mir.Val.{to_z, of_z}
use Rattle.numbers.specs.Sums.{total}
use Rattle.numbers.proofs.TotalLaws.{total-same}
use Rattle.duality.specs.declared.row.RowName.{RowName}
use Rattle.duality.specs.declared.row.RowName.TheVariants.{Base, Cut, Level}
use Rattle.duality.specs.Packing.{Packing, Weights, Stage, Fixing, floor_level, floor_weight, floor_number, level_coefficient, target_of}
use Rattle.duality.specs.Sums.{IsWithin}
use Rattle.node_bound.specs.Duals.{side_left}
use Rattle.node_bound.specs.Places.{is_placed, place_of}
use Rattle.node_bound.specs.Taken.{count_at, AreCounts}
use Rattle.node_bound.specs.declared.places.Places.{Places}

pub floor_left : (a b : ℤ) → IsWithin (10 ^ 12) a → IsWithin (4000 * 10 ^ 9) b → to_z w64 (of_z w64 (to_z w64 (of_z w64 (pos 0 -ℤ to_z w64 (of_z w64 a))) -ℤ to_z w64 (of_z w64 b))) ≡ (pos 0 -ℤ a) -ℤ b
floor_left a b p q = omega (arith, ints, p.low, p.high, q.low, q.high)

pub level_left : (a b : ℤ) → IsWithin (10 ^ 12) a → IsWithin (4000 * 10 ^ 9) b → to_z w64 (of_z w64 (to_z w64 (of_z w64 a) -ℤ to_z w64 (of_z w64 b))) ≡ a -ℤ b
level_left a b p q = omega (arith, ints, p.low, p.high, q.low, q.high)

pub floor_side : (k : Packing) (w : Weights) (s : Stage) (f : Fixing) (j : ℕ) (n b : ℤ) → j ≡ floor_level → n ≡ floor_number w.floor → b ≡ total (λ p. pos 0 -ℤ floor_weight w.floor p) f.one → (pos 0 -ℤ n) -ℤ b ≡ side_left k w s f (Level j)
floor_side k w s f j n b e is_n is_b = ap₂ (λ x y. (pos 0 -ℤ x) -ℤ y) is_n is_b ∙ ap (λ i. side_left k w s f (Level i)) (sym e)

pub level_side_is : (k : Packing) (w : Weights) (s : Stage) (f : Fixing) (j : ℕ) (t b : ℤ) → (j ≡ floor_level → ⊥) → t ≡ target_of s.targets j → b ≡ total (w.weight j) f.one → t -ℤ b ≡ side_left k w s f (Level j)
level_side_is k w s f j t b ne is_t is_b =
    let test : (j == floor_level) ≡ false = ne_eqb j floor_level ne in
    ap₂ (λ x y. x -ℤ y) (is_t ∙ sym (ap (λ c. if c then pos 0 -ℤ floor_number w.floor else target_of s.targets j) test))
    (is_b ∙ total-same (w.weight j) (level_coefficient w j) f.one (λ p. sym (ap (λ c. if c then pos 0 -ℤ floor_weight w.floor p else w.weight j p) test)))

-- at base rows and cuts 1 less the patterns that stand there
pub clique_side : (k : Packing) (w : Weights) (s : Stage) (v : Places) (f : Fixing) (counts : List ℕ) (r : RowName) (n : ℕ) → AreCounts k w s v f.one [] counts → is_placed v r ≡ true → ((j : ℕ) → r ≡ Level j → ⊥) → n ≡ count_at counts (place_of v r)
    → pos 1 -ℤ pos n ≡ side_left k w s f r
clique_side k w s v f counts (Base r) n are h other is = let e = are.each (Base r) h in omega (arith, ints, e, is)
clique_side k w s v f counts (Cut c) n are h other is = let e = are.each (Cut c) h in omega (arith, ints, e, is)
clique_side k w s v f counts (Level j) n are h other is = absurd (other j refl)
