-- Choices that are better than the best value at a node.
use Rattle.std.proofs.Common.{ℕ, ◌≡◌, ◌*◌, ◌^◌, arith, refl, sym, ◌∙◌, ap, subst, true, List, length}
use Rattle.std.specs.Prelude.{ℤ, pos, ◌-ℤ◌, ◌≤ℤ◌, int_le, Option, Some, None}
use Rattle.std.specs.List.{All}
use Rattle.std.specs.List.Sorted.{IsPermutation}
use Rattle.std.proofs.lemmas.List.Elements.{All-weaker}
use Rattle.std.proofs.lemmas.List.Sorted.{All-permutation}
use Rattle.std.proofs.lemmas.Int.{ints}
use mir.Syntax.{w64}
use mir.Val.{to_z, of_z}
use Rattle.numbers.specs.Sums.{total, value}
use Rattle.numbers.proofs.TotalLaws.{total-neg}
use Rattle.problem_core.specs.Facts.{Facts}
use Rattle.problem_core.specs.Choice.{IsLegal}
use Rattle.problem_core.specs.Courses.{passing}
use Rattle.meeting_patterns.specs.Made.{AreClashless}
use Rattle.meeting_patterns.specs.Pattern.{patterns_of}
use Rattle.duality.specs.Packing.{Packing, Weights, floor_weight, floor_number, meets_floor}
use Rattle.duality.specs.Sums.{IsWithin}
use Rattle.packing_model.specs.Built.{packing}
use Rattle.packing_model.specs.Closing.{choice_of}
use Rattle.packing_model.specs.Nodes.{IsValidFixing}
use Rattle.packing_model.specs.declared.fixing.Fixing.{Fixing}
use Rattle.packing_model.proofs.NodeLemmas.{known_at}
use Rattle.search_nodes.specs.Choices.{IsMore}
use Rattle.search_nodes.proofs.ChoiceLaws.{value-passing, chosen_weighs}
use Rattle.packing_model.specs.declared.point.Point.{Point}
use Rattle.search_nodes.specs.Points.{IsPointOf}
use Rattle.clique_cuts.specs.Search.{IsEntry}
use Rattle.clique_cuts.specs.Cliques.{IsKnown}
use Rattle.clique_cuts.proofs.SearchLaws.{entries_are}
use Rattle.clique_cuts.specs.Better.{IsBetter, MeetsAll, ReachesFloor}

le_true : (a b : ℤ) → a ≤ℤ b → int_le a b ≡ true
le_true a b h = grind (arith, ints)

pub le_is : (a b : ℤ) → int_le a b ≡ true → a ≤ℤ b
le_is a b h = grind (arith, ints)

pub plain : (z : ℤ) → IsWithin (4000 * 10 ^ 9) z → to_z w64 (of_z w64 z) ≡ z
plain z h = omega (arith, ints, h.low, h.high)

pub plain_value : (z : ℤ) → IsWithin (10 ^ 12) z → to_z w64 (of_z w64 z) ≡ z
plain_value z h = omega (arith, ints, h.low, h.high)

pub reaches : (floor : Option ((ℕ → ℤ) × ℤ)) (list : List ℕ) (weight : ℤ) → weight ≡ total (λ p. pos 0 -ℤ floor_weight floor p) list → weight ≤ℤ (pos 0 -ℤ floor_number floor) → ReachesFloor floor list
reaches None list weight e h = tt
reaches (Some x) list weight e h = omega (arith, ints, total-neg x.0 list, e)

-- what the choice chooses is better, so it is
pub chosen_better : (p : Facts) (w : Weights) (level : ℕ) (targets : List ℤ) (best : Option ℤ) (a list : List ℕ) → IsLegal p a → list ≡ passing (choice_of p a) (packing p).count → MeetsAll w level targets list × IsMore best (total (w.weight level) list) → IsBetter p w level targets best a
chosen_better p w level targets best a list legal is meets = record {
  held = record {
    legal = legal;
    targets_met = λ j low high. sym (chosen_weighs p w j a list is) ∙ meets.0.has_targets j low high;
    floor = go w.floor meets.0.floor;
  };
  more = subst (IsMore best) (chosen_weighs p w level a list is) meets.1;
}
  where
    go : (floor : Option ((ℕ → ℤ) × ℤ)) → ReachesFloor floor list → meets_floor (packing p) (choice_of p a) floor ≡ true
    go None h = refl
    go (Some x) h = le_true x.1 (value (choice_of p a) x.0 (packing p).count) (omega (arith, ints, value-passing (choice_of p a) x.0 (packing p).count, ap (total x.0) is))

pub clashless : (p : Facts) (f : Fixing) → IsValidFixing (packing p) f → AreClashless p (patterns_of p) f.one
clashless p f is = record { known = λ j l. known_at (length (patterns_of p)) f.one j is.of_packing.one l; differ = is.differ; apart = is.apart }

-- the entries of a point, in whatever order, are of patterns of the packing
pub all_known : (k : Packing) (x : Point) (es : List (ℕ × ℤ)) → IsPointOf k x → IsPermutation x.entries es → All (IsKnown k) es
all_known k x es is same = All-weaker (IsEntry k x) (IsKnown k) (λ e entry. entry.known) es (All-permutation (IsEntry k x) x.entries es same (entries_are k x is))
