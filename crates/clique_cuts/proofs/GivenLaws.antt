-- What a point gives the patterns of a list, one after the other.
use Rattle.std.proofs.Common.{ℕ, ◌≡◌, ◌+◌, ◌<◌, arith, ◌∙◌, ap, true, false, List, [], ◌∷◌, length, drop, get_or}
use Rattle.std.specs.Prelude.{ℤ, pos, ◌+ℤ◌, ◌≤ℤ◌, ◌<ℤ◌, int_lt, FitsSigned}
use Rattle.std.proofs.lemmas.Int.{ints}
use mir.Syntax.{w128}
use mir.Val.{to_z, of_z}
use Rattle.duality.specs.Packing.{Packing}
use Rattle.packing_model.specs.declared.point.Point.{Point}
use Rattle.packing_model.proofs.SumLemmas.{total-drop}
use Rattle.search_nodes.specs.Points.{entry_of, IsPointOf}
use Rattle.clique_cuts.specs.Separation.{given}
use Rattle.clique_cuts.specs.Cliques.{IsClique, IsStart}
use Rattle.clique_cuts.proofs.SearchLaws.{nothing_negative, lt_is, lt_not, lt_yes}

none_negative : (k : Packing) (x : Point) (ps : List ℕ) → IsPointOf k x → pos 0 ≤ℤ given x ps
none_negative k x [] is = omega (arith, ints)
none_negative k x (p ∷ ps) is = omega (arith, ints, (nothing_negative k x is p).0, none_negative k x ps is)

den_plain : (k : Packing) (x : Point) → IsPointOf k x → to_z w128 (of_z w128 x.den) ≡ x.den
den_plain k x is = omega (arith, ints, is.positive, is.small)

-- the sum so far, and what the point gives the patterns that are left
pub record IsSumOf (x : Point) (ps : List ℕ) (i : ℕ) (sum : ℤ) : Type 0 where
  pub whole : (sum +ℤ given x (drop i ps)) ≡ given x ps
  pub some : pos 0 ≤ℤ sum
  pub part : sum ≤ℤ x.den

-- the part of the pattern, as it was read from the entries
pub part_plain : (k : Packing) (x : Point) (es : List (ℕ × ℤ)) (p : ℕ) (part : ℤ) → IsPointOf k x → es ≡ x.entries → part ≡ entry_of es p → to_z w128 (of_z w128 part) ≡ entry_of x.entries p
part_plain k x es p part is same e =
    let bound = nothing_negative k x is p in
    let here = e ∙ ap (λ (l : List (ℕ × ℤ)). entry_of l p) same in
    omega (arith, ints, here, bound.0, bound.1, is.small)

pub sum_fits : (k : Packing) (x : Point) (ps : List ℕ) (i p : ℕ) (sum part : ℤ) → IsPointOf k x → IsSumOf x ps i sum → part ≡ entry_of x.entries p → FitsSigned w128 (sum +ℤ part)
sum_fits k x ps i p sum part is so e = let bound = nothing_negative k x is p in omega (arith, ints, e, bound.0, bound.1, is.small, so.some, so.part)

sum_plain : (k : Packing) (x : Point) (ps : List ℕ) (i p : ℕ) (sum part : ℤ) → IsPointOf k x → IsSumOf x ps i sum → part ≡ entry_of x.entries p → to_z w128 (of_z w128 (sum +ℤ part)) ≡ sum +ℤ entry_of x.entries p
sum_plain k x ps i p sum part is so e = let bound = nothing_negative k x is p in omega (arith, ints, e, bound.0, bound.1, is.small, so.some, so.part)

pub sum_more : (k : Packing) (x : Point) (ps : List ℕ) (i : ℕ) (sum part : ℤ) → IsPointOf k x → i < length ps → IsSumOf x ps i sum → part ≡ entry_of x.entries (get_or ps i 0)
    → int_lt (to_z w128 (of_z w128 x.den)) (to_z w128 (of_z w128 (sum +ℤ part))) ≡ false → IsSumOf x ps (i + 1) (to_z w128 (of_z w128 (sum +ℤ part)))
sum_more k x ps i sum part is l so e low =
    let more = sum_plain k x ps i (get_or ps i 0) sum part is so e in
    record {
      whole = omega (arith, ints, more, so.whole, total-drop (entry_of x.entries) ps i l);
      some = omega (arith, ints, more, so.some, (nothing_negative k x is (get_or ps i 0)).0);
      part = omega (arith, ints, den_plain k x is, lt_not (to_z w128 (of_z w128 x.den)) (to_z w128 (of_z w128 (sum +ℤ part))) low);
    }

pub sum_over : (k : Packing) (x : Point) (ps : List ℕ) (i : ℕ) (sum part : ℤ) → IsPointOf k x → i < length ps → IsSumOf x ps i sum → part ≡ entry_of x.entries (get_or ps i 0)
    → int_lt (to_z w128 (of_z w128 x.den)) (to_z w128 (of_z w128 (sum +ℤ part))) ≡ true → int_lt x.den (given x ps) ≡ true
sum_over k x ps i sum part is l so e high =
    let more = sum_plain k x ps i (get_or ps i 0) sum part is so e in
    let over : x.den <ℤ (sum +ℤ entry_of x.entries (get_or ps i 0)) = omega (arith, ints, more, den_plain k x is, lt_is (to_z w128 (of_z w128 x.den)) (to_z w128 (of_z w128 (sum +ℤ part))) high) in
    lt_yes x.den (given x ps) (omega (arith, ints, over, so.whole, total-drop (entry_of x.entries) ps i l, none_negative k x (drop (i + 1) ps) is))

-- a clique of fewer than two patterns has at most the denominator
pub start_of_given : (k : Packing) (x : Point) (ps : List ℕ) → IsPointOf k x → IsClique k ps → x.den <ℤ given x ps → IsStart k x ps
start_of_given k x [] is clique broken = absurd (omega (arith, ints, is.positive, broken))
start_of_given k x (p ∷ []) is clique broken = absurd (omega (arith, ints, (nothing_negative k x is p).1, broken))
start_of_given k x (p ∷ q ∷ ps) is clique broken = record { clique = clique; some = omega arith; broken = broken }
