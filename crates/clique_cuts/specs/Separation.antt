-- What a point gives patterns that clash in pairs, of which a choice has at most one.
use Rattle.std.specs.Prelude.{ℕ, ℤ, ◌≡◌, ◌<◌, ◌≤ℤ◌, ◌<ℤ◌, ◌+ℤ◌, true, List}
use Rattle.numbers.specs.Sums.{total}
use Rattle.duality.specs.Packing.{Packing}
use Rattle.packing_model.specs.Cuts.{IsCutOf}
use Rattle.packing_model.specs.declared.point.Point.{Point}
use Rattle.search_nodes.specs.Points.{entry_of}

-- what the point gives the patterns together, over the denominator
abbrev pub given : Point → List ℕ → ℤ
given x patterns = total (entry_of x.entries) patterns

-- no two patterns that clash have more than the denominator
abbrev pub KeepsPairs : Packing → Point → Type 0
KeepsPairs k x = (p q : ℕ) → p < k.count → q < k.count → k.clash p q ≡ true → (entry_of x.entries p +ℤ entry_of x.entries q) ≤ℤ x.den

-- no three patterns that clash in pairs have more than the denominator
abbrev pub KeepsTriples : Packing → Point → Type 0
KeepsTriples k x = (p q r : ℕ) → p < k.count → q < k.count → r < k.count → k.clash p q ≡ true → k.clash p r ≡ true → k.clash q r ≡ true
    → (entry_of x.entries p +ℤ (entry_of x.entries q +ℤ entry_of x.entries r)) ≤ℤ x.den

-- a cut of the packing to whose patterns the point gives more than the denominator
pub record IsBrokenCut (k : Packing) (x : Point) (patterns : List ℕ) : Type 0 where
  pub cut : IsCutOf k patterns
  pub broken : x.den <ℤ given x patterns
