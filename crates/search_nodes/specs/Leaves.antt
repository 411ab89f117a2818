-- Leaves inside the bounds of certificates.
use Rattle.std.specs.Prelude.{pos, ◌≡◌, ◌^◌, true, false}
use Rattle.std.specs.List.{list_any}
use Rattle.std.specs.Ordering.{int_eq}
use Rattle.duality.specs.Sums.{rises, are_small, is_small}
use Rattle.duality.specs.declared.row.Term.{Term}
use Rattle.duality.specs.declared.leaf.Leaf.{Leaf}

-- the rows stand in order, each once, no number is above 10^24 in size, and no multiplier is 0
pub record IsFineLeaf (leaf : Leaf) : Type 0 where
  pub small_scale : is_small (10 ^ 24) leaf.scale ≡ true
  pub rising : rises leaf.terms ≡ true
  pub small : are_small leaf.terms ≡ true
  pub no_zero : list_any (λ (t : Term). int_eq t.times (pos 0)) leaf.terms ≡ false
