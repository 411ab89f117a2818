-- A cut of a point, while the pool has room.
use Rattle.std.specs.Prelude.{ℕ, ◌≡◌, ◌<◌, ◌⊎◌, Option, Some, None, List}
use Rattle.duality.specs.Packing.{Packing}
use Rattle.packing_model.specs.declared.point.Point.{Point}
use Rattle.clique_cuts.specs.Separation.{IsBrokenCut, KeepsTriples}

-- none where no three patterns are broken or the pool is full
abbrev pub FindsCut : Packing → ℕ → Point → Option (List ℕ) → Type 0
FindsCut k count x None = KeepsTriples k x ⊎ (count ≡ 1000)
FindsCut k count x (Some cut) = (count < 1000) × IsBrokenCut k x cut
