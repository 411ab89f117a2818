-- The walk of a tree in preorder: a path of branches, and what is still to be proved.
use Rattle.std.specs.Prelude.{ℕ, Bool, true, false, Option, Some, None, List, [], ◌∷◌}
use Rattle.duality.specs.Packing.{Fixing}
use Rattle.duality.specs.Tree.{with_zero, with_one, nothing_fixed}

-- a branch and its side: true where the pattern is in
pub record Step : Type 0 where
  pub pattern : ℕ
  pub inside : Bool

abbrev pub step_at : ℕ → Bool → Step
step_at p side = record { pattern = p; inside = side }

abbrev pub fixed : Bool → ℕ → Fixing → Fixing
fixed true p f = with_one p f
fixed false p f = with_zero p f

-- the last branch stands first
abbrev pub fixing_of : List Step → Fixing
fixing_of [] = nothing_fixed
fixing_of (b ∷ path) = fixed b.inside b.pattern (fixing_of path)

abbrev pub later : List Step → List Fixing
later [] = []
later (b ∷ path) = later_at b.inside b.pattern (fixing_of path) (later path)
  where
    later_at : Bool → ℕ → Fixing → List Fixing → List Fixing
    later_at true p f fs = fs
    later_at false p f fs = with_one p f ∷ fs

abbrev pub pending_of : List Step → List Fixing
pending_of path = fixing_of path ∷ later path

-- the path after an end: the last branch on its first side turns to its second; none where all is proved
abbrev pub turn : List Step → Option (List Step)
turn [] = None
turn (b ∷ path) = turn_at b.inside b.pattern path (turn path)
  where
    turn_at : Bool → ℕ → List Step → Option (List Step) → Option (List Step)
    turn_at true p path rest = rest
    turn_at false p path rest = Some (record { pattern = p; inside = true } ∷ path)

abbrev pub pending : Option (List Step) → List Fixing
pending None = []
pending (Some path) = pending_of path
