-- Pieces of lines as they are written.
use Rattle.std.specs.Prelude.{ℕ, List, [], ◌∷◌, ◌++◌}

-- fields, each behind a blank
abbrev pub blank_before : List (List ℕ) → List ℕ
blank_before [] = []
blank_before (f ∷ fs) = 32 ∷ (f ++ blank_before fs)

-- a line with its line feed
abbrev pub lined : List ℕ → List ℕ
lined line = line ++ (10 ∷ [])
