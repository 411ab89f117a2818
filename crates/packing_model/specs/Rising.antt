-- Lists of rising numbers.
use Rattle.std.specs.Prelude.{ℕ, ◌&&◌, nat_lt, Bool, true, List, [], ◌∷◌}

abbrev pub rises_from : ℕ → List ℕ → Bool
rises_from p [] = true
rises_from p (q ∷ qs) = nat_lt p q && rises_from q qs

-- each number is greater than the one before
abbrev pub is_rising : List ℕ → Bool
is_rising [] = true
is_rising (p ∷ ps) = rises_from p ps
