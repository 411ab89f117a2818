-- Lines, fields and numbers of the input files.
use Rattle.std.specs.Prelude.{ℕ, ◌≡◌, ◌⊎◌, ◌+◌, ◌-◌, ◌<◌, ◌≤◌, ◌==◌, ◌&&◌, ◌||◌, Bool, false, true, not, if◌then◌else◌, nat_le, bytes_eq, List, [], ◌∷◌, length, take, drop, map, filter, slice_index, Option, Some, None}
use Rattle.std.specs.List.{list_all}
use Rattle.std.specs.Str.Parse.{digits_value}

-- a byte before the first of the pieces
abbrev pub onto : ℕ → List (List ℕ) → List (List ℕ)
onto b [] = (b ∷ []) ∷ []
onto b (piece ∷ pieces) = (b ∷ piece) ∷ pieces

abbrev pub is_feed : ℕ → Bool
is_feed b = b == 10

-- the pieces between line feeds; a last line feed begins no further piece
abbrev pub cut_at_feeds : List ℕ → List (List ℕ)
cut_at_feeds [] = []
cut_at_feeds (b ∷ bytes) = if is_feed b then [] ∷ cut_at_feeds bytes else onto b (cut_at_feeds bytes)

-- without the one carriage return at the end
abbrev pub without_return : List ℕ → List ℕ
without_return line = if slice_index line (length line - 1) == 13 then take (length line - 1) line else line

abbrev pub lines_of : List ℕ → List (List ℕ)
lines_of bytes = map without_return (cut_at_feeds bytes)

-- a blank or a tab
abbrev pub is_blank : ℕ → Bool
is_blank b = (b == 32) || (b == 9)

-- a printable byte other than the blank: what fields consist of
abbrev pub is_graphic : ℕ → Bool
is_graphic b = nat_le 33 b && nat_le b 126

-- a byte that may stand in a line
abbrev pub is_allowed : ℕ → Bool
is_allowed b = is_blank b || is_graphic b

-- the pieces between blanks, some of them empty
abbrev pub cut_at_blanks : List ℕ → List (List ℕ)
cut_at_blanks [] = [] ∷ []
cut_at_blanks (b ∷ bytes) = if is_blank b then [] ∷ cut_at_blanks bytes else onto b (cut_at_blanks bytes)

abbrev pub is_some_text : List ℕ → Bool
is_some_text text = not (length text == 0)

-- not empty, and of graphic bytes alone
abbrev pub is_field : List ℕ → Bool
is_field field = is_some_text field && list_all is_graphic field

abbrev pub fields_of : List ℕ → List (List ℕ)
fields_of line = filter is_some_text (cut_at_blanks line)

-- whether the only field is this word
abbrev pub is_alone : List ℕ → List (List ℕ) → Bool
is_alone word [] = false
is_alone word (field ∷ []) = bytes_eq field word
is_alone word (field ∷ other ∷ fields) = false

abbrev pub is_digit : ℕ → Bool
is_digit b = nat_le 48 b && nat_le b 57

-- one to nine digits
abbrev pub is_number : List ℕ → Bool
is_number field = nat_le 1 (length field) && nat_le (length field) 9 && list_all is_digit field

abbrev pub number_of : List ℕ → Option ℕ
number_of field = if is_number field then Some (digits_value 10 field) else None

-- the line that begins at this place ends at r.0, and the next begins at r.1: behind the first line feed from
-- this place on, or at the end of the bytes where there is none
pub record IsNextLine (bytes : List ℕ) (at : ℕ) (r : ℕ × ℕ) : Type 0 where
  pub ordered : at ≤ r.0
  pub ends : r.0 ≤ r.1
  pub more : at < r.1
  pub within : r.1 ≤ length bytes
  pub first : (k : ℕ) → at ≤ k → k + 1 < r.1 → is_feed (slice_index bytes k) ≡ false
  pub feed : (r.1 ≡ length bytes) ⊎ (is_feed (slice_index bytes (r.1 - 1)) ≡ true)
  pub line : lines_of (drop at bytes) ≡ take (r.0 - at) (drop at bytes) ∷ lines_of (drop r.1 bytes)

-- the field that begins at r.0 is the first at or after this place, and ends at r.1
pub record IsNextField (line : List ℕ) (at : ℕ) (r : ℕ × ℕ) : Type 0 where
  pub begins : at ≤ r.0
  pub some : r.0 < r.1
  pub graphic : list_all is_graphic (take (r.1 - r.0) (drop r.0 line)) ≡ true
  pub within : r.1 ≤ length line
  pub field : fields_of (drop at line) ≡ take (r.1 - r.0) (drop r.0 line) ∷ fields_of (drop r.1 line)
