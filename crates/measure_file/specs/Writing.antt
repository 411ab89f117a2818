-- The text of a measures file that a writer makes.
use Rattle.std.specs.Prelude.{ℕ, ℤ, ◌≡◌, ◌+◌, ◌==◌, ◌&&◌, Bool, true, false, max, Option, Some, None, if◌then◌else◌, nat_le, List, [], ◌∷◌, ◌++◌, length, map, slice_index_or, codes, decimal}
use Rattle.std.specs.Fmt.{signed_decimal}
use Rattle.text_lines.specs.Written.{written}
use Rattle.ctt_reader.specs.Entries.{course_names, room_names}
use Rattle.ctt_reader.specs.declared.instance.Instance.{Instance}
use Rattle.measure_file.specs.declared.measures.Measures.{Measures}

abbrev pub name_at : List (List ℕ) → ℕ → List ℕ
name_at names k = slice_index_or names k []

-- the lines of each kind, as fields
abbrev pub has_line : List (List ℕ) → List (List ℕ) → ℕ × ℕ → List (List ℕ)
has_line rooms features x = codes "has" ∷ name_at rooms x.0 ∷ name_at features x.1 ∷ []

abbrev pub need_line : List (List ℕ) → List (List ℕ) → ℕ × ℕ → List (List ℕ)
need_line courses features x = codes "need" ∷ name_at courses x.0 ∷ name_at features x.1 ∷ []

abbrev pub deny_line : List (List ℕ) → List (List ℕ) → ℕ × ℕ → List (List ℕ)
deny_line courses rooms x = codes "deny" ∷ name_at courses x.0 ∷ name_at rooms x.1 ∷ []

abbrev pub closed_line : List (List ℕ) → ℕ × ℕ × ℕ → List (List ℕ)
closed_line rooms x = codes "closed" ∷ name_at rooms x.0 ∷ decimal x.1 ∷ decimal x.2 ∷ []

abbrev pub prefer_line : List (List ℕ) → List (List ℕ) → ℕ × ℕ × ℤ → List (List ℕ)
prefer_line courses rooms x = codes "prefer" ∷ name_at courses x.0 ∷ name_at rooms x.1 ∷ signed_decimal x.2 ∷ []

abbrev pub robust_line : ℕ × ℤ → List (List ℕ)
robust_line x = codes "robust" ∷ decimal x.0 ∷ signed_decimal x.1 ∷ []

abbrev pub length_line : List (List ℕ) → ℕ × ℕ → List (List ℕ)
length_line courses x = codes "length" ∷ name_at courses x.0 ∷ decimal x.1 ∷ []

-- version 2 where there are lengths
abbrev pub version : Measures → List ℕ
version m = if length m.lengths == 0 then codes "1" else codes "2"

abbrev pub version_line : Measures → List (List ℕ)
version_line m = codes "measures" ∷ version m ∷ []

-- the lines by kind, each kind in the order of its list
abbrev pub entry_lines : List (List ℕ) → List (List ℕ) → Measures → List (List (List ℕ))
entry_lines courses rooms m =
    map (has_line rooms m.features) m.has
    ++ (map (need_line courses m.features) m.needs
    ++ (map (deny_line courses rooms) m.denied
    ++ (map (closed_line rooms) m.closed
    ++ (map (prefer_line courses rooms) m.prefer
    ++ (map robust_line m.robust
    ++ map (length_line courses) m.lengths)))))

abbrev pub lists_nothing : Measures → Bool
lists_nothing m =
    (length m.has == 0) && (length m.needs == 0) && (length m.denied == 0) && (length m.closed == 0)
    && (length m.prefer == 0) && (length m.robust == 0) && (length m.lengths == 0)

abbrev pub file_lines : List (List ℕ) → List (List ℕ) → Measures → List (List (List ℕ))
file_lines courses rooms m = if lists_nothing m then [] else version_line m ∷ entry_lines courses rooms m

-- the writer's text: empty where nothing is listed
abbrev pub text_of : Instance → Measures → List ℕ
text_of i m = written (file_lines (course_names i.courses) (room_names i.rooms) m)

-- how many features have appeared after these rows, where n had before; none where a feature of theirs is neither
-- one of those nor the next
abbrev pub counted : ℕ → List (ℕ × ℕ) → Option ℕ
counted n [] = Some n
counted n (x ∷ rows) = if nat_le x.1 n then counted (max n (x.1 + 1)) rows else None

abbrev pub ends_at : Option ℕ → ℕ → Bool
ends_at None total = false
ends_at (Some n) total = n == total

abbrev pub counts_to : Option ℕ → List (ℕ × ℕ) → ℕ → Bool
counts_to None rows total = false
counts_to (Some n) rows total = ends_at (counted n rows) total

abbrev pub numbered_as_written : Measures → Bool
numbered_as_written m = counts_to (counted 0 m.has) m.needs (length m.features)

-- features are numbered by first appearance in the written order: `has` lines, then `need` lines
pub record AreNumberedAsWritten (m : Measures) : Type 0 where
  pub order : numbered_as_written m ≡ true
