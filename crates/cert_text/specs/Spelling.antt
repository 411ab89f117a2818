-- How a line is spelled, and its bounds.
use Rattle.std.specs.Prelude.{ℕ, ℤ, pos, negsuc, ◌^◌, zero, Bool, true, false, ◌&&◌, ◌==◌, not, nat_le, nat_lt, if◌then◌else◌, Option, Some, None, List, [], ◌∷◌, length, map, codes, option_map}
use Rattle.std.specs.List.{list_all}
use Rattle.std.specs.Str.{bytes_eq}
use Rattle.std.specs.Fmt.{decimal, signed_decimal}
use Rattle.duality.specs.declared.row.RowName.{RowName}
use Rattle.duality.specs.declared.row.RowName.TheVariants.{Base, Cut as CutRow, Level as LevelRow}
use Rattle.duality.specs.declared.row.Term.{Term}
use Rattle.duality.specs.declared.leaf.Leaf.{Leaf}
use Rattle.duality.specs.declared.leaf.Node.TheVariants.{Branch, Leaf as Closing, OpenEnd, Same}
use Rattle.duality.specs.Sums.{rises, is_small}
use Rattle.cert_text.specs.declared.lines.CertLine.{CertLine}
use Rattle.cert_text.specs.declared.lines.CertLine.TheVariants.{Head, Sizes, Choice, Values, Cuts, Cut, Level, Unfinished, Node, End}
use Rattle.cert_text.specs.Numbers.{cut, joined, opt_then, number_of, number_up_to, signed_of, each_of}

-- ---- the writer

-- b, c or l, and the number
abbrev pub row_text : RowName → List ℕ
row_text (Base r) = 98 ∷ decimal r
row_text (CutRow c) = 99 ∷ decimal c
row_text (LevelRow j) = 108 ∷ decimal j

abbrev pub term_fields : List Term → List (List ℕ)
term_fields [] = []
term_fields (t ∷ ts) = row_text t.row ∷ (signed_decimal t.times ∷ term_fields ts)

abbrev pub leaf_fields : Leaf → List (List ℕ)
leaf_fields leaf = signed_decimal leaf.scale ∷ (decimal (length leaf.terms) ∷ term_fields leaf.terms)

abbrev pub counted : List ℕ → List (List ℕ)
counted ns = map decimal (length ns ∷ ns)

abbrev pub fields_of : CertLine → List (List ℕ)
fields_of (Head version) = codes "rooms-certificate" ∷ map decimal (version ∷ [])
fields_of (Sizes patterns rows) = codes "model" ∷ map decimal (patterns ∷ (rows ∷ []))
fields_of (Choice entries) = codes "choice" ∷ counted entries
fields_of (Values values) = codes "values" ∷ map signed_decimal values
fields_of (Cuts count) = codes "cuts" ∷ map decimal (count ∷ [])
fields_of (Cut patterns) = codes "cut" ∷ counted patterns
fields_of (Level j) = codes "level" ∷ map decimal (j ∷ [])
fields_of (Unfinished j) = codes "unfinished" ∷ map decimal (j ∷ [])
fields_of (Node (Branch p)) = codes "branch" ∷ map decimal (p ∷ [])
fields_of (Node (Closing leaf)) = codes "leaf" ∷ leaf_fields leaf
fields_of (Node OpenEnd) = codes "open" ∷ []
fields_of (Node (Same leaf)) = codes "same" ∷ map decimal (leaf ∷ [])
fields_of (End n) = codes "end" ∷ map decimal (n ∷ [])

-- one blank between two fields
abbrev pub line_text : CertLine → List ℕ
line_text l = joined 32 (fields_of l)

-- ---- the bounds of a line

abbrev pub rises_above : ℕ → List ℕ → Bool
rises_above p [] = true
rises_above p (q ∷ qs) = nat_lt p q && rises_above q qs

abbrev pub is_rising : List ℕ → Bool
is_rising [] = true
is_rising (p ∷ ps) = rises_above p ps

abbrev pub row_in_bounds : RowName → Bool
row_in_bounds (Base r) = nat_le r 3999
row_in_bounds (CutRow c) = nat_le c 999
row_in_bounds (LevelRow j) = nat_le 1 j && nat_le j 5

abbrev pub is_zero : ℤ → Bool
is_zero (pos zero) = true
is_zero z = false

abbrev pub term_in_bounds : Term → Bool
term_in_bounds t = row_in_bounds t.row && (not (is_zero t.times) && is_small (10 ^ 24) t.times)

-- a scale is a natural number
abbrev pub scale_in_bounds : ℤ → Bool
scale_in_bounds (pos n) = nat_le n (10 ^ 24)
scale_in_bounds (negsuc n) = false

abbrev pub leaf_in_bounds : Leaf → Bool
leaf_in_bounds leaf = scale_in_bounds leaf.scale && (nat_le (length leaf.terms) 5005 && (list_all term_in_bounds leaf.terms && rises leaf.terms))

-- a version that is known
abbrev pub is_version : ℕ → Bool
is_version n = nat_le 1 n && nat_le n 2

-- the number of an earlier leaf line is below 2^63, as the bytes of every text are
abbrev pub in_bounds : CertLine → Bool
in_bounds (Head version) = is_version version
in_bounds (Sizes patterns rows) = nat_le patterns 200000 && nat_le rows 4000
in_bounds (Choice entries) = nat_le (length entries) 4000 && list_all (λ entry. nat_le entry 200) entries
in_bounds (Values values) = (length values == 6) && list_all (is_small (10 ^ 12)) values
in_bounds (Cuts count) = nat_le count 1000
in_bounds (Cut patterns) = nat_le 2 (length patterns) && (nat_le (length patterns) 1000 && (list_all (λ p. nat_le p 199999) patterns && is_rising patterns))
in_bounds (Level j) = nat_le j 6
in_bounds (Unfinished j) = nat_le j 6
in_bounds (Node (Branch p)) = nat_le p 199999
in_bounds (Node (Closing leaf)) = leaf_in_bounds leaf
in_bounds (Node OpenEnd) = true
in_bounds (Node (Same leaf)) = nat_le leaf 9223372036854775807
in_bounds (End n) = nat_le n 6

-- ---- the reader

-- all numbers of a line but those of a leaf, the values and the number of a leaf line
abbrev pub small_number : List ℕ → Option ℕ
small_number field = number_up_to 200000 field

abbrev pub value_of : List ℕ → Option ℤ
value_of field = opt_then (signed_of field) (λ z. if is_small (10 ^ 12) z then Some z else None)

abbrev pub row_named : ℕ → Option ℕ → Option RowName
row_named letter None = None
row_named letter (Some n) =
    if letter == 98 then Some (Base n)
    else (if letter == 99 then Some (CutRow n)
    else (if letter == 108 then Some (LevelRow n)
    else None))

abbrev pub row_of : List ℕ → Option RowName
row_of [] = None
row_of (letter ∷ digits) = row_named letter (small_number digits)

abbrev pub term_of : List ℕ → List ℕ → Option Term
term_of r m = opt_then (row_of r) (λ row. opt_then (signed_of m) (λ times. Some (record { row = row; times = times })))

abbrev pub terms_of : List (List ℕ) → Option (List Term)
terms_of [] = Some []
terms_of (r ∷ []) = None
terms_of (r ∷ (m ∷ fields)) = opt_then (term_of r m) (λ t. opt_then (terms_of fields) (λ ts. Some (t ∷ ts)))

abbrev pub counted_terms : ℤ → Option ℕ → Option (List Term) → Option Leaf
counted_terms scale (Some count) (Some ts) = if count == length ts then Some (record { scale = scale; terms = ts }) else None
counted_terms scale count ts = None

-- a scale, the number of terms, which is in its bounds, and the terms
abbrev pub leaf_of : List (List ℕ) → Option Leaf
leaf_of [] = None
leaf_of (d ∷ []) = None
leaf_of (d ∷ (t ∷ fields)) = opt_then (number_of d) (λ scale. counted_terms (pos scale) (number_up_to 5005 t) (terms_of fields))

-- one number
abbrev pub only_number : List (List ℕ) → Option ℕ
only_number [] = None
only_number (f ∷ []) = small_number f
only_number (f ∷ (g ∷ fields)) = None

-- two numbers
abbrev pub pair_of : List (List ℕ) → Option (ℕ × ℕ)
pair_of [] = None
pair_of (f ∷ []) = None
pair_of (f ∷ (g ∷ [])) = opt_then (small_number f) (λ n. opt_then (small_number g) (λ m. Some (n, m)))
pair_of (f ∷ (g ∷ (h ∷ fields))) = None

abbrev pub as_many : Option ℕ → Option (List ℕ) → Option (List ℕ)
as_many (Some count) (Some ns) = if count == length ns then Some ns else None
as_many count ns = None

-- a number up to a limit, and as many more numbers
abbrev pub counted_of : ℕ → List (List ℕ) → Option (List ℕ)
counted_of limit [] = None
counted_of limit (f ∷ fields) = as_many (number_up_to limit f) (each_of small_number fields)

abbrev pub six_of : Option (List ℤ) → Option (List ℤ)
six_of None = None
six_of (Some vs) = if length vs == 6 then Some vs else None

abbrev pub values_of : List (List ℕ) → Option (List ℤ)
values_of fields = six_of (each_of value_of fields)

-- the number of a leaf line
abbrev pub leaf_number : List (List ℕ) → Option ℕ
leaf_number [] = None
leaf_number (f ∷ []) = number_up_to 9223372036854775807 f
leaf_number (f ∷ (g ∷ fields)) = None

abbrev pub open_line : List (List ℕ) → Option CertLine
open_line [] = Some (Node OpenEnd)
open_line (f ∷ fs) = None

-- the lines of a tree and the cuts; for another word, something else
abbrev pub node_line : List ℕ → List (List ℕ) → Option CertLine → Option CertLine
node_line w fs other =
    if bytes_eq w (codes "branch") then option_map (λ p. Node (Branch p)) (only_number fs)
    else (if bytes_eq w (codes "leaf") then option_map (λ leaf. Node (Closing leaf)) (leaf_of fs)
    else (if bytes_eq w (codes "same") then option_map (λ q. Node (Same q)) (leaf_number fs)
    else (if bytes_eq w (codes "open") then open_line fs
    else (if bytes_eq w (codes "cut") then option_map Cut (counted_of 1000 fs)
    else other))))

-- the lines around the trees
abbrev pub level_line : List ℕ → List (List ℕ) → Option CertLine → Option CertLine
level_line w fs other =
    if bytes_eq w (codes "level") then option_map Level (only_number fs)
    else (if bytes_eq w (codes "unfinished") then option_map Unfinished (only_number fs)
    else (if bytes_eq w (codes "end") then option_map End (only_number fs)
    else (if bytes_eq w (codes "cuts") then option_map Cuts (only_number fs)
    else other)))

-- the lines at the beginning
abbrev pub first_line : List ℕ → List (List ℕ) → Option CertLine → Option CertLine
first_line w fs other =
    if bytes_eq w (codes "rooms-certificate") then option_map Head (only_number fs)
    else (if bytes_eq w (codes "model") then option_map (λ p. Sizes p.0 p.1) (pair_of fs)
    else (if bytes_eq w (codes "choice") then option_map Choice (counted_of 4000 fs)
    else (if bytes_eq w (codes "values") then option_map Values (values_of fs)
    else other)))

abbrev pub line_in : List (List ℕ) → Option CertLine
line_in [] = None
line_in (w ∷ fs) = node_line w fs (level_line w fs (first_line w fs None))

abbrev pub bounded : Option CertLine → Option CertLine
bounded line = opt_then line (λ l. if in_bounds l then Some l else None)

-- the line that the bytes spell
abbrev pub line_of : List ℕ → Option CertLine
line_of bytes = bounded (line_in (cut 32 bytes))
