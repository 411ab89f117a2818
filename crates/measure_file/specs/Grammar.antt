-- Measures files: a first line that names the version, then lines of seven kinds in any order; and the first
-- faulty line with its first fault. A line's first fault decides: its first field, the number of its fields, each
-- field from left to right, and last what the lines before it say.
use Rattle.std.specs.Prelude.{ℕ, ℤ, pos, neg_ℤ, ◌-◌, ◌==◌, ◌&&◌, Bool, true, if◌then◌else◌, nat_lt, List, [], ◌∷◌, ◌++◌, length, drop, slice_get, slice_index, Option, Some, None, Result, Ok, Err, codes, bytes_eq}
use Rattle.std.specs.List.{list_any, position_or_len}
use Rattle.input_core.specs.Rows.{unread}
use Rattle.input_core.specs.Fields.{◌>>=◌, in_line, name_of, number_in, number_below}
use Rattle.input_core.specs.declared.cursors.Row.{Row}
use Rattle.input_core.specs.declared.faults.LineFault.{LineFault}
use Rattle.input_core.specs.declared.faults.LineKind.{LineKind}
use Rattle.input_core.specs.declared.faults.LineKind.TheVariants.{Keyword, Fields, Repeated, TooMany, Order, Version}
use Rattle.ctt_reader.specs.Names.{course_at, room_at, with_name}
use Rattle.ctt_reader.specs.Entries.{course_names, room_names}
use Rattle.ctt_reader.specs.declared.instance.Instance.{Instance}
use Rattle.measure_file.specs.declared.known.Known.{Known}
use Rattle.measure_file.specs.declared.measures.Measures.{Measures}
use Rattle.measure_file.specs.declared.words.FileVersion.{FileVersion}
use Rattle.measure_file.specs.declared.words.FileVersion.TheVariants.{One, Two}
use Rattle.measure_file.specs.declared.words.Word.{Word}
use Rattle.measure_file.specs.declared.words.Word.TheVariants.{Has, Need, Deny, Closed, Prefer, Robust, Length}

-- what an instance knows that the lines speak of
abbrev pub known_of : Instance → Known
known_of i = record { courses = course_names i.courses; rooms = room_names i.rooms; days = i.days; periods = i.periods }

abbrev pub no_measures : Measures
no_measures = record { features = []; has = []; needs = []; denied = []; closed = []; prefer = []; robust = []; lengths = [] }

-- the version is exactly `1` or `2`
abbrev pub version_in : List ℕ → Result FileVersion LineKind
version_in field = if bytes_eq field (codes "1") then Ok One else (if bytes_eq field (codes "2") then Ok Two else Err Version)

abbrev pub only_version : List (List ℕ) → Result FileVersion LineKind
only_version (field ∷ []) = version_in field
only_version _ = Err Fields

-- `measures VERSION`
abbrev pub version_of : List (List ℕ) → Result FileVersion LineKind
version_of [] = Err Keyword
version_of (word ∷ fields) = if bytes_eq word (codes "measures") then only_version fields else Err Keyword

-- lengths are listed from version 2 on
abbrev pub length_word : FileVersion → Result Word LineKind
length_word One = Err Keyword
length_word Two = Ok Length

abbrev pub word_of : FileVersion → List ℕ → Result Word LineKind
word_of version word =
    if bytes_eq word (codes "has") then Ok Has
    else (if bytes_eq word (codes "need") then Ok Need
    else (if bytes_eq word (codes "deny") then Ok Deny
    else (if bytes_eq word (codes "closed") then Ok Closed
    else (if bytes_eq word (codes "prefer") then Ok Prefer
    else (if bytes_eq word (codes "robust") then Ok Robust
    else (if bytes_eq word (codes "length") then length_word version
    else Err Keyword))))))

abbrev pub two_fields : List (List ℕ) → Result (List ℕ × List ℕ) LineKind
two_fields (first ∷ second ∷ []) = Ok (first, second)
two_fields _ = Err Fields

abbrev pub three_fields : List (List ℕ) → Result (List ℕ × List ℕ × List ℕ) LineKind
three_fields (first ∷ second ∷ third ∷ []) = Ok (first, second, third)
three_fields _ = Err Fields

-- a number, or `-` and a number, of at most a million
abbrev pub points_of : List ℕ → Result ℤ LineKind
points_of field =
    if slice_index field 0 == 45 then (number_in 0 1000000 (drop 1 field) >>= λ n. Ok (neg_ℤ (pos n)))
    else (number_in 0 1000000 field >>= λ n. Ok (pos n))

-- after `has`: ROOM FEATURE
abbrev pub room_feature : Known → List (List ℕ) → Result (ℕ × List ℕ) LineKind
room_feature known fields = do
  f ← two_fields fields
  room ← room_at known.rooms f.0
  feature ← name_of f.1
  Ok (room, feature)

-- after `need`: COURSE FEATURE
abbrev pub course_feature : Known → List (List ℕ) → Result (ℕ × List ℕ) LineKind
course_feature known fields = do
  f ← two_fields fields
  course ← course_at known.courses f.0
  feature ← name_of f.1
  Ok (course, feature)

-- after `deny`: COURSE ROOM
abbrev pub course_room : Known → List (List ℕ) → Result (ℕ × ℕ) LineKind
course_room known fields = do
  f ← two_fields fields
  course ← course_at known.courses f.0
  room ← room_at known.rooms f.1
  Ok (course, room)

-- after `closed`: ROOM DAY PERIOD
abbrev pub closure_of : Known → List (List ℕ) → Result (ℕ × ℕ × ℕ) LineKind
closure_of known fields = do
  f ← three_fields fields
  room ← room_at known.rooms f.0
  day ← number_below known.days f.1
  period ← number_below known.periods f.2
  Ok (room, day, period)

-- after `prefer`: COURSE ROOM POINTS
abbrev pub preference_of : Known → List (List ℕ) → Result (ℕ × ℕ × ℤ) LineKind
preference_of known fields = do
  f ← three_fields fields
  course ← course_at known.courses f.0
  room ← room_at known.rooms f.1
  points ← points_of f.2
  Ok (course, room, points)

-- after `robust`: THRESHOLD POINTS
abbrev pub threshold_of : List (List ℕ) → Result (ℕ × ℤ) LineKind
threshold_of fields = do
  f ← two_fields fields
  threshold ← number_in 0 1000 f.0
  points ← points_of f.1
  Ok (threshold, points)

-- after `length`: COURSE N
abbrev pub length_of : Known → List (List ℕ) → Result (ℕ × ℕ) LineKind
length_of known fields = do
  f ← two_fields fields
  course ← course_at known.courses f.0
  periods ← number_in 1 48 f.1
  Ok (course, periods)

-- the number of a feature: its place, or the next one where it is new; there are at most 100
abbrev pub feature_number : List (List ℕ) → List ℕ → Result ℕ LineKind
feature_number features name =
    if nat_lt (position_or_len (bytes_eq name) features) 100 then Ok (position_or_len (bytes_eq name) features)
    else Err (TooMany 100)

abbrev pub same_pair : ℕ × ℕ × ℤ → ℕ × ℕ × ℤ → Bool
same_pair x y = (x.0 == y.0) && (x.1 == y.1)

-- a course and a room have one preference
abbrev pub with_preference : List (ℕ × ℕ × ℤ) → ℕ × ℕ × ℤ → Result (List (ℕ × ℕ × ℤ)) LineKind
with_preference before x = if list_any (same_pair x) before then Err Repeated else Ok (before ++ x ∷ [])

-- whether a threshold is above the last one, where there is one
abbrev pub is_above : Option (ℕ × ℤ) → ℕ → Bool
is_above None threshold = true
is_above (Some last) threshold = nat_lt last.0 threshold

-- at most 100 thresholds, each above the one before it
abbrev pub with_threshold : List (ℕ × ℤ) → ℕ × ℤ → Result (List (ℕ × ℤ)) LineKind
with_threshold before x =
    if nat_lt (length before) 100 then (if is_above (slice_get before (length before - 1)) x.0 then Ok (before ++ x ∷ []) else Err Order)
    else Err (TooMany 100)

abbrev pub same_course : ℕ × ℕ → ℕ × ℕ → Bool
same_course x y = x.0 == y.0

-- a course has one length
abbrev pub with_length : List (ℕ × ℕ) → ℕ × ℕ → Result (List (ℕ × ℕ)) LineKind
with_length before x = if list_any (same_course x) before then Err Repeated else Ok (before ++ x ∷ [])

abbrev pub threshold_entry : Measures → List (List ℕ) → Result Measures LineKind
threshold_entry m fields = do
  x ← threshold_of fields
  rows ← with_threshold m.robust x
  Ok (record m { robust = rows })

-- what is listed after a line of each kind
abbrev pub entry : Known → Measures → Word → List (List ℕ) → Result Measures LineKind
entry known m Has fields = do
  x ← room_feature known fields
  feature ← feature_number m.features x.1
  Ok (record m { features = with_name m.features x.1; has = m.has ++ (x.0, feature) ∷ [] })
entry known m Need fields = do
  x ← course_feature known fields
  feature ← feature_number m.features x.1
  Ok (record m { features = with_name m.features x.1; needs = m.needs ++ (x.0, feature) ∷ [] })
entry known m Deny fields = do
  x ← course_room known fields
  Ok (record m { denied = m.denied ++ x ∷ [] })
entry known m Closed fields = do
  x ← closure_of known fields
  Ok (record m { closed = m.closed ++ x ∷ [] })
entry known m Prefer fields = do
  x ← preference_of known fields
  rows ← with_preference m.prefer x
  Ok (record m { prefer = rows })
entry known m Robust fields = threshold_entry m fields
entry known m Length fields = do
  x ← length_of known fields
  rows ← with_length m.lengths x
  Ok (record m { lengths = rows })

-- what is listed after one more line
abbrev pub line_of : Known → FileVersion → Measures → List (List ℕ) → Result Measures LineKind
line_of known version m [] = Err Keyword
line_of known version m (word ∷ fields) = word_of version word >>= λ w. entry known m w fields

-- what is listed after these lines
abbrev pub lines_from : Known → FileVersion → Measures → List (Result Row LineFault) → Result Measures LineFault
lines_from known version m [] = Ok m
lines_from known version m (Err fault ∷ rows) = Err fault
lines_from known version m (Ok row ∷ rows) = in_line row.line (line_of known version m row.fields) >>= λ n. lines_from known version n rows

-- a file without fields lists nothing; else its first line with fields names the version
abbrev pub file_of : Known → List (Result Row LineFault) → Result Measures LineFault
file_of known [] = Ok no_measures
file_of known (Err fault ∷ rows) = Err fault
file_of known (Ok row ∷ rows) = in_line row.line (version_of row.fields) >>= λ version. lines_from known version no_measures rows

-- the measures that a file lists for the instance, or its first faulty line
abbrev pub measures_of : Instance → List ℕ → Result Measures LineFault
measures_of i bytes = file_of (known_of i) (unread bytes).rows
