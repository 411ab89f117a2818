-- The base rows that might be, each under a number: by event, then by room and slot, then by course and room.
use Rattle.std.specs.Prelude.{ℕ, ◌≡◌, ◌+◌, ◌-◌, ◌*◌, ◌/◌, ◌%◌, ◌<◌, ◌≤◌, ◌==◌, nat_le, nat_lt, Bool, if◌then◌else◌, zero, suc, None, List, [], ◌∷◌, ◌++◌, map, length, slice_index, slice_index_or, take, drop, ℤ, pos, Result, Ok, Err}
use Rattle.std.specs.List.{flat_map, AllByRecursion}
use Rattle.numbers.specs.Sums.{member}
use Rattle.problem_core.specs.Facts.{Facts, event_at}
use Rattle.problem_core.specs.Courses.{events_of, passing}
use Rattle.problem_core.specs.Kept.{IsWithin}
use Rattle.problem_core.specs.declared.limit.LimitKind.TheVariants.{Rows}
use Rattle.problem_core.specs.declared.limit.BuildFault.{BuildFault}
use Rattle.problem_core.specs.declared.limit.BuildFault.TheVariants.{Limit as Over, Memory}
use Rattle.meeting_patterns.specs.Pattern.{within, pattern_at, weights, patterns_of}
use Rattle.meeting_patterns.specs.declared.pattern.Pattern.{Pattern}
use Rattle.duality.specs.declared.row.Run.{Run}
use Rattle.packing_model.specs.declared.row.Row.{Row}
use Rattle.packing_model.specs.declared.rows.RowTable.{RowTable}
use Rattle.packing_model.specs.Rows.{base_rows}
use Rattle.packing_model.specs.Built.{packing, rows_of, model_limit, AreBaseRunsOf}
use Rattle.packing_model.specs.Runs.{merged, no_run}
use Rattle.packing_model.specs.declared.row.Row.TheVariants.{Event, RoomSlot, CourseRoom}

-- the keys below this are of events, or of rooms and slots
abbrev pub slot_end : Facts → ℕ
slot_end p = length p.events + length p.capacity * p.slots

abbrev pub key_end : Facts → ℕ
key_end p = slot_end p + length p.students * length p.capacity

abbrev pub slot_key : Facts → ℕ → ℕ → ℕ
slot_key p r t = length p.events + (r * p.slots + t)

abbrev pub course_key : Facts → ℕ → ℕ → ℕ
course_key p c r = slot_end p + (c * length p.capacity + r)

abbrev pub slot_row : ℕ → ℕ → Row
slot_row slots k = RoomSlot (k / slots) (k % slots)

abbrev pub course_row : ℕ → ℕ → Row
course_row rooms k = CourseRoom (k / rooms) (k % rooms)

-- the row of the key
abbrev pub row_of : Facts → ℕ → Row
row_of p k =
    if nat_lt k (length p.events) then Event k
    else (if nat_lt k (slot_end p) then slot_row p.slots (k - length p.events) else course_row (length p.capacity) (k - slot_end p))

-- how many patterns it takes to make the key's row a base row
abbrev pub needed : Facts → ℕ → ℕ
needed p k = if nat_lt k (slot_end p) then 1 else 2

-- ---- the keys of a pattern

-- the event's key, and the keys of its slots in the room
abbrev pub event_keys : Facts → ℕ → ℕ → List ℕ
event_keys p r e = e ∷ map (slot_key p r) (event_at p e).takes

-- the same where the event is the pattern's
abbrev pub own_keys : Facts → Pattern → ℕ → List ℕ
own_keys p x e = if within p x e then event_keys p x.room e else []

-- the keys of the rows that the pattern stands in, were they base rows
abbrev pub keys_of : Facts → Pattern → List ℕ
keys_of p x = flat_map (own_keys p x) (events_of p x.course) ++ course_key p x.course x.room ∷ []

-- how many of the first n patterns have the key
abbrev pub having : Facts → List Pattern → ℕ → ℕ → ℕ
having p s n k = length (passing (λ i. member k (keys_of p (pattern_at s i))) n)

-- by key, how many of the first n patterns have it
pub record AreCounts (p : Facts) (s : List Pattern) (n : ℕ) (counts : List ℕ) : Type 0 where
  pub whole : length counts ≡ key_end p
  pub each : (k : ℕ) → k < key_end p → slice_index counts k ≡ having p s n k

-- ---- the base rows by key

-- enough patterns have the key
abbrev pub makes_row : Facts → List Pattern → ℕ → Bool
makes_row p s k = nat_le (needed p k) (having p s (length s) k)

-- the same of counts by key
abbrev pub counts_row : Facts → List ℕ → ℕ → Bool
counts_row p counts k = nat_le (needed p k) (slice_index counts k)

-- the number of the key's row + 1, else 0
abbrev pub number_of : (ℕ → Bool) → ℕ → ℕ
number_of test k = if test k then length (passing test k) + 1 else 0

-- by key, the number of its row + 1, or 0
pub record AreNumbers (test : ℕ → Bool) (n : ℕ) (numbers : List ℕ) : Type 0 where
  pub whole : length numbers ≡ n
  pub each : (k : ℕ) → k < n → slice_index numbers k ≡ number_of test k

-- the rows with their numbers by key, where they are at most 4,000
abbrev pub MakesRows : Facts → List Pattern → Result RowTable BuildFault → Type 0
MakesRows p s (Ok t) = (t.rows ≡ base_rows p s) × AreNumbers (makes_row p s) (key_end p) t.numbers.items × (length (base_rows p s) ≤ 4000)
MakesRows p s (Err (Over limit)) = (limit ≡ record { kind = Rows; count = length (base_rows p s); limit = 4000 }) × (4000 < length (base_rows p s))
MakesRows p s (Err Memory) = Unit {0}

-- the row's number where there is one
abbrev pub number_in : ℕ → List ℕ
number_in n = if n == 0 then [] else (n - 1) ∷ []

abbrev pub named : List ℕ → ℕ → List ℕ
named numbers k = number_in (slice_index numbers k)

-- the rows of the pattern's keys
abbrev pub rows_of_keys : Facts → List ℕ → Pattern → List ℕ
rows_of_keys p numbers x = flat_map (named numbers) (keys_of p x)

-- the same as runs
abbrev pub runs_of : Facts → List ℕ → Pattern → List Run
runs_of p numbers x = merged no_run (rows_of_keys p numbers x)

-- those of the first n patterns, one pattern after the other
abbrev pub runs_below : Facts → List ℕ → List Pattern → ℕ → List Run
runs_below p numbers s zero = []
runs_below p numbers s (suc n) = runs_below p numbers s n ++ runs_of p numbers (pattern_at s n)

-- the runs of n patterns, and where those of the first m begin
pub record AreRuns (p : Facts) (numbers : List ℕ) (s : List Pattern) (n m : ℕ) (runs : List Run) (starts : List ℕ) : Type 0 where
  pub runs_are : runs ≡ runs_below p numbers s n
  pub whole : length starts ≡ m
  pub each : (i : ℕ) → i < m → slice_index starts i ≡ length (runs_below p numbers s i)

-- the list from one start to the next
abbrev pub part_at : List Run → List ℕ → ℕ → List Run
part_at runs starts i = take (slice_index starts (i + 1) - slice_index starts i) (drop (slice_index starts i) runs)

-- ---- what a model keeps

-- the six weights of each of the first n patterns
pub record AreWeights (p : Facts) (s : List Pattern) (n : ℕ) (table : List (List ℤ)) : Type 0 where
  pub whole : length table ≡ n
  pub each : (i : ℕ) → i < n → slice_index_or table i [] ≡ weights p (pattern_at s i)
  pub small : (i : ℕ) → i < n → AllByRecursion (IsWithin (pos 576000000)) (slice_index_or table i [])

-- the runs of the i-th pattern's base rows lie between two starts
pub record AreRowsAt (p : Facts) (runs : List Run) (starts : List ℕ) (i : ℕ) : Type 0 where
  pub order : slice_index starts i ≤ slice_index starts (i + 1)
  pub inside : slice_index starts (i + 1) ≤ length runs
  pub are : AreBaseRunsOf (packing p) (part_at runs starts i) i

-- the problem's patterns and base rows, the weights, and the runs of each pattern's base rows
pub record IsModel (p : Facts) (patterns : List Pattern) (rows : List Row) (table : List (List ℤ)) (runs : List Run) (starts : List ℕ) : Type 0 where
  pub patterns_are : patterns ≡ patterns_of p
  pub rows_are : rows ≡ rows_of p
  pub limit : model_limit p ≡ None
  pub weights_are : AreWeights p (patterns_of p) (length (patterns_of p)) table
  pub all_starts : length starts ≡ length (patterns_of p) + 1
  pub runs_are : (i : ℕ) → i < length (patterns_of p) → AreRowsAt p runs starts i
