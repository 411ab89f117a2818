-- The base rows of a problem's patterns, and the packing that they make.
use Rattle.std.specs.Prelude.{ℕ, ◌&&◌, ◌==◌, nat_le, nat_lt, Bool, false, zero, suc, None, List, [], ◌++◌, map, length, slice_index_or}
use Rattle.numbers.specs.Below.{any_below}
use Rattle.problem_core.specs.Facts.{Facts, takes_slot}
use Rattle.problem_core.specs.Courses.{passing}
use Rattle.meeting_patterns.specs.Pattern.{within, pattern_at, clash, weight}
use Rattle.meeting_patterns.specs.declared.pattern.Pattern.{Pattern}
use Rattle.duality.specs.Packing.{Packing, Weights}
use Rattle.packing_model.specs.declared.row.Row.{Row}
use Rattle.packing_model.specs.declared.row.Row.TheVariants.{Event, RoomSlot, CourseRoom, Cut, Level}

-- one of the pattern's events takes the slot
abbrev pub takes : Facts → Pattern → ℕ → Bool
takes p x t = any_below (λ e. within p x e && takes_slot p e t) (length p.events)

-- the pattern stands in the base row
abbrev pub stands_in : Facts → Row → Pattern → Bool
stands_in p (Event e) x = nat_lt e (length p.events) && within p x e
stands_in p (RoomSlot r t) x = (x.room == r) && takes p x t
stands_in p (CourseRoom c r) x = (x.course == c) && (x.room == r)
stands_in p (Cut i) x = false
stands_in p (Level k) x = false

-- the patterns of the list, by number, that stand in the row
abbrev pub standing : Facts → List Pattern → Row → List ℕ
standing p s row = passing (λ i. stands_in p row (pattern_at s i)) (length s)

abbrev pub has_some : Facts → List Pattern → Row → Bool
has_some p s row = nat_le 1 (length (standing p s row))

abbrev pub has_two : Facts → List Pattern → Row → Bool
has_two p s row = nat_le 2 (length (standing p s row))

-- a row an event that stands in some pattern
abbrev pub event_rows : Facts → List Pattern → List Row
event_rows p s = map Event (passing (λ e. has_some p s (Event e)) (length p.events))

-- a row a room and slot that some pattern takes, by room and then slot
abbrev pub slot_rows : Facts → List Pattern → ℕ → List Row
slot_rows p s zero = []
slot_rows p s (suc r) = slot_rows p s r ++ map (RoomSlot r) (passing (λ t. has_some p s (RoomSlot r t)) p.slots)

-- a row a course and room of at least two patterns, by course and then room
abbrev pub course_rows : Facts → List Pattern → ℕ → List Row
course_rows p s zero = []
course_rows p s (suc c) = course_rows p s c ++ map (CourseRoom c) (passing (λ r. has_two p s (CourseRoom c r)) (length p.capacity))

abbrev pub base_rows : Facts → List Pattern → List Row
base_rows p s = event_rows p s ++ slot_rows p s (length p.capacity) ++ course_rows p s (length p.students)

abbrev pub row_at : List Row → ℕ → Row
row_at rows r = slice_index_or rows r (Event 0)

-- what a leaf knows of the patterns
abbrev pub packing_of : Facts → List Pattern → Packing
packing_of p s = record {
  count = length s;
  clash = λ i j. clash p (pattern_at s i) (pattern_at s j);
  base_len = length (base_rows p s);
  in_base = λ r i. stands_in p (row_at (base_rows p s) r) (pattern_at s i);
}

-- the six measures as what is counted
abbrev pub weights_of : Facts → List Pattern → Weights
weights_of p s = record { weight = λ k i. weight p k (pattern_at s i); floor = None }

-- every two patterns of each cut clash
abbrev pub in_cut : List (List ℕ) → ℕ → List ℕ
in_cut cuts c = slice_index_or cuts c []
