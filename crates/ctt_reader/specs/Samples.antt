-- Lines and small instances, computed.
use Rattle.std.specs.Prelude.{◌≡◌, [], ◌∷◌, Ok, Err, codes, refl}
use Rattle.input_core.specs.Lines.{fields_of}
use Rattle.input_core.specs.declared.faults.LineKind.TheVariants.{Keyword, Fields, Number, Range, Dash, UnknownCourse, Count, Missing}
use Rattle.ctt_reader.specs.Entries.{course_of, room_of, curriculum_of, constraint_of, only_word}
use Rattle.ctt_reader.specs.Grammar.{ctt_of}

course : course_of (fields_of (codes "C1 T1 1 2 10")) ≡ Ok (record { name = codes "C1"; teacher = codes "T1"; lectures = 1; min_days = 2; students = 10 })
course = refl

no_students : course_of (fields_of (codes "C1 T1 1 1")) ≡ Err Fields
no_students = refl

ten_digits : course_of (fields_of (codes "C1 T1 1 1 0000000010")) ≡ Err Number
ten_digits = refl

dash_first : room_of (fields_of (codes "- x")) ≡ Err Dash
dash_first = refl

members : curriculum_of (codes "c01" ∷ codes "c02" ∷ codes "c03" ∷ []) (fields_of (codes "q1 2 c03 c01")) ≡ Ok (record { name = codes "q1"; members = 2 ∷ 0 ∷ [] })
members = refl

too_few_members : curriculum_of (codes "c01" ∷ []) (fields_of (codes "q1 2 c01")) ≡ Err Fields
too_few_members = refl

unknown_member : curriculum_of (codes "c01" ∷ []) (fields_of (codes "q1 1 c02")) ≡ Err UnknownCourse
unknown_member = refl

late_day : constraint_of (codes "c01" ∷ []) 5 4 (fields_of (codes "c01 5 0")) ≡ Err Range
late_day = refl

lone_word : only_word (codes "COURSES:") (fields_of (codes "COURSES: x")) ≡ Err Fields
lone_word = refl

empty_file : ctt_of [] ≡ Err (record { line = 1; kind = Missing })
empty_file = refl

other_first_line : ctt_of (codes "\nTitle: x\n") ≡ Err (record { line = 2; kind = Keyword })
other_first_line = refl

-- three rooms by the header, and two lines of rooms
too_few_rooms : ctt_of (codes "Name: x\nCourses: 0\nRooms: 3\nDays: 1\nPeriods_per_day: 1\nCurricula: 0\nConstraints: 0\nCOURSES:\nROOMS:\nR1 20\nR2 30\nCURRICULA:\n") ≡ Err (record { line = 12; kind = Count 3 2 })
too_few_rooms = refl
