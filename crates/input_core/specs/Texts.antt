-- What is printed for the faults of a line.
use Rattle.std.specs.Prelude.{ℕ, List, ◌++◌, codes, decimal}
use Rattle.input_core.specs.declared.faults.LineKind.{LineKind}
use Rattle.input_core.specs.declared.faults.LineKind.TheVariants.{Byte, Keyword, Fields, NameLength, Number, Range, Dash, UnknownCourse, UnknownRoom, Repeated, RepeatedMeeting, TooMany, Order, Version, Count, Missing, After, Text}

abbrev pub text_of_kind : LineKind → List ℕ
text_of_kind Byte = codes "byte not allowed"
text_of_kind Keyword = codes "unexpected line"
text_of_kind Fields = codes "wrong number of fields"
text_of_kind NameLength = codes "name too long"
text_of_kind Number = codes "not a number"
text_of_kind Range = codes "number out of range"
text_of_kind Dash = codes "room named -"
text_of_kind UnknownCourse = codes "unknown course"
text_of_kind UnknownRoom = codes "unknown room"
text_of_kind Repeated = codes "name repeated"
text_of_kind RepeatedMeeting = codes "meeting repeated"
text_of_kind (TooMany limit) = codes "more than " ++ decimal limit
text_of_kind Order = codes "threshold not rising"
text_of_kind Version = codes "version not known"
text_of_kind (Count wanted found) = codes "count " ++ decimal found ++ codes ", header says " ++ decimal wanted
text_of_kind Missing = codes "file ends"
text_of_kind After = codes "line after END."
text_of_kind Text = codes "text"
