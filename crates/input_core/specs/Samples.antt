-- Lines, fields and numbers of small texts, computed.
use Rattle.std.specs.Prelude.{◌≡◌, [], ◌∷◌, Some, None, Ok, Err, codes, refl}
use Rattle.input_core.specs.Lines.{lines_of, fields_of, number_of}
use Rattle.input_core.specs.Rows.{unread}
use Rattle.input_core.specs.Fields.{number_in}
use Rattle.input_core.specs.declared.faults.LineKind.TheVariants.{Byte, Number, Range}

no_lines : lines_of [] ≡ []
no_lines = refl

-- a last line feed begins no further line, and one carriage return before a line feed is dropped
two_lines : lines_of (codes "a b\r\n\r\r\n") ≡ codes "a b" ∷ codes "\r" ∷ []
two_lines = refl

open_line : lines_of (codes "a\n\nb\r") ≡ codes "a" ∷ [] ∷ codes "b" ∷ []
open_line = refl

fields : fields_of (codes " \tC1  R1\t0 ") ≡ codes "C1" ∷ codes "R1" ∷ codes "0" ∷ []
fields = refl

-- lines are numbered from 1, empty ones too, and a byte that is not allowed makes a line faulty
rows : unread (codes "\nC1 0\n\r\r\n") ≡ record { rows = Ok (record { line = 2; fields = codes "C1" ∷ codes "0" ∷ [] }) ∷ Err (record { line = 3; kind = Byte }) ∷ []; past = 4 }
rows = refl

zeros : number_of (codes "000000012") ≡ Some 12
zeros = refl

ten_digits : number_of (codes "0000000012") ≡ None
ten_digits = refl

signed : number_in 0 9 (codes "-1") ≡ Err Number
signed = refl

high : number_in 1 14 (codes "15") ≡ Err Range
high = refl
