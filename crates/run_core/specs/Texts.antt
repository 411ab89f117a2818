-- What is printed of a file that is not read or not of its form.
use Rattle.std.specs.Prelude.{ℕ, List, ◌++◌, codes, decimal}
use Rattle.input_core.specs.Texts.{text_of_kind}
use Rattle.input_core.specs.declared.faults.LineFault.{LineFault}

abbrev pub read_fault_text : List ℕ → List ℕ
read_fault_text name = codes "read fault " ++ name ++ codes "\n"

abbrev pub too_long_text : List ℕ → List ℕ
too_long_text name = codes "bad input " ++ name ++ codes ": bytes 16777217 over 16777216\n"

-- the first faulty line of a file
abbrev pub bad_line_text : List ℕ → LineFault → List ℕ
bad_line_text name fault =
    codes "bad input " ++ name ++ codes " line " ++ decimal fault.line ++ codes ": " ++ text_of_kind fault.kind ++ codes "\n"
