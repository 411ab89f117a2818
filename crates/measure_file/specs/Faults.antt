-- The fault of a line with its number.
use Rattle.std.specs.Prelude.{ℕ}
use Rattle.input_core.specs.declared.faults.TextFault.{TextFault}
use Rattle.input_core.specs.declared.faults.TextFault.TheVariants as text_faults
use Rattle.measure_file.specs.declared.faults.EntryFault.{EntryFault}
use Rattle.measure_file.specs.declared.faults.EntryFault.TheVariants.{Kind, Memory}

abbrev pub fault_in : ℕ → EntryFault → TextFault
fault_in line (Kind kind) = text_faults.Line (record { line = line; kind = kind })
fault_in line Memory = text_faults.Memory
