-- What a reader of lines did: what was listed before, and what is listed after.
use Rattle.std.specs.Prelude.{ℕ, ◌≡◌, ◌≤◌, List, length, Result, Ok, Err}
use Rattle.input_core.specs.Fields.{Fails}
use Rattle.input_core.specs.declared.faults.LineFault.{LineFault}
use Rattle.input_core.specs.declared.faults.LineKind.{LineKind}
use Rattle.input_core.specs.declared.faults.TextFault.{TextFault}
use Rattle.ctt_reader.specs.Names.{with_name}
use Rattle.measure_file.specs.Grammar.{feature_number}
use Rattle.measure_file.specs.declared.faults.EntryFault.{EntryFault}
use Rattle.measure_file.specs.declared.faults.EntryFault.TheVariants.{Kind, Memory}
use Rattle.measure_file.specs.declared.known.Known.{Known}
use Rattle.measure_file.specs.declared.listed.Listed.{Listed}
use Rattle.measure_file.specs.declared.measures.Measures.{Measures}

pub record AreFew (known : Known) : Type 0 where
  pub courses : length known.courses ≤ 1000
  pub rooms : length known.rooms ≤ 200

-- a line was read and added, or it has the fault that is returned
abbrev pub Adds : {A : Type 0} → Result A LineKind → Result (Unit {0}) EntryFault → A → Type 0
Adds read (Ok done) new = read ≡ Ok new
Adds read (Err Memory) new = Unit {0}
Adds read (Err (Kind kind)) new = read ≡ Err kind

-- the name of a feature was numbered
abbrev pub Numbers : List (List ℕ) → List ℕ → Result ℕ EntryFault → List (List ℕ) → Type 0
Numbers old name (Ok number) new = (feature_number old name ≡ Ok number) × (new ≡ with_name old name)
Numbers old name (Err Memory) new = Unit {0}
Numbers old name (Err (Kind kind)) new = feature_number old name ≡ Err kind

-- lines were read and added, or they have the fault that is returned
abbrev pub AddsLines : {A : Type 0} → Result A LineFault → Result (Unit {0}) TextFault → A → Type 0
AddsLines read (Ok done) new = read ≡ Ok new
AddsLines read (Err fault) new = Fails fault read

abbrev pub listed_in : Listed → Measures
listed_in l = record {
  features = l.features;
  has = l.has;
  needs = l.needs;
  denied = l.denied;
  closed = l.closed;
  prefer = l.prefer;
  robust = l.robust;
  lengths = l.lengths;
}
