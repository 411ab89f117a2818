-- What a run in which no call fails answers of three input files.
use Rattle.std.specs.Prelude.{List, Option, Some, None}
use Rattle.problem_core.specs.declared.limit.Limit.{Limit}
use Rattle.problem_core.specs.Limits.{limit_of}
use Rattle.ctt_reader.specs.declared.instance.Instance.{Instance}
use Rattle.ctt_reader.specs.Grammar.{ctt_of}
use Rattle.timed_solution.specs.declared.times.Times.{Times}
use Rattle.timed_solution.specs.declared.times.Meeting.{Meeting}
use Rattle.timed_solution.specs.Times.{times_of}
use Rattle.measure_file.specs.declared.measures.Measures.{Measures}
use Rattle.measure_file.specs.Grammar.{measures_of}
use Rattle.room_model.specs.ProblemOf.{problem_of}
use Rattle.room_model.specs.Long.{long_fault}
use Rattle.room_model.specs.declared.long.LongFault.{LongFault}
use Rattle.packing_model.specs.Built.{model_limit}
use Rattle.run_core.specs.Outside.{Held}
use Rattle.run_core.specs.Expected.{Expected, of_file, of_text}
use Rattle.run_core.specs.Expected.Expected.{Says}
use Rattle.run_core.specs.declared.status.ToolStatus.TheVariants.{BadInput}
use Rattle.reports.specs.Lines.{over_limit_text, long_text}
use Rattle.tool_core.specs.declared.inputs.Names.{Names}

abbrev pub times_with : List Meeting → Times
times_with meetings = record { meetings = meetings }

-- what is done with the values of three files that give a problem
abbrev pub Next : Type 0
Next = Instance → Times → Measures → Expected

abbrev pub of_limit : Next → Instance → Times → Measures → Option Limit → Expected
of_limit next i t m (Some over) = Says BadInput (over_limit_text over)
of_limit next i t m None = next i t m

-- meetings that are too long first, then the limits
abbrev pub of_long : Next → Instance → Times → Measures → Option LongFault → Expected
of_long next i t m (Some fault) = Says BadInput (long_text i t fault)
of_long next i t m None = of_limit next i t m (limit_of (problem_of i t m))

abbrev pub of_measures : Next → Held → Names → Instance → Times → Expected
of_measures next held f i t = of_file f.measures (held f.measures) (λ bytes. of_text f.measures (measures_of i bytes) (λ m. of_long next i t m (long_fault i t m)))

abbrev pub of_times : Next → Held → Names → Instance → Expected
of_times next held f i = of_file f.times (held f.times) (λ bytes. of_text f.times (times_of i bytes) (λ meetings. of_measures next held f i (times_with meetings)))

-- the instance first, then the times, then the measures, then their problem
abbrev pub of_files : Next → Held → Names → Expected
of_files next held f = of_file f.instance (held f.instance) (λ bytes. of_text f.instance (ctt_of bytes) (of_times next held f))

-- then the limits of the model
abbrev pub of_model : Next → Next
of_model next i t m = of_limit next i t m (model_limit (problem_of i t m))
