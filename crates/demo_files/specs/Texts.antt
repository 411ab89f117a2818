-- What three texts say, with the model of their problem.
use Rattle.std.specs.Prelude.{ℕ, ◌≡◌, List, Ok}
use Rattle.ctt_reader.specs.Grammar.{ctt_of}
use Rattle.ctt_reader.specs.Promised.{IsInstance}
use Rattle.timed_solution.specs.Times.{times_of, AreTimes}
use Rattle.measure_file.specs.Grammar.{measures_of}
use Rattle.tool_core.specs.Inputs.{IsModel}
use Rattle.tool_core.specs.declared.loading.Loaded.{Loaded}

-- the instance, its times and its measures are what the texts say, and the model is that of their problem
pub record AreRead (instance times measures : List ℕ) (l : Loaded) : Type 0 where
  pub says_instance : ctt_of instance ≡ Ok l.instance
  pub says_times : times_of l.instance times ≡ Ok l.times.meetings
  pub says_measures : measures_of l.instance measures ≡ Ok l.measures
  pub known : IsInstance l.instance
  pub fits : AreTimes l.instance l.times.meetings
  pub model : IsModel l.instance l.times l.measures l.model
