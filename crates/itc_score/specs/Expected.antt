-- What a run in which no call fails answers, from the words and from what the names hold.
use Rattle.std.specs.Prelude.{ℕ, List, [], slice_index_or, if◌then◌else◌}
use Rattle.ctt_reader.specs.declared.instance.Instance.{Instance}
use Rattle.ctt_reader.specs.Grammar.{ctt_of}
use Rattle.timed_solution.specs.declared.times.Times.{Times}
use Rattle.timed_solution.specs.declared.times.Meeting.{Meeting}
use Rattle.timed_solution.specs.Times.{times_of}
use Rattle.run_core.specs.Files.{GivesInstance, GivesTimes}
use Rattle.run_core.specs.Outside.{Held, Told}
use Rattle.run_core.specs.Expected.{Expected, of_file, of_text}
use Rattle.run_core.specs.Expected.Expected.{Says}
use Rattle.run_core.specs.declared.status.ToolStatus.TheVariants as statuses
use Rattle.itc_score.specs.Score.{score_of}
use Rattle.itc_score.specs.Texts.{usage_text, score_text}
use Rattle.itc_score.specs.Run.{are_names}

abbrev pub of_lines : Instance → List Meeting → Expected
of_lines i lines = Says statuses.Done (score_text (score_of i lines))

abbrev pub of_times : Held → List ℕ → Instance → Expected
of_times held m i = of_file m (held m) (λ bytes. of_text m (times_of i bytes) (of_lines i))

-- the instance first, then the solution
abbrev pub of_names : Held → List ℕ → List ℕ → Expected
of_names held n m = of_file n (held n) (λ bytes. of_text n (ctt_of bytes) (of_times held m))

abbrev pub expected : Held → List (List ℕ) → Expected
expected held words = if are_names words then of_names held (slice_index_or words 0 []) (slice_index_or words 1 []) else Says statuses.Usage usage_text

-- the two files are texts of an instance and of a solution of it
pub record IsAccepted (o : Told) (n m : List ℕ) : Type 0 where
  pub i : Instance
  pub t : Times
  pub instance : GivesInstance o.tells (o.held n) i
  pub times : GivesTimes o.tells (o.held m) i t
