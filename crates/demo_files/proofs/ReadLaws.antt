-- What is read back from the texts of the input is the input.
use Rattle.std.proofs.Common.{ℕ, ◌≡◌, ap, sym, ◌∙◌, List}
use Rattle.std.specs.Prelude.{Ok}
use Rattle.input_core.proofs.ChainLemmas.{ok-same}
use Rattle.ctt_reader.specs.Grammar.{ctt_of}
use Rattle.ctt_reader.specs.declared.instance.Instance.{Instance}
use Rattle.timed_solution.specs.declared.times.Times.{Times}
use Rattle.timed_solution.specs.declared.times.Meeting.{Meeting}
use Rattle.timed_solution.specs.Times.{times_of as meetings_in}
use Rattle.measure_file.specs.Grammar.{measures_of as measures_in}
use Rattle.tool_core.specs.declared.loading.Loaded.{Loaded}
use Rattle.demo_files.specs.Generator.{instance_of, times_of, measures_of}
use Rattle.demo_files.specs.Texts.{AreRead}

pub instance_again : (n : ℕ) (a b c : List ℕ) (l : Loaded) → AreRead a b c l → ctt_of a ≡ Ok (instance_of n) → l.instance ≡ instance_of n
instance_again n a b c l is h = ok-same l.instance (instance_of n) (sym is.says_instance ∙ h)

pub times_again : (n : ℕ) (a b c : List ℕ) (l : Loaded) → AreRead a b c l → ctt_of a ≡ Ok (instance_of n) → meetings_in (instance_of n) b ≡ Ok (times_of n).meetings → l.times ≡ times_of n
times_again n a b c l is h k =
    let same : meetings_in l.instance b ≡ meetings_in (instance_of n) b = ap (λ (i : Instance). meetings_in i b) (instance_again n a b c l is h) in
    let meetings : l.times.meetings ≡ (times_of n).meetings = ok-same l.times.meetings (times_of n).meetings (sym is.says_times ∙ same ∙ k) in
    whole l.times (times_of n) meetings
  where
    whole : (s t : Times) → s.meetings ≡ t.meetings → s ≡ t
    whole s t e = ap (λ (ms : List Meeting). (let r : Times = record { meetings = ms } in r)) e

pub measures_again : (n : ℕ) (a b c : List ℕ) (l : Loaded) → AreRead a b c l → ctt_of a ≡ Ok (instance_of n) → measures_in (instance_of n) c ≡ Ok (measures_of n) → l.measures ≡ measures_of n
measures_again n a b c l is h k =
    let same : measures_in l.instance c ≡ measures_in (instance_of n) c = ap (λ (i : Instance). measures_in i c) (instance_again n a b c l is h) in
    ok-same l.measures (measures_of n) (sym is.says_measures ∙ same ∙ k)
