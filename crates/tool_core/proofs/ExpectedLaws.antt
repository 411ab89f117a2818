-- What a run in which no call fails answers of three files: from what they give, and from why they give nothing.
use Rattle.std.proofs.Common.{ℕ, ◌≡◌, zero, suc, inl, inr, sym, ◌∙◌, ap, List}
use Rattle.std.specs.Prelude.{IsTrue}
use Rattle.input_core.specs.Causes.{Rose}
use Rattle.room_model.specs.Long.{long_fault}
use Rattle.ctt_reader.specs.Grammar.{ctt_of}
use Rattle.ctt_reader.specs.declared.instance.Instance.{Instance}
use Rattle.timed_solution.specs.Times.{times_of}
use Rattle.timed_solution.specs.declared.times.Times.{Times}
use Rattle.measure_file.specs.Grammar.{measures_of}
use Rattle.measure_file.specs.declared.measures.Measures.{Measures}
use Rattle.run_core.specs.Outside.{Told}
use Rattle.run_core.specs.Texts.{read_fault_text}
use Rattle.run_core.specs.Files.{GivesInstance, GivesTimes, IsFaultyInstance, IsFaultyTimes}
use Rattle.run_core.specs.Expected.Expected.{Says}
use Rattle.run_core.specs.declared.status.ToolStatus.TheVariants.{BadInput, ReadFault}
use Rattle.run_core.proofs.ExpectedLaws.{of_unread, of_value, of_refused}
use Rattle.tool_core.specs.declared.inputs.Names.{Names}
use Rattle.tool_core.specs.Inputs.{IsFaultyMeasures, AreGiven, HasProblem, HasModel, IsNoProblem, AreRefused, AreRefusedForModel, IsUnreadFile, name_of}
use Rattle.tool_core.specs.Expected.{times_with, Next, of_limit, of_long, of_measures, of_times, of_files, of_model}

-- ---- what the files give

pub of_instance : (next : Next) (o : Told) (f : Names) (i : Instance) → IsTrue o.tells → GivesInstance o.tells (o.held f.instance) i → of_files next o.held f ≡ of_times next o.held f i
of_instance next o f i told g = of_value o.tells (o.held f.instance) f.instance g.bytes ctt_of i (of_times next o.held f) told g.whole g.text

pub of_both : (next : Next) (o : Told) (f : Names) (i : Instance) (t : Times) → IsTrue o.tells → GivesInstance o.tells (o.held f.instance) i → GivesTimes o.tells (o.held f.times) i t
    → of_files next o.held f ≡ of_measures next o.held f i t
of_both next o f i t told g h =
    of_instance next o f i told g
    ∙ of_value o.tells (o.held f.times) f.times h.bytes (times_of i) t.meetings (λ meetings. of_measures next o.held f i (times_with meetings)) told h.whole h.text

pub of_given : (next : Next) (o : Told) (f : Names) (i : Instance) (t : Times) (m : Measures) → IsTrue o.tells → AreGiven o f i t m → of_files next o.held f ≡ of_long next i t m (long_fault i t m)
of_given next o f i t m told g =
    of_both next o f i t told g.instance g.times
    ∙ of_value o.tells (o.held f.measures) f.measures g.measures.bytes (measures_of i) m (λ m. of_long next i t m (long_fault i t m)) told g.measures.whole g.measures.text

-- files that give a problem
pub of_problem : (next : Next) (o : Told) (f : Names) (i : Instance) (t : Times) (m : Measures) → IsTrue o.tells → AreGiven o f i t m → HasProblem i t m → of_files next o.held f ≡ next i t m
of_problem next o f i t m told g p = of_given next o f i t m told g ∙ ap (of_long next i t m) p.short ∙ ap (of_limit next i t m) p.few

-- and one whose model passes no limit
pub of_problem_with_model : (next : Next) (o : Told) (f : Names) (i : Instance) (t : Times) (m : Measures) → IsTrue o.tells → AreGiven o f i t m → HasModel i t m
    → of_files (of_model next) o.held f ≡ next i t m
of_problem_with_model next o f i t m told g p = of_problem (of_model next) o f i t m told g p.problem ∙ ap (of_limit next i t m) p.few

-- ---- files that are refused

of_no_problem : (next : Next) (i : Instance) (t : Times) (m : Measures) (text : List ℕ) → IsNoProblem i t m text → of_long next i t m (long_fault i t m) ≡ Says BadInput text
of_no_problem next i t m text (inl long) = ap (of_long next i t m) long.1 ∙ ap (Says BadInput) (sym long.2)
of_no_problem next i t m text (inr over) = ap (of_long next i t m) over.1 ∙ ap (of_limit next i t m) over.2 ∙ ap (Says BadInput) (sym over.3)

pub of_refused_files : (next : Next) (o : Told) (f : Names) (text : List ℕ) → IsTrue o.tells → AreRefused o f text → of_files next o.held f ≡ Says BadInput text
of_refused_files next o f text told (inl h) =
    of_refused o.tells (o.held f.instance) f.instance text ctt_of (IsFaultyInstance o.tells (o.held f.instance)) (of_times next o.held f) told
    (λ fault found. record { bytes = found.bytes; whole = found.whole; refused = found.refused }) h
of_refused_files next o f text told (inr (inl h)) =
    of_instance next o f h.i told h.instance
    ∙ of_refused o.tells (o.held f.times) f.times text (times_of h.i) (IsFaultyTimes o.tells (o.held f.times) h.i) (λ meetings. of_measures next o.held f h.i (times_with meetings)) told
    (λ fault found. record { bytes = found.bytes; whole = found.whole; refused = found.refused }) h.refused
of_refused_files next o f text told (inr (inr (inl h))) =
    of_both next o f h.i h.t told h.instance h.times
    ∙ of_refused o.tells (o.held f.measures) f.measures text (measures_of h.i) (IsFaultyMeasures o.tells (o.held f.measures) h.i) (λ m. of_long next h.i h.t m (long_fault h.i h.t m)) told
    (λ fault found. record { bytes = found.bytes; whole = found.whole; refused = found.refused }) h.refused
of_refused_files next o f text told (inr (inr (inr h))) = of_given next o f h.i h.t h.m told h.given ∙ of_no_problem next h.i h.t h.m text h.refused

pub of_refused_model : (next : Next) (o : Told) (f : Names) (text : List ℕ) → IsTrue o.tells → AreRefusedForModel o f text → of_files (of_model next) o.held f ≡ Says BadInput text
of_refused_model next o f text told (inl h) = of_refused_files (of_model next) o f text told h
of_refused_model next o f text told (inr h) =
    of_problem (of_model next) o f h.i h.t h.m told h.given h.problem ∙ ap (of_limit next h.i h.t h.m) h.passed ∙ ap (Says BadInput) (sym h.is)

-- ---- files that are not read

pub of_unread_file : (next : Next) (o : Told) (f : Names) (before now file : ℕ) → IsTrue o.tells → (Rose before now → ⊥) → IsUnreadFile o f before now file
    → of_files next o.held f ≡ Says ReadFault (read_fault_text (name_of f file))
of_unread_file next o f before now zero told quiet h = of_unread o.tells (o.held f.instance) f.instance _ before now quiet h
of_unread_file next o f before now (suc zero) told quiet h =
    of_instance next o f h.i told h.instance ∙ of_unread o.tells (o.held f.times) f.times _ before now quiet h.unread
of_unread_file next o f before now (suc (suc zero)) told quiet h =
    of_both next o f h.i h.t told h.instance h.times ∙ of_unread o.tells (o.held f.measures) f.measures _ before now quiet h.unread
of_unread_file next o f before now (suc (suc (suc file))) told quiet h = absurd h
