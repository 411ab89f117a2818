-- Why three files give nothing, from why each step gives nothing; and over what the shelf told before.
use Rattle.std.proofs.Common.{ℕ, ◌≡◌, ◌≤◌, zero, suc, inl, inr, refl, sym, ◌∙◌, ap₂, subst, List, Bool}
use Rattle.std.specs.Prelude.{None, Some, Result, Ok, Err, IfErr, IsErrAnd}
use Rattle.std.proofs.Math.Path.{fun_ext}
use Rattle.problem_core.specs.Facts.{Facts}
use Rattle.ctt_reader.specs.declared.instance.Instance.{Instance}
use Rattle.timed_solution.specs.declared.times.Times.{Times}
use Rattle.measure_file.specs.declared.measures.Measures.{Measures}
use Rattle.packing_model.specs.Built.{model_limit}
use Rattle.run_core.specs.Outside.{Told, Held}
use Rattle.run_core.specs.Files.{GivesInstance, GivesTimes, IsFaultyInstance, IsFaultyTimes, FileFails, NoReadOfFileFailed}
use Rattle.run_core.specs.declared.file.FileFault.{FileFault}
use Rattle.run_core.specs.declared.file.FileFault.TheVariants as files
use Rattle.run_core.proofs.CallLaws.{unread_earlier}
use Rattle.tool_core.specs.declared.inputs.Names.{Names}
use Rattle.tool_core.specs.declared.inputs.LoadFault.{LoadFault}
use Rattle.tool_core.specs.declared.inputs.LoadFault.TheVariants as faults
use Rattle.tool_core.specs.Inputs.{names, IsFaultyMeasures, AreGiven, IsProblem, IsModel, IsUnreadFile, AreRefused, AreRefusedForModel, LoadFails, NoReadOfLoadFailed, ProblemFails, ModelFails, fault_in}

-- names that are put together from their parts
pub names_are : (f : Names) → names f.instance f.times f.measures ≡ f
names_are f = refl

-- ---- a file gives nothing

instance_fails : (o : Told) (f : Names) (before now : ℕ) (fault : FileFault) → FileFails o.tells (o.held f.instance) before now (IsFaultyInstance o.tells (o.held f.instance)) f.instance fault
    → LoadFails o f before now (AreRefused o f) (fault_in 0 fault)
instance_fails o f before now files.Read h = h
instance_fails o f before now (files.Bad text) h = inl h
instance_fails o f before now files.Memory h = tt

times_fails : (o : Told) (f : Names) (i : Instance) (before now : ℕ) (fault : FileFault) → GivesInstance o.tells (o.held f.instance) i
    → FileFails o.tells (o.held f.times) before now (IsFaultyTimes o.tells (o.held f.times) i) f.times fault → LoadFails o f before now (AreRefused o f) (fault_in 1 fault)
times_fails o f i before now files.Read gives h = record { i = i; instance = gives; unread = h }
times_fails o f i before now (files.Bad text) gives h = inr (inl (record { i = i; instance = gives; refused = h }))
times_fails o f i before now files.Memory gives h = tt

measures_fails : (o : Told) (f : Names) (i : Instance) (t : Times) (before now : ℕ) (fault : FileFault) → GivesInstance o.tells (o.held f.instance) i → GivesTimes o.tells (o.held f.times) i t
    → FileFails o.tells (o.held f.measures) before now (IsFaultyMeasures o.tells (o.held f.measures) i) f.measures fault → LoadFails o f before now (AreRefused o f) (fault_in 2 fault)
measures_fails o f i t before now files.Read gives_i gives_t h = record { i = i; t = t; instance = gives_i; times = gives_t; unread = h }
measures_fails o f i t before now (files.Bad text) gives_i gives_t h = inr (inr (inl (record { i = i; t = t; instance = gives_i; times = gives_t; refused = h })))
measures_fails o f i t before now files.Memory gives_i gives_t h = tt

-- the same of the fault that a step answers

pub instance_failed : (o : Told) (f : Names) (before now : ℕ) (fault : FileFault) (answered : LoadFault) → answered ≡ fault_in 0 fault
    → FileFails o.tells (o.held f.instance) before now (IsFaultyInstance o.tells (o.held f.instance)) f.instance fault → LoadFails o f before now (AreRefused o f) answered
instance_failed o f before now fault answered is h = subst (LoadFails o f before now (AreRefused o f)) (sym is) (instance_fails o f before now fault h)

pub times_failed : (o : Told) (f : Names) (i : Instance) (before now : ℕ) (fault : FileFault) (answered : LoadFault) → answered ≡ fault_in 1 fault → GivesInstance o.tells (o.held f.instance) i
    → FileFails o.tells (o.held f.times) before now (IsFaultyTimes o.tells (o.held f.times) i) f.times fault → LoadFails o f before now (AreRefused o f) answered
times_failed o f i before now fault answered is gives h = subst (LoadFails o f before now (AreRefused o f)) (sym is) (times_fails o f i before now fault gives h)

pub measures_failed : (o : Told) (f : Names) (i : Instance) (t : Times) (before now : ℕ) (fault : FileFault) (answered : LoadFault) → answered ≡ fault_in 2 fault
    → GivesInstance o.tells (o.held f.instance) i → GivesTimes o.tells (o.held f.times) i t
    → FileFails o.tells (o.held f.measures) before now (IsFaultyMeasures o.tells (o.held f.measures) i) f.measures fault → LoadFails o f before now (AreRefused o f) answered
measures_failed o f i t before now fault answered is gives_i gives_t h = subst (LoadFails o f before now (AreRefused o f)) (sym is) (measures_fails o f i t before now fault gives_i gives_t h)

-- what the exit of a `?` returns
pub answered : {T : Type 0} (o : Told) (f : Names) (before now : ℕ) (refused : List ℕ → Type 0) (r : Result T LoadFault) (e : LoadFault) → IsErrAnd r (λ y. y ≡ e)
    → LoadFails o f before now refused e → IfErr r (LoadFails o f before now refused)
answered o f before now refused (Ok x) e h fails = tt
answered o f before now refused (Err y) e h fails = subst (LoadFails o f before now refused) (sym h) fails

pub problem_fails : (o : Told) (f : Names) (i : Instance) (t : Times) (m : Measures) (before now : ℕ) (fault : LoadFault) → AreGiven o f i t m → ProblemFails i t m fault
    → LoadFails o f before now (AreRefused o f) fault
problem_fails o f i t m before now (faults.Read file) given h = absurd h
problem_fails o f i t m before now (faults.Bad text) given h = inr (inr (inr (record { i = i; t = t; m = m; given = given; refused = h })))
problem_fails o f i t m before now faults.Memory given h = tt

-- ---- the model

pub model_fails : (o : Told) (f : Names) (i : Instance) (t : Times) (m : Measures) (p : Facts) (before now : ℕ) (fault : LoadFault) → AreGiven o f i t m → IsProblem i t m p → ModelFails p fault
    → LoadFails o f before now (AreRefusedForModel o f) fault
model_fails o f i t m p before now (faults.Read file) given problem h = absurd h
model_fails o f i t m p before now (faults.Bad text) given problem h =
    inr (record { i = i; t = t; m = m; given = given; problem = problem.1; over = h.0; passed = subst (λ q. model_limit q ≡ Some h.0) problem.0 h.1; is = h.2 })
model_fails o f i t m p before now faults.Memory given problem h = tt

-- what refuses the files refuses them for the model too
pub files_fail : (o : Told) (f : Names) (before now : ℕ) (fault : LoadFault) → LoadFails o f before now (AreRefused o f) fault → LoadFails o f before now (AreRefusedForModel o f) fault
files_fail o f before now (faults.Read file) h = h
files_fail o f before now (faults.Bad text) h = inl h
files_fail o f before now faults.Memory h = tt

pub model_is : (i : Instance) (t : Times) (m : Measures) (p model : Facts) → IsProblem i t m p → model ≡ p → model_limit p ≡ None → IsModel i t m model
model_is i t m p model problem same few = (same ∙ problem.0, record { problem = problem.1; few = subst (λ q. model_limit q ≡ None) problem.0 few })

-- ---- which reads failed

pub file_kept : (T U : Type 0) (before now file : ℕ) (fault : FileFault) → NoReadOfFileFailed {T = T} before now (Err fault) → NoReadOfLoadFailed {T = U} before now (Err (fault_in file fault))
file_kept T U before now file files.Read h = tt
file_kept T U before now file (files.Bad text) h = h
file_kept T U before now file files.Memory h = tt

pub nothing_read : {T : Type 0} (before now : ℕ) (r : Result T LoadFault) → now ≡ before → NoReadOfLoadFailed before now r
nothing_read before now (Ok x) e = e
nothing_read before now (Err (faults.Read file)) e = tt
nothing_read before now (Err (faults.Bad text)) e = e
nothing_read before now (Err faults.Memory) e = tt

pub read_after : {T : Type 0} (before mid now : ℕ) (r : Result T LoadFault) → mid ≡ before → NoReadOfLoadFailed mid now r → NoReadOfLoadFailed before now r
read_after before mid now r e h = subst (λ b. NoReadOfLoadFailed b now r) e h

-- ---- over what the shelf told before an earlier file was read

told_same : (o o' : Told) → o'.tells ≡ o.tells → ((name : List ℕ) → o'.held name ≡ o.held name) → o' ≡ o
told_same o o' e f = ap₂ (λ (b : Bool) (h : Held). record { tells = b; held = h }) e (fun_ext f)

unread_file_earlier : (o : Told) (f : Names) (before mid now file : ℕ) → before ≤ mid → IsUnreadFile o f mid now file → IsUnreadFile o f before now file
unread_file_earlier o f before mid now zero le h = unread_earlier o.tells (o.held f.instance) before mid now le h
unread_file_earlier o f before mid now (suc zero) le h = record { i = h.i; instance = h.instance; unread = unread_earlier o.tells (o.held f.times) before mid now le h.unread }
unread_file_earlier o f before mid now (suc (suc zero)) le h =
    record { i = h.i; t = h.t; instance = h.instance; times = h.times; unread = unread_earlier o.tells (o.held f.measures) before mid now le h.unread }
unread_file_earlier o f before mid now (suc (suc (suc file))) le h = h

pub fails_earlier : (o o' : Told) (f : Names) (before mid now : ℕ) (fault : LoadFault) → o'.tells ≡ o.tells → ((name : List ℕ) → o'.held name ≡ o.held name) → before ≤ mid
    → LoadFails o' f mid now (AreRefused o' f) fault → LoadFails o f before now (AreRefused o f) fault
fails_earlier o o' f before mid now fault e same le h = go fault (subst (λ told. LoadFails told f mid now (AreRefused told f) fault) (told_same o o' e same) h)
  where
    go : (fault : LoadFault) → LoadFails o f mid now (AreRefused o f) fault → LoadFails o f before now (AreRefused o f) fault
    go (faults.Read file) h = unread_file_earlier o f before mid now file le h
    go (faults.Bad text) h = h
    go faults.Memory h = tt
