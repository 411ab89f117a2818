-- What a run in which no call fails answers to inputs of which more is known.
use Rattle.std.proofs.Common.{ℕ, ◌≡◌, ◌⊎◌, inl, inr, ◌≤◌, ◌<◌, ◌*◌, ◌-◌, refl, sym, ◌∙◌, ap, subst, arith, List, [], length, true}
use Rattle.std.specs.Prelude.{Option, Some, None, Ok, IsTrue, ◌↔◌, ◌^◌}
use Rattle.input_core.specs.Causes.{Rose}
use Rattle.problem_core.specs.Facts.{Facts}
use Rattle.room_model.specs.ProblemOf.{problem_of, given_rooms}
use Rattle.room_model.proofs.GivenLemmas.{given_choice_of}
use Rattle.timed_solution.proofs.TimesLemmas.{times_of-ok}
use Rattle.packing_model.specs.Built.{packing}
use Rattle.cert_text.specs.declared.lines.Certificate.{Certificate}
use Rattle.cert_text.specs.Grammar.{is_writable}
use Rattle.cert_text.specs.Sharing.{plain}
use Rattle.cert_text.specs.Text.{IsText, certificate_of}
use Rattle.cert_text.proofs.ShareLaws.{plain_count}
use Rattle.cert_checker.specs.Faults.{fault_of}
use Rattle.cert_checker.specs.Verdicts.{IsValid, verdict_of, judged}
use Rattle.cert_checker.specs.declared.verdict.Verdict.TheVariants.{Verified}
use Rattle.run_core.specs.Outside.{Shelved, Told, Printed, IsQuiet}
use Rattle.run_core.specs.Ends.{RunEnds}
use Rattle.run_core.specs.Expected.{Expected, AnswersAs, AnswersExpected}
use Rattle.run_core.specs.Expected.Expected.{Says, Finds}
use Rattle.run_core.specs.declared.status.ToolStatus.{ToolStatus}
use Rattle.run_core.specs.declared.status.ToolStatus.TheVariants.{Done, No, Usage, Open, BadInput, ReadFault, WriteFault, Memory}
use Rattle.run_core.proofs.ExpectedLaws.{quiet_run}
use Rattle.tool_core.specs.Expected.{of_model}
use Rattle.tool_core.specs.declared.inputs.Names.{Names}
use Rattle.tool_core.proofs.ExpectedLaws.{of_problem, of_problem_with_model, of_refused_model}
use Rattle.command_words.specs.declared.words.Command.{Command}
use Rattle.command_words.specs.declared.words.Command.TheVariants.{Solve, Check, Recert, Measure, Report, Demo}
use Rattle.rooms_cmd.specs.Answers.{verified_text}
use Rattle.rooms_cmd.specs.Demonstrating.{demo_problem}
use Rattle.rooms_cmd.specs.Work.{Work}
use Rattle.rooms_cmd.specs.Run.{Explains}
use Rattle.rooms_cmd.specs.Expected.{of_fault, of_rooms, of_report, of_reported, of_verdict, of_search, expected, IsAccepted, IsAcceptedWith, IsValidInput, Accepted, AcceptedWith, Valid, Legal, Illegal, IsDemo, IsDemoWith, HoldsValid, HoldsWhereAccepted}
use Rattle.rooms_cmd.proofs.ExpectedLaws.{none_where, some_where, verdict_answer, unread_answer, explained_is_said}
use Rattle.rooms_cmd.proofs.SameLaws.{one_problem}

-- how a run of this command ended
abbrev pub Ends : Shelved → Printed → Work → Option Command → ToolStatus → Type 0
Ends s p w c status = RunEnds p (Explains s w c) status

pub quiet : (s : Shelved) (p : Printed) (w : Work) (c : Option Command) (status : ToolStatus) → Ends s p w c status → IsQuiet s p → AnswersExpected p status (expected s.told.held c)
quiet s p w c status ends q = quiet_run s p (Explains s w c) (expected s.told.held c) status (explained_is_said s w c q.tells q.reads q.puts) ends q

-- the status of an answer that is known
status_said : (p : Printed) (status wanted : ToolStatus) (text : List ℕ) (e : Expected) → e ≡ Says wanted text → AnswersExpected p status e → (status ≡ wanted) ⊎ (status ≡ Memory)
status_said p status wanted text e is (inl memory) = inr memory
status_said p status wanted text e is (inr answered) = inl (subst (AnswersAs p status) is answered).0

status_found : (p : Printed) (status : ToolStatus) (e : Expected) → e ≡ Finds → AnswersExpected p status e → (status ≡ Done) ⊎ ((status ≡ Open) ⊎ (status ≡ Memory))
status_found p status e is (inl memory) = inr (inr memory)
status_found p status e is (inr answered) = elim (subst (AnswersAs p status) is answered) [ inl d ↦ inl d | inr d ↦ inr (inl d) ]

-- ---- `solve`

accepted_finds : (o : Told) (f : Names) (name : List ℕ) (budget : ℕ) → IsTrue o.tells → IsAccepted o f → expected o.held (Some (Solve f name budget)) ≡ Finds
accepted_finds o f name budget told a = of_problem_with_model of_search o f a.i a.t a.m told a.given a.model

pub accepted : (s : Shelved) (p : Printed) (w : Work) (c : Option Command) (status : ToolStatus) → Ends s p w c status → IsQuiet s p → Accepted s.told c
    → (status ≡ Done) ⊎ ((status ≡ Open) ⊎ (status ≡ Memory))
accepted s p w (Some (Solve f name budget)) status ends q a =
    status_found p status (expected s.told.held (Some (Solve f name budget))) (accepted_finds s.told f name budget q.tells a) (quiet s p w (Some (Solve f name budget)) status ends q)
accepted s p w (Some (Check f name)) status ends q a = absurd a
accepted s p w (Some (Recert f name new)) status ends q a = absurd a
accepted s p w (Some (Measure f)) status ends q a = absurd a
accepted s p w (Some (Report f json)) status ends q a = absurd a
accepted s p w (Some (Demo courses budget)) status ends q a = absurd a
accepted s p w None status ends q a = absurd a

-- a search that is left open had too small a budget
too_few : (s : Shelved) (p : Printed) (w : Work) (f : Names) (name : List ℕ) (budget : ℕ) → IsTrue s.told.tells → Ends s p w (Some (Solve f name budget)) Open → IsAcceptedWith s.told f budget → ⊥
too_few s p w f name budget told ends a =
    let left = ends.why in
    let same : problem_of left.i left.t left.m ≡ problem_of a.accepted.i a.accepted.t a.accepted.m =
    one_problem s.told f left.i a.accepted.i left.t a.accepted.t left.m a.accepted.m told left.given a.accepted.given in
    let fewer : budget < 6 * (2 ^ (packing (problem_of a.accepted.i a.accepted.t a.accepted.m)).count - 1) =
    subst (λ (x : Facts). budget < 6 * (2 ^ (packing x).count - 1)) same left.is_open.fewer in
    let enough : 6 * (2 ^ (packing (problem_of a.accepted.i a.accepted.t a.accepted.m)).count - 1) ≤ budget = a.enough in
    contradicted budget (6 * (2 ^ (packing (problem_of a.accepted.i a.accepted.t a.accepted.m)).count - 1)) fewer enough
  where
    contradicted : (b n : ℕ) → b < n → n ≤ b → ⊥
    contradicted b n l m = omega arith

pub enough : (s : Shelved) (p : Printed) (w : Work) (c : Option Command) (status : ToolStatus) → Ends s p w c status → IsQuiet s p → AcceptedWith s.told c → (status ≡ Done) ⊎ (status ≡ Memory)
enough s p w (Some (Solve f name budget)) status ends q a =
    elim (accepted s p w (Some (Solve f name budget)) status ends q a.accepted) [
      | inl d ↦ inl d
      | inr (inl d) ↦ absurd (too_few s p w f name budget q.tells (subst (Ends s p w (Some (Solve f name budget))) d ends) a)
      | inr (inr d) ↦ inr d
    ]
enough s p w (Some (Check f name)) status ends q a = absurd a
enough s p w (Some (Recert f name new)) status ends q a = absurd a
enough s p w (Some (Measure f)) status ends q a = absurd a
enough s p w (Some (Report f json)) status ends q a = absurd a
enough s p w (Some (Demo courses budget)) status ends q a = absurd a
enough s p w None status ends q a = absurd a

-- ---- `demo`

pub demo : (s : Shelved) (p : Printed) (w : Work) (c : Option Command) (status : ToolStatus) → Ends s p w c status → (Rose p.faults.before p.faults.now → ⊥) → IsDemo c
    → (status ≡ Done) ⊎ ((status ≡ Open) ⊎ (status ≡ Memory))
demo s p w (Some (Demo courses budget)) Done ends quiet h = inl refl
demo s p w (Some (Demo courses budget)) No ends quiet h = absurd ends.why
demo s p w (Some (Demo courses budget)) Usage ends quiet h = absurd ends.why
demo s p w (Some (Demo courses budget)) Open ends quiet h = inr (inl refl)
demo s p w (Some (Demo courses budget)) BadInput ends quiet h = absurd ends.why
demo s p w (Some (Demo courses budget)) ReadFault ends quiet h = absurd ends.why
demo s p w (Some (Demo courses budget)) WriteFault (inl fault) quiet h = absurd (quiet fault.rose)
demo s p w (Some (Demo courses budget)) WriteFault (inr unput) quiet h = absurd unput.0
demo s p w (Some (Demo courses budget)) Memory ends quiet h = inr (inr refl)
demo s p w (Some (Solve f name budget)) status ends quiet h = absurd h
demo s p w (Some (Check f name)) status ends quiet h = absurd h
demo s p w (Some (Recert f name new)) status ends quiet h = absurd h
demo s p w (Some (Measure f)) status ends quiet h = absurd h
demo s p w (Some (Report f json)) status ends quiet h = absurd h
demo s p w None status ends quiet h = absurd h

demo_too_few : (s : Shelved) (p : Printed) (w : Work) (courses budget : ℕ) → Ends s p w (Some (Demo courses budget)) Open → IsDemoWith (Some (Demo courses budget)) → ⊥
demo_too_few s p w courses budget ends enough =
    let fewer : budget < 6 * (2 ^ (packing (demo_problem courses)).count - 1) = ends.why.is_open.fewer in
    contradicted budget (6 * (2 ^ (packing (demo_problem courses)).count - 1)) fewer enough
  where
    contradicted : (b n : ℕ) → b < n → n ≤ b → ⊥
    contradicted b n l m = omega arith

pub demo_enough : (s : Shelved) (p : Printed) (w : Work) (c : Option Command) (status : ToolStatus) → Ends s p w c status → (Rose p.faults.before p.faults.now → ⊥) → IsDemoWith c → (status ≡ Done) ⊎ (status ≡ Memory)
demo_enough s p w (Some (Demo courses budget)) status ends quiet h =
    elim (demo s p w (Some (Demo courses budget)) status ends quiet tt) [
      | inl d ↦ inl d
      | inr (inl d) ↦ absurd (demo_too_few s p w courses budget (subst (Ends s p w (Some (Demo courses budget))) d ends) h)
      | inr (inr d) ↦ inr d
    ]
demo_enough s p w (Some (Solve f name budget)) status ends quiet h = absurd h
demo_enough s p w (Some (Check f name)) status ends quiet h = absurd h
demo_enough s p w (Some (Recert f name new)) status ends quiet h = absurd h
demo_enough s p w (Some (Measure f)) status ends quiet h = absurd h
demo_enough s p w (Some (Report f json)) status ends quiet h = absurd h
demo_enough s p w None status ends quiet h = absurd h

-- ---- `measure` and `report`

pub legal : (s : Shelved) (p : Printed) (w : Work) (c : Option Command) (status : ToolStatus) → Ends s p w c status → IsQuiet s p → Legal s.told c → (status ≡ Done) ⊎ (status ≡ Memory)
legal s p w (Some (Measure f)) status ends q h =
    status_said p status Done _ (expected s.told.held (Some (Measure f)))
    (of_problem of_rooms s.told f h.i h.t h.m q.tells h.given h.problem ∙ ap (of_fault h.i h.t h.m) (none_where (problem_of h.i h.t h.m) (given_rooms h.t) h.legal))
    (quiet s p w (Some (Measure f)) status ends q)
legal s p w (Some (Report f json)) status ends q h =
    status_said p status Done _ (expected s.told.held (Some (Report f json)))
    (of_problem (of_report json) s.told f h.i h.t h.m q.tells h.given h.problem ∙ ap (of_reported json h.i h.t h.m) (none_where (problem_of h.i h.t h.m) (given_rooms h.t) h.legal))
    (quiet s p w (Some (Report f json)) status ends q)
legal s p w (Some (Demo courses budget)) status ends q h = absurd h
legal s p w (Some (Solve f name budget)) status ends q h = absurd h
legal s p w (Some (Check f name)) status ends q h = absurd h
legal s p w (Some (Recert f name new)) status ends q h = absurd h
legal s p w None status ends q h = absurd h

pub illegal : (s : Shelved) (p : Printed) (w : Work) (c : Option Command) (status : ToolStatus) → Ends s p w c status → IsQuiet s p → Illegal s.told c → (status ≡ No) ⊎ (status ≡ Memory)
illegal s p w (Some (Measure f)) status ends q h =
    let choice = given_choice_of h.i h.t h.m (times_of-ok h.i h.given.times.bytes h.t.meetings h.given.times.text) in
    let fault = some_where (problem_of h.i h.t h.m) (given_rooms h.t) choice h.illegal in
    status_said p status No _ (expected s.told.held (Some (Measure f)))
    (of_problem of_rooms s.told f h.i h.t h.m q.tells h.given h.problem ∙ ap (of_fault h.i h.t h.m) fault.1)
    (quiet s p w (Some (Measure f)) status ends q)
illegal s p w (Some (Report f json)) status ends q h =
    let choice = given_choice_of h.i h.t h.m (times_of-ok h.i h.given.times.bytes h.t.meetings h.given.times.text) in
    let fault = some_where (problem_of h.i h.t h.m) (given_rooms h.t) choice h.illegal in
    status_said p status No _ (expected s.told.held (Some (Report f json)))
    (of_problem (of_report json) s.told f h.i h.t h.m q.tells h.given h.problem ∙ ap (of_reported json h.i h.t h.m) fault.1)
    (quiet s p w (Some (Report f json)) status ends q)
illegal s p w (Some (Demo courses budget)) status ends q h = absurd h
illegal s p w (Some (Solve f name budget)) status ends q h = absurd h
illegal s p w (Some (Check f name)) status ends q h = absurd h
illegal s p w (Some (Recert f name new)) status ends q h = absurd h
illegal s p w None status ends q h = absurd h

-- ---- `check` and `recert` of a valid certificate

-- a text has one certificate, and a valid one has no fault
abbrev pub ReadsBack : Type 0
ReadsBack = (bytes : List ℕ) (c : Certificate) → IsText bytes c → certificate_of bytes ≡ Ok c

abbrev pub HasNoFault : Type 0
HasNoFault = (f : Facts) (c : Certificate) → is_writable c ≡ true → fault_of f (plain c) ≡ None ↔ IsValid f (length c.levels) c

valid_verdict : (o : Told) (f : Names) (name : List ℕ) → ReadsBack → HasNoFault → IsTrue o.tells → (h : IsValidInput o f name)
    → expected o.held (Some (Check f name)) ≡ Says Done (verified_text (length h.certificate.levels) h.certificate.values)
valid_verdict o f name read faultless told h =
    let a = h.accepted in
    let facts = problem_of a.i a.t a.m in
    let clear : fault_of facts (plain h.certificate) ≡ None = (faultless facts h.certificate h.text.bounded).1 h.valid in
    let verdict : verdict_of facts (certificate_of h.bytes) ≡ Verified (length h.certificate.levels) h.certificate.values =
    ap (verdict_of facts) (read h.bytes h.certificate h.text) ∙ ap (judged (length h.certificate.levels) h.certificate.values) clear in
    verdict_answer o f name h.bytes a.i a.t a.m told a.given a.model h.whole ∙ ap of_verdict verdict

pub valid : (s : Shelved) (p : Printed) (w : Work) (c : Option Command) (status : ToolStatus) → ReadsBack → HasNoFault → Ends s p w c status → IsQuiet s p → Valid s.told c
    → (status ≡ Done) ⊎ (status ≡ Memory)
valid s p w (Some (Check f name)) status read faultless ends q h =
    status_said p status Done _ (expected s.told.held (Some (Check f name))) (valid_verdict s.told f name read faultless q.tells h) (quiet s p w (Some (Check f name)) status ends q)
valid s p w (Some (Recert f name new)) status read faultless ends q h =
    status_said p status Done _ (expected s.told.held (Some (Recert f name new))) (valid_verdict s.told f name read faultless q.tells h) (quiet s p w (Some (Recert f name new)) status ends q)
valid s p w (Some (Solve f name budget)) status read faultless ends q h = absurd h
valid s p w (Some (Measure f)) status read faultless ends q h = absurd h
valid s p w (Some (Report f json)) status read faultless ends q h = absurd h
valid s p w (Some (Demo courses budget)) status read faultless ends q h = absurd h
valid s p w None status read faultless ends q h = absurd h

-- ---- what `solve` put before its answer was not written

Says-is-not-Finds : (status : ToolStatus) (text : List ℕ) (e : Expected) → e ≡ Says status text → e ≡ Finds → ⊥
Says-is-not-Finds status text e a b = let h : Says status text ≡ Finds = sym a ∙ b in cc

-- a certificate is valid for its own levels
own_levels : (p : Facts) (n : ℕ) (c : Certificate) → IsValid p n c → IsValid p (length c.levels) c
own_levels p n c is = subst (λ k. IsValid p k c) (sym is.finished ∙ plain_count c.levels []) is

holds_solved : (s : Shelved) (w : Work) (f : Names) (name : List ℕ) (budget : ℕ) (text : List ℕ) (status : ToolStatus)
    → IsTrue s.told.tells → (Rose s.reads.before s.reads.now → ⊥) → (Rose s.puts.before s.puts.now → ⊥) → Explains s w (Some (Solve f name budget)) text status
    → (a : IsAccepted s.told f) → HoldsValid s (problem_of a.i a.t a.m) name
holds_solved s w f name budget text Done told reads puts h a =
    let same = one_problem s.told f h.i a.i h.t a.t h.m a.m told h.given a.given in
    subst (λ (x : Facts). HoldsValid s x name) same
    (record { certificate = h.certificate; held = h.held; valid = own_levels (problem_of h.i h.t h.m) 6 h.certificate h.optimal.certificate.valid })
holds_solved s w f name budget text Open told reads puts h a =
    let same = one_problem s.told f h.i a.i h.t a.t h.m a.m told h.given a.given in
    subst (λ (x : Facts). HoldsValid s x name) same
    (record { certificate = h.certificate; held = h.held; valid = own_levels (problem_of h.i h.t h.m) (h.level - 1) h.certificate h.is_open.certificate.valid })
holds_solved s w f name budget text No told reads puts h a = absurd h
holds_solved s w f name budget text Usage told reads puts h a = absurd h
holds_solved s w f name budget text BadInput told reads puts h a =
    absurd (Says-is-not-Finds BadInput text _ (of_refused_model of_search s.told f text told h) (accepted_finds s.told f name budget told a))
holds_solved s w f name budget text ReadFault told reads puts h a =
    absurd (Says-is-not-Finds ReadFault text _ (unread_answer (of_model of_search) s f text told reads h) (accepted_finds s.told f name budget told a))
holds_solved s w f name budget text WriteFault told reads puts h a = absurd (puts h.rose)
holds_solved s w f name budget text Memory told reads puts h a = absurd h

pub put : (s : Shelved) (p : Printed) (w : Work) (c : Option Command) (status : ToolStatus) → Ends s p w c status → status ≡ WriteFault
    → IsTrue s.told.tells → (Rose s.reads.before s.reads.now → ⊥) → (Rose s.puts.before s.puts.now → ⊥) → HoldsWhereAccepted s c
put s p w (Some (Solve f name budget)) status ends is told reads puts = holds (subst (Ends s p w (Some (Solve f name budget))) is ends)
  where
    holds : Ends s p w (Some (Solve f name budget)) WriteFault → (a : IsAccepted s.told f) → HoldsValid s (problem_of a.i a.t a.m) name
    holds (inl h) = holds_solved s w f name budget h.text h.status told reads puts h.explained
    holds (inr h) = absurd (puts h.0.rose)
put s p w (Some (Check f name)) status ends is told reads puts = tt
put s p w (Some (Recert f name new)) status ends is told reads puts = tt
put s p w (Some (Measure f)) status ends is told reads puts = tt
put s p w (Some (Report f json)) status ends is told reads puts = tt
put s p w (Some (Demo courses budget)) status ends is told reads puts = tt
put s p w None status ends is told reads puts = tt
