-- An answer that is explained, in a run in which no call fails, is the expected one.
use Rattle.std.proofs.Common.{ℕ, ◌≡◌, inl, inr, refl, sym, ◌∙◌, ap, subst, List, length, Bool}
use Rattle.std.specs.Prelude.{Option, Some, None, IsTrue}
use Rattle.std.proofs.lemmas.Bool.{le-ltb, lt-ltb}
use Rattle.input_core.specs.Causes.{Rose}
use Rattle.input_core.specs.Reading.{IsWhole}
use Rattle.problem_core.specs.Facts.{Facts}
use Rattle.problem_core.specs.Choice.{IsLegal, IsChoice}
use Rattle.problem_core.specs.Faults.{first_fault}
use Rattle.problem_core.specs.declared.choice.RoomFault.{RoomFault}
use Rattle.problem_core.proofs.FaultLemmas.{legal_where_none}
use Rattle.ctt_reader.specs.declared.instance.Instance.{Instance}
use Rattle.timed_solution.specs.declared.times.Times.{Times}
use Rattle.measure_file.specs.declared.measures.Measures.{Measures}
use Rattle.room_model.specs.ProblemOf.{problem_of, given_rooms}
use Rattle.cert_text.specs.Text.{certificate_of}
use Rattle.cert_checker.specs.Verdicts.{verdict_of}
use Rattle.run_core.specs.Files.{IsUnread as IsUnreadFile}
use Rattle.run_core.specs.Outside.{Shelved, Told}
use Rattle.run_core.specs.Texts.{read_fault_text}
use Rattle.run_core.specs.Expected.{IsSaid}
use Rattle.run_core.specs.Expected.Expected.{Says}
use Rattle.run_core.specs.declared.status.ToolStatus.{ToolStatus}
use Rattle.run_core.specs.declared.status.ToolStatus.TheVariants.{Done, No, Usage, Open, BadInput, ReadFault, WriteFault, Memory}
use Rattle.run_core.proofs.ExpectedLaws.{said}
use Rattle.tool_core.specs.Inputs.{AreGiven, HasModel}
use Rattle.tool_core.specs.Expected.{Next, of_files, of_model}
use Rattle.tool_core.specs.declared.inputs.Names.{Names}
use Rattle.tool_core.proofs.ExpectedLaws.{of_problem, of_problem_with_model, of_refused_files, of_refused_model, of_unread_file}
use Rattle.command_words.specs.declared.words.Command.{Command}
use Rattle.command_words.specs.declared.words.Command.TheVariants.{Solve, Check, Recert, Measure, Report, Demo}
use Rattle.rooms_cmd.specs.Answers.{long_certificate_text}
use Rattle.rooms_cmd.specs.Unread.{IsUnreadInput}
use Rattle.rooms_cmd.specs.Work.{Work}
use Rattle.rooms_cmd.specs.Checking.{certificate_limit, IsLongCertificate, IsRefusedWith, IsUnreadWith}
use Rattle.rooms_cmd.specs.Run.{IsDone, IsNo, IsUsage, IsOpen, IsBadInput, IsUnread, IsUnwritten, Explains}
use Rattle.rooms_cmd.specs.Expected.{of_fault, of_rooms, of_report, of_reported, of_verdict, of_certificate, of_judged, of_search, expected}

-- ---- legal rooms have no fault

choice_where : (p : Facts) (a : List ℕ) → IsLegal p a → IsChoice p a
choice_where p a legal = record { one_each = legal.one_each; known = legal.known }

pub none_where : (p : Facts) (a : List ℕ) → IsLegal p a → first_fault p a ≡ None
none_where p a legal = (legal_where_none p a (first_fault p a) (choice_where p a legal) refl).1 legal

pub some_where : (p : Facts) (a : List ℕ) → IsChoice p a → (IsLegal p a → ⊥) → (fault : RoomFault) × (first_fault p a ≡ Some fault)
some_where p a choice illegal = found (first_fault p a) refl
  where
    found : (r : Option RoomFault) → first_fault p a ≡ r → (fault : RoomFault) × (first_fault p a ≡ Some fault)
    found None e = absurd (illegal ((legal_where_none p a (first_fault p a) choice refl).0 e))
    found (Some fault) e = (fault, e)

-- ---- a certificate

pub of_bytes : (tells : Bool) (held : Option (List ℕ)) (p : Facts) (name bytes : List ℕ) → IsTrue tells → IsWhole tells held certificate_limit bytes
    → of_certificate p name held ≡ of_verdict (verdict_of p (certificate_of bytes))
of_bytes tells held p name bytes told whole = ap (of_certificate p name) (whole.whole told) ∙ rw (le-ltb certificate_limit (length bytes) whole.short) refl

of_long : (tells : Bool) (held : Option (List ℕ)) (p : Facts) (name : List ℕ) → IsTrue tells → IsLongCertificate tells held → of_certificate p name held ≡ Says BadInput (long_certificate_text name)
of_long tells None p name told long = absurd (long told)
of_long tells (Some bytes) p name told long = rw (lt-ltb certificate_limit (length bytes) (long told)) refl

of_none : (tells : Bool) (held : Option (List ℕ)) (p : Facts) (name : List ℕ) (before now : ℕ) → (Rose before now → ⊥) → IsUnreadFile tells held before now
    → of_certificate p name held ≡ Says ReadFault (read_fault_text name)
of_none tells held p name before now quiet (inl rose) = absurd (quiet rose)
of_none tells held p name before now quiet (inr unknown) = ap (of_certificate p name) unknown.1

-- ---- what is said of the certificate of accepted files

pub certificate_answer : (o : Told) (f : Names) (name : List ℕ) (i : Instance) (t : Times) (m : Measures) → IsTrue o.tells → AreGiven o f i t m → HasModel i t m
    → of_files (of_model (of_judged o.held name)) o.held f ≡ of_certificate (problem_of i t m) name (o.held name)
certificate_answer o f name i t m told given model = of_problem_with_model (of_judged o.held name) o f i t m told given model

pub verdict_answer : (o : Told) (f : Names) (name bytes : List ℕ) (i : Instance) (t : Times) (m : Measures) → IsTrue o.tells → AreGiven o f i t m → HasModel i t m
    → IsWhole o.tells (o.held name) certificate_limit bytes
    → of_files (of_model (of_judged o.held name)) o.held f ≡ of_verdict (verdict_of (problem_of i t m) (certificate_of bytes))
verdict_answer o f name bytes i t m told given model whole =
    certificate_answer o f name i t m told given model ∙ of_bytes o.tells (o.held name) (problem_of i t m) name bytes told whole

refused_answer : (o : Told) (f : Names) (name text : List ℕ) → IsTrue o.tells → IsRefusedWith o f name text → of_files (of_model (of_judged o.held name)) o.held f ≡ Says BadInput text
refused_answer o f name text told (inl h) = of_refused_model (of_judged o.held name) o f text told h
refused_answer o f name text told (inr h) =
    certificate_answer o f name h.i h.t h.m told h.given h.model ∙ of_long o.tells (o.held name) (problem_of h.i h.t h.m) name told h.long ∙ ap (Says BadInput) (sym h.is)

-- ---- files that aren't read

pub unread_answer : (next : Next) (s : Shelved) (f : Names) (text : List ℕ) → IsTrue s.told.tells → (Rose s.reads.before s.reads.now → ⊥) → IsUnreadInput s f text
    → of_files next s.told.held f ≡ Says ReadFault text
unread_answer next s f text told quiet h =
    of_unread_file next s.told f s.reads.before s.reads.now h.file told quiet h.unread ∙ ap (Says ReadFault) (sym h.is)

unread_certificate_answer : (s : Shelved) (f : Names) (name text : List ℕ) → IsTrue s.told.tells → (Rose s.reads.before s.reads.now → ⊥) → IsUnreadWith s f name text
    → of_files (of_model (of_judged s.told.held name)) s.told.held f ≡ Says ReadFault text
unread_certificate_answer s f name text told quiet (inl h) = unread_answer (of_model (of_judged s.told.held name)) s f text told quiet h
unread_certificate_answer s f name text told quiet (inr h) =
    certificate_answer s.told f name h.i h.t h.m told h.given h.model
    ∙ of_none s.told.tells (s.told.held name) (problem_of h.i h.t h.m) name s.reads.before s.reads.now quiet h.unread ∙ ap (Says ReadFault) (sym h.is)

-- ---- what each status explains

said_done : (s : Shelved) (c : Option Command) (text : List ℕ) → IsTrue s.told.tells → IsDone s c text → IsSaid text Done (expected s.told.held c)
said_done s (Some (Solve f name budget)) text told h =
    subst (IsSaid text Done) (sym (of_problem_with_model of_search s.told f h.i h.t h.m told h.given h.model)) (inl refl)
said_done s (Some (Check f name)) text told h =
    said text Done _ (verdict_answer s.told f name h.bytes h.i h.t h.m told h.given h.model h.whole ∙ ap of_verdict h.says_so.verdict ∙ ap (Says Done) (sym h.says_so.is))
said_done s (Some (Recert f name new)) text told h =
    let v = h.says_so.verified in
    said text Done _ (verdict_answer s.told f name h.bytes h.i h.t h.m told h.given h.model h.whole ∙ ap of_verdict v.verdict ∙ ap (Says Done) (sym v.is))
said_done s (Some (Measure f)) text told h =
    said text Done _ (of_problem of_rooms s.told f h.i h.t h.m told h.given h.problem ∙ ap (of_fault h.i h.t h.m) (none_where (problem_of h.i h.t h.m) (given_rooms h.t) h.legal) ∙ ap (Says Done) (sym h.is))
said_done s (Some (Report f json)) text told h =
    said text Done _ (of_problem (of_report json) s.told f h.i h.t h.m told h.given h.problem ∙ ap (of_reported json h.i h.t h.m) (none_where (problem_of h.i h.t h.m) (given_rooms h.t) h.legal) ∙ ap (Says Done) (sym h.is))
said_done s (Some (Demo courses budget)) text told h = inl refl
said_done s None text told h = absurd h

said_no : (s : Shelved) (c : Option Command) (text : List ℕ) → IsTrue s.told.tells → IsNo s c text → IsSaid text No (expected s.told.held c)
said_no s (Some (Solve f name budget)) text told h = absurd h
said_no s (Some (Check f name)) text told h =
    said text No _ (verdict_answer s.told f name h.bytes h.i h.t h.m told h.given h.model h.whole ∙ ap of_verdict h.says_so.verdict ∙ ap (Says No) (sym h.says_so.is))
said_no s (Some (Recert f name new)) text told h =
    said text No _ (verdict_answer s.told f name h.bytes h.i h.t h.m told h.given h.model h.whole ∙ ap of_verdict h.says_so.verdict ∙ ap (Says No) (sym h.says_so.is))
said_no s (Some (Measure f)) text told h =
    said text No _ (of_problem of_rooms s.told f h.i h.t h.m told h.given h.problem ∙ ap (of_fault h.i h.t h.m) h.first ∙ ap (Says No) (sym h.is))
said_no s (Some (Report f json)) text told h =
    said text No _ (of_problem (of_report json) s.told f h.i h.t h.m told h.given h.problem ∙ ap (of_reported json h.i h.t h.m) h.first ∙ ap (Says No) (sym h.is))
said_no s (Some (Demo courses budget)) text told h = absurd h
said_no s None text told h = absurd h

said_usage : (s : Shelved) (c : Option Command) (text : List ℕ) → IsUsage c text → IsSaid text Usage (expected s.told.held c)
said_usage s None text h = (refl, h)
said_usage s (Some command) text h = absurd h

said_open : (s : Shelved) (w : Work) (c : Option Command) (text : List ℕ) → IsTrue s.told.tells → IsOpen s w c text → IsSaid text Open (expected s.told.held c)
said_open s w (Some (Solve f name budget)) text told h =
    subst (IsSaid text Open) (sym (of_problem_with_model of_search s.told f h.i h.t h.m told h.given h.model)) (inr refl)
said_open s w (Some (Check f name)) text told h = absurd h
said_open s w (Some (Recert f name new)) text told h = absurd h
said_open s w (Some (Measure f)) text told h = absurd h
said_open s w (Some (Report f json)) text told h = absurd h
said_open s w (Some (Demo courses budget)) text told h = inr refl
said_open s w None text told h = absurd h

said_bad : (s : Shelved) (c : Option Command) (text : List ℕ) → IsTrue s.told.tells → IsBadInput s c text → IsSaid text BadInput (expected s.told.held c)
said_bad s (Some (Solve f name budget)) text told h = said text BadInput _ (of_refused_model of_search s.told f text told h)
said_bad s (Some (Check f name)) text told h = said text BadInput _ (refused_answer s.told f name text told h)
said_bad s (Some (Recert f name new)) text told h = said text BadInput _ (refused_answer s.told f name text told h)
said_bad s (Some (Measure f)) text told h = said text BadInput _ (of_refused_files of_rooms s.told f text told h)
said_bad s (Some (Report f json)) text told h = said text BadInput _ (of_refused_files (of_report json) s.told f text told h)
said_bad s (Some (Demo courses budget)) text told h = absurd h
said_bad s None text told h = absurd h

said_unread : (s : Shelved) (c : Option Command) (text : List ℕ) → IsTrue s.told.tells → (Rose s.reads.before s.reads.now → ⊥) → IsUnread s c text
    → IsSaid text ReadFault (expected s.told.held c)
said_unread s (Some (Solve f name budget)) text told quiet h = said text ReadFault _ (unread_answer (of_model of_search) s f text told quiet h)
said_unread s (Some (Check f name)) text told quiet h = said text ReadFault _ (unread_certificate_answer s f name text told quiet h)
said_unread s (Some (Recert f name new)) text told quiet h = said text ReadFault _ (unread_certificate_answer s f name text told quiet h)
said_unread s (Some (Measure f)) text told quiet h = said text ReadFault _ (unread_answer of_rooms s f text told quiet h)
said_unread s (Some (Report f json)) text told quiet h = said text ReadFault _ (unread_answer (of_report json) s f text told quiet h)
said_unread s (Some (Demo courses budget)) text told quiet h = absurd h
said_unread s None text told quiet h = absurd h

-- a file that the command writes is put where no put fails
pub put_where : (s : Shelved) (c : Option Command) (text : List ℕ) → (Rose s.puts.before s.puts.now → ⊥) → IsUnwritten s c text → ⊥
put_where s (Some (Solve f name budget)) text quiet h = quiet h.rose
put_where s (Some (Check f name)) text quiet h = h
put_where s (Some (Recert f name new)) text quiet h = quiet h.rose
put_where s (Some (Measure f)) text quiet h = h
put_where s (Some (Report f json)) text quiet h = h
put_where s (Some (Demo courses budget)) text quiet h = h
put_where s None text quiet h = h

-- where the shelf tells what its names hold and no call of it failed
pub explained_is_said : (s : Shelved) (w : Work) (c : Option Command) → IsTrue s.told.tells → (Rose s.reads.before s.reads.now → ⊥) → (Rose s.puts.before s.puts.now → ⊥)
    → (text : List ℕ) (status : ToolStatus) → Explains s w c text status → IsSaid text status (expected s.told.held c)
explained_is_said s w c told reads puts text Done h = said_done s c text told h
explained_is_said s w c told reads puts text No h = said_no s c text told h
explained_is_said s w c told reads puts text Usage h = said_usage s c text h
explained_is_said s w c told reads puts text Open h = said_open s w c text told h
explained_is_said s w c told reads puts text BadInput h = said_bad s c text told h
explained_is_said s w c told reads puts text ReadFault h = said_unread s c text told reads h
explained_is_said s w c told reads puts text WriteFault h = absurd (put_where s c text puts h)
explained_is_said s w c told reads puts text Memory h = absurd h
