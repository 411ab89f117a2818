-- From the answers of the steps to the answer of `solve`.
use Rattle.std.proofs.Common.{ℕ, ◌≡◌, ◌≤◌, ◌<◌, ◌≢◌, ◌-◌, arith, inl, inr, refl, sym, ◌∙◌, ap, subst, List, [], ◌∷◌, length, map, get_or, zero, suc, Bool, true}
use Rattle.std.specs.Prelude.{Option, Some, IsTrue}
use Rattle.std.specs.List.{list_all}
use Rattle.std.proofs.lemmas.Bool.{and_parts}
use Rattle.std.proofs.lemmas.List.{length-map}
use Rattle.std.proofs.lemmas.Grind.{get_or_default_zero}
use Rattle.input_core.specs.Causes.{Rose}
use Rattle.input_core.specs.Shelf.{OnlyReads}
use Rattle.problem_core.specs.Facts.{Facts}
use Rattle.problem_core.specs.Choice.{IsLegal, entry}
use Rattle.problem_core.specs.OfParts.{event_of}
use Rattle.ctt_reader.specs.declared.instance.Instance.{Instance}
use Rattle.ctt_reader.specs.declared.instance.Room.{Room}
use Rattle.timed_solution.specs.Times.{AreTimes, is_meeting}
use Rattle.timed_solution.specs.declared.times.Times.{Times}
use Rattle.timed_solution.specs.declared.times.Meeting.{Meeting}
use Rattle.measure_file.specs.declared.measures.Measures.{Measures}
use Rattle.room_model.specs.ProblemOf.{problem_of, event_part}
use Rattle.lex_driver.specs.Solving.{IsCertificate, Solves}
use Rattle.lex_driver.specs.declared.solve.Solved.{Solved}
use Rattle.lex_driver.specs.declared.solve.Solved.TheVariants.{Optimal, Open as LeftOpen}
use Rattle.branch_tree.specs.Logs.{Moment}
use Rattle.cert_text.specs.declared.lines.Certificate.{Certificate}
use Rattle.run_core.specs.Outside.{Held, Shelved, shelved, told}
use Rattle.run_core.specs.declared.status.ToolStatus.{ToolStatus}
use Rattle.run_core.specs.declared.status.ToolStatus.TheVariants.{Done, No, Usage, Open, BadInput, ReadFault, WriteFault, Memory}
use Rattle.reports.specs.Lines.{AreNamed}
use Rattle.tool_core.specs.Inputs.{AreGiven, HasModel}
use Rattle.tool_core.specs.declared.inputs.Names.{Names}
use Rattle.rooms_cmd.specs.Run.{KeepsWhereRefused}
use Rattle.rooms_cmd.specs.Solving.{HoldsCertificate, SolveExplains}
use Rattle.rooms_cmd.specs.Steps.{NotPut, IsPut, PutExplains, IsDraft, IsDraftOf, IsPrintable, ArePrintable, IsFound, IsPutFound, FoundExplains}
use Rattle.rooms_cmd.specs.Work.{Work, begins}
use Rattle.rooms_cmd.specs.declared.putting.Draft.{Draft}

-- ---- what is printed has names

at_place : {X : Type 0} (p : X → Bool) (xs : List X) (k : ℕ) (d : X) → list_all p xs ≡ true → k < length xs → p (get_or xs k d) ≡ true
at_place p [] k d all l = absurd (omega arith)
at_place p (x ∷ xs) zero d all l = (and_parts (p x) (list_all p xs) all).0
at_place p (x ∷ xs) (suc k) d all l = at_place p xs k d (and_parts (p x) (list_all p xs) all).1 (omega arith)

course_known : (i : Instance) (m : Meeting) → is_meeting i m ≡ true → m.course < length i.courses
course_known i m h = grind (arith, h)

entry_known : (x n : ℕ) → (x ≢ 0 → x - 1 < n) → x ≤ n
entry_known zero n h = omega arith
entry_known (suc x) n h = let l : suc x - 1 < n = h (λ same. absurd (omega (arith, same))) in omega (arith, l)

-- the meetings and the rooms of a legal choice have names
names_of_legal : (i : Instance) (t : Times) (m : Measures) (a : List ℕ) → AreTimes i t.meetings → IsLegal (problem_of i t m) a → AreNamed i t.meetings a
names_of_legal i t m a are legal =
    let capacity : length (problem_of i t m).capacity ≡ length i.rooms = length-map i.rooms (λ (r : Room). r.capacity) in
    record {
      one_each = legal.one_each ∙ length-map (map (event_part i.periods m) t.meetings) event_of ∙ length-map t.meetings (event_part i.periods m);
      courses = λ k d l. course_known i (get_or t.meetings k d) (at_place (is_meeting i) t.meetings k d are.each l);
      rooms = λ k d l. subst (λ x. x ≤ length i.rooms) (sym (get_or_default_zero a k d l))
          (entry_known (entry a k) (length i.rooms) (λ some. subst (λ n. entry a k - 1 < n) capacity (legal.known k l some)));
    }

printable : (i : Instance) (t : Times) (m : Measures) (p : Facts) (levels : ℕ) (c : Certificate) → AreTimes i t.meetings → p ≡ problem_of i t m → IsCertificate p levels c → IsPrintable i t c
printable i t m p levels c are same h = record { writable = h.writable; named = names_of_legal i t m c.choice are (subst (λ q. IsLegal q c.choice) same h.valid.legal) }

-- what the search found can be printed
pub are_printable : (i : Instance) (t : Times) (m : Measures) (p : Facts) (budget : ℕ) (begun : Moment) (wides steps : ℕ) (solved : Solved) → AreTimes i t.meetings → p ≡ problem_of i t m → Solves p budget begun wides steps solved
    → ArePrintable i t solved
are_printable i t m p budget begun wides steps (Optimal c) are same h = printable i t m p 6 c are same h.certificate
are_printable i t m p budget begun wides steps (LeftOpen level c log) are same h = printable i t m p (level - 1) c are same h.certificate

-- ---- the answer

-- what was put is what was found
pub put_found : (s : Shelved) (w : Work) (p : Facts) (i : Instance) (t : Times) (budget : ℕ) (name text : List ℕ) (status : ToolStatus) (d : Draft) → IsFound p i t budget w d → PutExplains s d name text status
    → FoundExplains s w p i t budget name text status
put_found s w p i t budget name text status d found (inl h) = inl h
put_found s w p i t budget name text status d found (inr h) = inr (record { draft = d; found = found; is_put = h })

-- the certificate is held under the name, also as told before the files were read
holds_later : {S : Type 0} (tells : S → Bool) (held : S → Held) (piece_faults put_faults : S → ℕ) (a b c : S) (i : Instance) (t : Times) (name first text : List ℕ) (wanted status : ToolStatus) (certificate : Certificate) (d : Draft)
    → OnlyReads tells held piece_faults put_faults a b → IsDraft i t first wanted certificate d → IsPut (shelved tells held piece_faults put_faults b c) d name text status
    → HoldsCertificate (shelved tells held piece_faults put_faults a c) name certificate
holds_later tells held piece_faults put_faults a b c i t name first text wanted status certificate d only draft put =
    record { bytes = d.bytes.items; text = draft.spelled; put = λ tell. put.put (subst IsTrue (sym only.same_telling) tell) }

pub solve_answer : {S : Type 0} (tells : S → Bool) (held : S → Held) (piece_faults put_faults : S → ℕ) (a b c : S) (w : Work) (f : Names) (name : List ℕ) (budget : ℕ) (i : Instance) (t : Times) (m : Measures) (p : Facts) (text : List ℕ) (status : ToolStatus)
    → OnlyReads tells held piece_faults put_faults a b → AreGiven (told tells held a) f i t m → HasModel i t m → p ≡ problem_of i t m
    → FoundExplains (shelved tells held piece_faults put_faults b c) w p i t budget name text status → SolveExplains (shelved tells held piece_faults put_faults a c) w f name budget text status
solve_answer tells held piece_faults put_faults a b c w f name budget i t m p text status only given model same (inl h) =
    subst (SolveExplains (shelved tells held piece_faults put_faults a c) w f name budget text) (sym h.0)
    (record { i = i; t = t; m = m; given = given; model = model; rose = subst (λ n. Rose n (put_faults c)) only.same_puts h.2; is = h.1 })
solve_answer tells held piece_faults put_faults a b c w f name budget i t m p text status only given model same (inr h) =
    go h.found.solved (subst (λ q. Solves q budget (begins w) w.wides.now w.steps.now h.found.solved) same h.found.solves) h.found.draft
  where
    go : (solved : Solved) → Solves (problem_of i t m) budget (begins w) w.wides.now w.steps.now solved → IsDraftOf i t solved h.draft → SolveExplains (shelved tells held piece_faults put_faults a c) w f name budget text status
    go (Optimal certificate) solves draft =
        subst (SolveExplains (shelved tells held piece_faults put_faults a c) w f name budget text) (sym (h.is_put.status_is ∙ draft.status_is))
        (record {
          i = i;
          t = t;
          m = m;
          given = given;
          model = model;
          certificate = certificate;
          optimal = solves;
          held = holds_later tells held piece_faults put_faults a b c i t name _ text _ status certificate h.draft only draft h.is_put;
          is = h.is_put.text_is ∙ draft.text_is;
        })
    go (LeftOpen level certificate log) solves draft =
        subst (SolveExplains (shelved tells held piece_faults put_faults a c) w f name budget text) (sym (h.is_put.status_is ∙ draft.status_is))
        (record {
          i = i;
          t = t;
          m = m;
          given = given;
          model = model;
          level = level;
          certificate = certificate;
          log = log;
          is_open = solves;
          held = holds_later tells held piece_faults put_faults a b c i t name _ text _ status certificate h.draft only draft h.is_put;
          is = h.is_put.text_is ∙ draft.text_is;
        })

-- where the search found something, nothing is refused
pub found_refused : (s s' : Shelved) (w : Work) (p : Facts) (i : Instance) (t : Times) (budget : ℕ) (name text : List ℕ) (status : ToolStatus) → FoundExplains s w p i t budget name text status → KeepsWhereRefused s' status
found_refused s s' w p i t budget name text status (inl h) = subst (KeepsWhereRefused s') (sym h.0) tt
found_refused s s' w p i t budget name text status (inr h) = go h.found.solved h.found.draft
  where
    go : (solved : Solved) → IsDraftOf i t solved h.draft → KeepsWhereRefused s' status
    go (Optimal certificate) draft = subst (KeepsWhereRefused s') (sym (h.is_put.status_is ∙ draft.status_is)) tt
    go (LeftOpen level certificate log) draft = subst (KeepsWhereRefused s') (sym (h.is_put.status_is ∙ draft.status_is)) tt
