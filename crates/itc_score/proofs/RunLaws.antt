-- From the answers of the steps to the answer of the run; and an answer that is explained, in a run in which no
-- call fails, is the expected one.
use Rattle.std.proofs.Common.{ℕ, ◌≡◌, ◌⊎◌, inl, inr, ◌<◌, ◌≤◌, refl, sym, ◌∙◌, ap, subst, arith, List, [], length, get_or, cond}
use Rattle.std.specs.Prelude.{IsTrue, String}
use Rattle.std.specs.String.{string_bytes}
use Rattle.std.specs.declared.alloc.Global.{Global}
use Rattle.std.proofs.lemmas.Bool.{ne_eqb, eq-eqb}
use Rattle.std.proofs.lemmas.List.{length-map}
use Rattle.input_core.specs.Causes.{Rose}
use Rattle.input_core.specs.declared.faults.LineFault.{LineFault}
use Rattle.ctt_reader.specs.declared.instance.Instance.{Instance}
use Rattle.ctt_reader.specs.Grammar.{ctt_of}
use Rattle.ctt_reader.proofs.FieldsBackLemmas.{named-at}
use Rattle.timed_solution.specs.declared.times.Times.{Times}
use Rattle.timed_solution.specs.Times.{times_of}
use Rattle.run_core.specs.Calls.{Stops}
use Rattle.run_core.specs.Ends.{RunEnds, IsWriteFault, PrintEnds}
use Rattle.run_core.specs.Expected.{words_of, of_text, AnswersExpected}
use Rattle.run_core.specs.Expected.Expected.{Says}
use Rattle.run_core.specs.Files.{GivesInstance, GivesTimes, IsUnread, IsRefused, IsFaultyInstance, IsFaultyTimes}
use Rattle.run_core.specs.Numbers.{number_of}
use Rattle.run_core.specs.Outside.{Held, Told, Shelved, Printed, IsQuiet}
use Rattle.run_core.specs.declared.answer.Stop.{Stop}
use Rattle.run_core.specs.declared.status.ToolStatus.{ToolStatus}
use Rattle.run_core.specs.declared.status.ToolStatus.TheVariants.{Done, No, Usage, Open, BadInput, ReadFault, WriteFault, Memory}
use Rattle.run_core.proofs.CallLaws.{unread_earlier, stops_weaker}
use Rattle.run_core.proofs.EndLaws.{print_ends}
use Rattle.run_core.proofs.ExpectedLaws.{HasFault, of_unread, of_value, of_refused, said, quiet_run}
use Rattle.run_core.proofs.FileLaws.{told_before}
use Rattle.itc_score.specs.Score.{score_of}
use Rattle.itc_score.specs.Texts.{usage_text, score_text}
use Rattle.itc_score.specs.Statuses.{tool_status, IsStatus}
use Rattle.itc_score.specs.Run.{OfNames, IsScored, IsBadInput, IsReadFault, NamesExplain, Explains, TimesExplain}
use Rattle.itc_score.specs.Expected.{of_lines, of_times, of_names, expected, IsAccepted}
use Rattle.itc_score.specs.declared.status.ScoreStatus.{ScoreStatus}
use Rattle.itc_score.specs.declared.status.ScoreStatus.TheVariants as scores

-- ---- the solution, after the instance was read

pub times_explained : (s s' : Shelved) (n m : List ℕ) (i : Instance) (text : List ℕ) (status : ToolStatus)
    → s'.told.tells ≡ s.told.tells → s'.told.held m ≡ s.told.held m → s.reads.before ≤ s'.reads.before → s'.reads.now ≡ s.reads.now
    → GivesInstance s.told.tells (s.told.held n) i → TimesExplain s' i m text status → NamesExplain s n m text status
times_explained s s' n m i text Done e f l g gives h =
    record { i = i; t = h.t; instance = gives; times = told_before (λ b o. GivesTimes b o i h.t) s.told.tells s'.told.tells (s.told.held m) (s'.told.held m) e f h.times; is = h.is }
times_explained s s' n m i text BadInput e f l g gives h =
    inr (record { i = i; instance = gives; refused = told_before (λ b o. IsRefused b o (IsFaultyTimes b o i) m text) s.told.tells s'.told.tells (s.told.held m) (s'.told.held m) e f h })
times_explained s s' n m i text ReadFault e f l g gives h =
    let unread : IsUnread s.told.tells (s.told.held m) s'.reads.before s'.reads.now = told_before (λ b o. IsUnread b o s'.reads.before s'.reads.now) s.told.tells s'.told.tells (s.told.held m) (s'.told.held m) e f h.0 in
    inr (record { i = i; instance = gives; unread = unread_earlier s.told.tells (s.told.held m) s.reads.before s'.reads.before s.reads.now l (subst (λ k. IsUnread s.told.tells (s.told.held m) s'.reads.before k) g unread); is = h.1 })
times_explained s s' n m i text No e f l g gives h = h
times_explained s s' n m i text Usage e f l g gives h = h
times_explained s s' n m i text Open e f l g gives h = h
times_explained s s' n m i text WriteFault e f l g gives h = h
times_explained s s' n m i text Memory e f l g gives h = h

pub times_stopping : (s s' : Shelved) (n m : List ℕ) (i : Instance) (stop : Stop)
    → s'.told.tells ≡ s.told.tells → s'.told.held m ≡ s.told.held m → s.reads.before ≤ s'.reads.before → s'.reads.now ≡ s.reads.now
    → GivesInstance s.told.tells (s.told.held n) i → Stops (TimesExplain s' i m) stop → Stops (NamesExplain s n m) stop
times_stopping s s' n m i stop e f l g gives h =
    stops_weaker (TimesExplain s' i m) (NamesExplain s n m) stop (λ text status why. times_explained s s' n m i text status e f l g gives why) h

-- the score of the solution is printed
pub score_explained : (s : Shelved) (i : Instance) (m text : List ℕ) (t : Times) (status : ToolStatus)
    → GivesTimes s.told.tells (s.told.held m) i t → text ≡ score_text (score_of i t.meetings) → status ≡ Done → TimesExplain s i m text status
score_explained s i m text t status gives is done = subst (TimesExplain s i m text) (sym done) (record { t = t; times = gives; is = is })

-- ---- the words

word_is : (words : List (String Global)) (k : ℕ) (a : String Global) (n : List ℕ) → k < length words → a ≡ get_or words k a → n ≡ string_bytes a → get_or (words_of words) k [] ≡ n
word_is words k a n l is text = named-at (λ (w : String Global). string_bytes w) words k a [] l ∙ ap (λ (w : String Global). string_bytes w) (sym is) ∙ sym text

pub record AreAsked (words : List (String Global)) (n m : List ℕ) : Type 0 where
  pub two : length (words_of words) ≡ 2
  pub first : get_or (words_of words) 0 [] ≡ n
  pub second : get_or (words_of words) 1 [] ≡ m

pub asked : (words : List (String Global)) (a b : String Global) (n m : List ℕ) → length words ≡ 2 → a ≡ get_or words 0 a → n ≡ string_bytes a → b ≡ get_or words 1 b → m ≡ string_bytes b → AreAsked words n m
asked words a b n m two ia na ib mb = record {
  two = length-map words (λ (w : String Global). string_bytes w) ∙ two;
  first = word_is words 0 a n (omega (arith, two)) ia na;
  second = word_is words 1 b m (omega (arith, two)) ib mb;
}

of_names_said : (words : List (String Global)) (n m : List ℕ) (said : List ℕ → List ℕ → Type 0) → AreAsked words n m → said n m → OfNames (words_of words) said
of_names_said words n m said a h = (a.two, subst (λ x. said x (get_or (words_of words) 1 [])) (sym a.first) (subst (λ y. said n y) (sym a.second) h))

pub names_explained : (s : Shelved) (words : List (String Global)) (n m text : List ℕ) (status : ToolStatus)
    → AreAsked words n m → NamesExplain s n m text status → Explains s (words_of words) text status
names_explained s words n m text Done a h = of_names_said words n m (λ x y. IsScored s.told x y text) a h
names_explained s words n m text BadInput a h = of_names_said words n m (λ x y. IsBadInput s.told x y text) a h
names_explained s words n m text ReadFault a h = of_names_said words n m (λ x y. IsReadFault s x y text) a h
names_explained s words n m text No a h = h
names_explained s words n m text Usage a h = absurd h
names_explained s words n m text Open a h = h
names_explained s words n m text WriteFault a h = h
names_explained s words n m text Memory a h = h

pub names_stopping : (s : Shelved) (words : List (String Global)) (n m : List ℕ) (stop : Stop) → AreAsked words n m → Stops (NamesExplain s n m) stop → Stops (Explains s (words_of words)) stop
names_stopping s words n m stop a h = stops_weaker (NamesExplain s n m) (Explains s (words_of words)) stop (λ text status why. names_explained s words n m text status a why) h

-- ---- what is expected of the files

fault_of_times : (o : Told) (m : List ℕ) (i : Instance) (fault : LineFault) → IsFaultyTimes o.tells (o.held m) i fault → HasFault o.tells (o.held m) (times_of i) fault
fault_of_times o m i fault h = record { bytes = h.bytes; whole = h.whole; refused = h.refused }

fault_of_instance : (o : Told) (n : List ℕ) (fault : LineFault) → IsFaultyInstance o.tells (o.held n) fault → HasFault o.tells (o.held n) ctt_of fault
fault_of_instance o n fault h = record { bytes = h.bytes; whole = h.whole; refused = h.refused }

of_instance : (o : Told) (n m : List ℕ) (i : Instance) → IsTrue o.tells → GivesInstance o.tells (o.held n) i → of_names o.held n m ≡ of_times o.held m i
of_instance o n m i told g = of_value o.tells (o.held n) n g.bytes ctt_of i (of_times o.held m) told g.whole g.text

of_both : (o : Told) (n m : List ℕ) (i : Instance) (t : Times) → IsTrue o.tells → GivesInstance o.tells (o.held n) i → GivesTimes o.tells (o.held m) i t → of_names o.held n m ≡ of_lines i t.meetings
of_both o n m i t told g h = of_instance o n m i told g ∙ of_value o.tells (o.held m) m h.bytes (times_of i) t.meetings (of_lines i) told h.whole h.text

of_explained : (s : Shelved) (n m text : List ℕ) (status : ToolStatus) → IsTrue s.told.tells → (Rose s.reads.before s.reads.now → ⊥) → NamesExplain s n m text status
    → of_names s.told.held n m ≡ Says status text
of_explained s n m text Done told quiet h = of_both s.told n m h.i h.t told h.instance h.times ∙ ap (Says Done) (sym h.is)
of_explained s n m text BadInput told quiet (inl h) =
    of_refused s.told.tells (s.told.held n) n text ctt_of (IsFaultyInstance s.told.tells (s.told.held n)) (of_times s.told.held m) told (fault_of_instance s.told n) h
of_explained s n m text BadInput told quiet (inr h) =
    of_instance s.told n m h.i told h.instance
    ∙ of_refused s.told.tells (s.told.held m) m text (times_of h.i) (IsFaultyTimes s.told.tells (s.told.held m) h.i) (of_lines h.i) told (fault_of_times s.told m h.i) h.refused
of_explained s n m text ReadFault told quiet (inl h) =
    of_unread s.told.tells (s.told.held n) n (λ bytes. of_text n (ctt_of bytes) (of_times s.told.held m)) s.reads.before s.reads.now quiet h.0 ∙ ap (Says ReadFault) (sym h.1)
of_explained s n m text ReadFault told quiet (inr h) =
    of_instance s.told n m h.i told h.instance
    ∙ of_unread s.told.tells (s.told.held m) m (λ bytes. of_text m (times_of h.i bytes) (of_lines h.i)) s.reads.before s.reads.now quiet h.unread ∙ ap (Says ReadFault) (sym h.is)
of_explained s n m text No told quiet h = absurd h
of_explained s n m text Usage told quiet h = absurd h
of_explained s n m text Open told quiet h = absurd h
of_explained s n m text WriteFault told quiet h = absurd h
of_explained s n m text Memory told quiet h = absurd h

-- ---- the run

two_words : (held : Held) (words : List (List ℕ)) → length words ≡ 2 → expected held words ≡ of_names held (get_or words 0 []) (get_or words 1 [])
two_words held words two = ap (λ t. cond t (of_names held (get_or words 0 []) (get_or words 1 [])) (Says Usage usage_text)) (eq-eqb (length words) 2 two)

other_words : (held : Held) (words : List (List ℕ)) → (length words ≡ 2 → ⊥) → expected held words ≡ Says Usage usage_text
other_words held words other = ap (λ t. cond t (of_names held (get_or words 0 []) (get_or words 1 [])) (Says Usage usage_text)) (ne_eqb (length words) 2 other)

explained_is_expected : (s : Shelved) (words : List (List ℕ)) (text : List ℕ) (status : ToolStatus) → IsTrue s.told.tells → (Rose s.reads.before s.reads.now → ⊥) → Explains s words text status
    → expected s.told.held words ≡ Says status text
explained_is_expected s words text Usage told quiet h = other_words s.told.held words h.0 ∙ ap (Says Usage) (sym h.1)
explained_is_expected s words text Done told quiet h = two_words s.told.held words h.0 ∙ of_explained s _ _ text Done told quiet h.1
explained_is_expected s words text BadInput told quiet h = two_words s.told.held words h.0 ∙ of_explained s _ _ text BadInput told quiet h.1
explained_is_expected s words text ReadFault told quiet h = two_words s.told.held words h.0 ∙ of_explained s _ _ text ReadFault told quiet h.1
explained_is_expected s words text No told quiet h = absurd h
explained_is_expected s words text Open told quiet h = absurd h
explained_is_expected s words text WriteFault told quiet h = absurd h
explained_is_expected s words text Memory told quiet h = absurd h

pub quiet_answer : (s : Shelved) (p : Printed) (words : List (List ℕ)) (status : ToolStatus) → RunEnds p (Explains s words) status → IsQuiet s p → AnswersExpected p status (expected s.told.held words)
quiet_answer s p words status h q =
    quiet_run s p (Explains s words) (expected s.told.held words) status (λ text st why. said text st (expected s.told.held words) (explained_is_expected s words text st q.tells q.reads why)) h q

-- of the statuses of the program
done_or_memory : (status : ScoreStatus) → (tool_status status ≡ Memory) ⊎ (tool_status status ≡ Done) → (status ≡ scores.Done) ⊎ (status ≡ scores.Memory)
done_or_memory scores.Done h = inl refl
done_or_memory scores.Memory h = inr refl
done_or_memory scores.Usage (inl e) = absurd (omega (arith, ap number_of e))
done_or_memory scores.Usage (inr e) = absurd (omega (arith, ap number_of e))
done_or_memory scores.BadInput (inl e) = absurd (omega (arith, ap number_of e))
done_or_memory scores.BadInput (inr e) = absurd (omega (arith, ap number_of e))
done_or_memory scores.ReadFault (inl e) = absurd (omega (arith, ap number_of e))
done_or_memory scores.ReadFault (inr e) = absurd (omega (arith, ap number_of e))
done_or_memory scores.WriteFault (inl e) = absurd (omega (arith, ap number_of e))
done_or_memory scores.WriteFault (inr e) = absurd (omega (arith, ap number_of e))

pub complete_run : (s : Shelved) (p : Printed) (words : List (List ℕ)) (status : ScoreStatus) → RunEnds p (Explains s words) (tool_status status) → IsQuiet s p → OfNames words (IsAccepted s.told)
    → (status ≡ scores.Done) ⊎ (status ≡ scores.Memory)
complete_run s p words status h q given =
    let f = given.1 in
    let e : expected s.told.held words ≡ of_lines f.i f.t.meetings = two_words s.told.held words given.0 ∙ of_both s.told _ _ f.i f.t q.tells f.instance f.times in
    elim (subst (AnswersExpected p (tool_status status)) e (quiet_answer s p words (tool_status status) h q)) [
      | inl memory ↦ done_or_memory status (inl memory)
      | inr answered ↦ done_or_memory status (inr answered.0)
    ]

-- ---- the statuses

pub status_of : (s : Shelved) (p : Printed) (words : List (List ℕ)) (status : ToolStatus) → RunEnds p (Explains s words) status → IsStatus status
status_of s p words No h = h.why
status_of s p words Open h = h.why
status_of s p words Done h = tt
status_of s p words Usage h = tt
status_of s p words BadInput h = tt
status_of s p words ReadFault h = tt
status_of s p words WriteFault h = tt
status_of s p words Memory h = tt

-- no text is explained by a write fault or by want of memory
pub wrote : (s : Shelved) (p : Printed) (words : List (List ℕ)) (wanted : ToolStatus) (text : List ℕ) (status : ToolStatus) → Explains s words text wanted → PrintEnds p wanted text status → RunEnds p (Explains s words) status
wrote s p words wanted text status why ends = print_ends p (Explains s words) text wanted status (λ said h. absurd h) (λ said h. h) why ends

-- a write fault is that of the printing
write_fault : (s : Shelved) (p : Printed) (words : List (List ℕ)) → RunEnds p (Explains s words) WriteFault → IsWriteFault p (Explains s words)
write_fault s p words (inl h) = h
write_fault s p words (inr h) = absurd h.0

pub write_fault_of : (s : Shelved) (p : Printed) (words : List (List ℕ)) (status : ScoreStatus) → RunEnds p (Explains s words) (tool_status status) → status ≡ scores.WriteFault → IsWriteFault p (Explains s words)
write_fault_of s p words status h e = write_fault s p words (subst (λ x. RunEnds p (Explains s words) (tool_status x)) e h)
