-- What a run keeps, and how it ends.
use Rattle.std.proofs.Common.{ℕ, ◌≡◌, ◌≢◌, sym, true, List, []}
use Rattle.std.specs.Prelude.{Option, Some, None, not, ◌&&◌}
use Rattle.std.specs.Cmp.Lexicographic.{other_text}
use Rattle.std.proofs.lemmas.Bool.{and_parts, not-true}
use Rattle.run_core.specs.Outside.{Shelved, Printed, KeepsAll, KeepsBut}
use Rattle.run_core.specs.Ends.{PrintEnds, RunEnds}
use Rattle.run_core.specs.declared.status.ToolStatus.{ToolStatus}
use Rattle.run_core.proofs.EndLaws.{print_ends}
use Rattle.tool_core.specs.declared.inputs.Names.{Names}
use Rattle.command_words.specs.declared.words.Command.{Command}
use Rattle.command_words.specs.declared.words.Command.TheVariants.{Solve, Check, Recert, Measure, Report, Demo}
use Rattle.command_words.specs.Words.{is_word, is_apart, writes_apart}
use Rattle.rooms_cmd.specs.Work.{Work}
use Rattle.rooms_cmd.specs.Run.{AreKept, IsUnwritten, Explains, Keeps, KeepsInputs}

-- ---- the files that are read are kept

differs : (written name : List ℕ) → not (is_word written name) ≡ true → name ≢ written
differs written name e same = other_text written name (sym (not-true (is_word written name) e)) (sym same)

are_kept : (s : Shelved) (f : Names) (written : List ℕ) → is_apart written f ≡ true → KeepsBut written s → AreKept s f
are_kept s f written apart kept =
    let first = and_parts (not (is_word written f.instance)) (not (is_word written f.times) && not (is_word written f.measures)) apart in
    let others = and_parts (not (is_word written f.times)) (not (is_word written f.measures)) first.1 in
    record {
      instance = kept f.instance (differs written f.instance first.0);
      times = kept f.times (differs written f.times others.0);
      measures = kept f.measures (differs written f.measures others.1);
    }

all_kept : (s : Shelved) (f : Names) → KeepsAll s → AreKept s f
all_kept s f kept = record { instance = kept f.instance; times = kept f.times; measures = kept f.measures }

-- a command that writes apart, and keeps every name but the one that it writes, keeps what it reads
pub inputs_kept : (s : Shelved) (c : Command) → writes_apart c ≡ true → Keeps s (Some c) → KeepsInputs s (Some c)
inputs_kept s (Solve f written budget) apart kept = are_kept s f written apart kept
inputs_kept s (Check f name) apart kept = (all_kept s f kept, kept name)
inputs_kept s (Recert f name written) apart kept =
    let parts = and_parts (is_apart written f) (not (is_word written name)) apart in
    (are_kept s f written parts.0 kept, kept name (differs written name parts.1))
inputs_kept s (Measure f) apart kept = all_kept s f kept
inputs_kept s (Report f json) apart kept = all_kept s f kept
inputs_kept s (Demo courses budget) apart kept = tt

-- ---- how a run ends

-- where a file was not put there is no text
unwritten_text : (s : Shelved) (c : Option Command) (text : List ℕ) → IsUnwritten s c text → text ≡ []
unwritten_text s (Some (Solve f name budget)) text h = h.is
unwritten_text s (Some (Check f name)) text h = absurd h
unwritten_text s (Some (Recert f name new)) text h = h.is
unwritten_text s (Some (Measure f)) text h = absurd h
unwritten_text s (Some (Report f json)) text h = absurd h
unwritten_text s (Some (Demo courses budget)) text h = absurd h
unwritten_text s None text h = absurd h

pub answer_printed : (p : Printed) (s : Shelved) (w : Work) (c : Option Command) (text : List ℕ) (wanted status : ToolStatus)
    → Explains s w c text wanted → PrintEnds p wanted text status → RunEnds p (Explains s w c) status
answer_printed p s w c text wanted status why ends =
    print_ends p (Explains s w c) text wanted status (λ words h. unwritten_text s c words h) (λ words h. h) why ends
