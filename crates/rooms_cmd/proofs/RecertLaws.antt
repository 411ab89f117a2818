-- From the answers of the steps to the answer of `recert`.
use Rattle.std.proofs.Common.{ℕ, ◌≡◌, ◌≤◌, inl, inr, refl, sym, ◌∙◌, ap, subst, List, [], Bool, true}
use Rattle.std.specs.Prelude.{ℤ, Option, Some, IsTrue, Result, Ok, Err}
use Rattle.input_core.specs.Causes.{Rose}
use Rattle.input_core.specs.Reading.{IsWhole}
use Rattle.input_core.specs.Shelf.{OnlyReads}
use Rattle.problem_core.specs.Facts.{Facts}
use Rattle.ctt_reader.specs.declared.instance.Instance.{Instance}
use Rattle.timed_solution.specs.declared.times.Times.{Times}
use Rattle.measure_file.specs.declared.measures.Measures.{Measures}
use Rattle.room_model.specs.ProblemOf.{problem_of}
use Rattle.cert_text.specs.declared.lines.Certificate.{Certificate}
use Rattle.cert_text.specs.Grammar.{is_writable}
use Rattle.cert_text.specs.Text.{IsText, certificate_of}
use Rattle.cert_text.specs.Sharing.{share, plain}
use Rattle.cert_checker.specs.declared.verdict.Verdict.{Verdict}
use Rattle.cert_checker.specs.declared.verdict.Verdict.TheVariants.{Verified}
use Rattle.cert_checker.specs.Verdicts.{verdict_of, IsProof, IsValid, IsValidPlain, Means}
use Rattle.run_core.specs.Outside.{Held, Shelved, shelved, told}
use Rattle.run_core.specs.declared.status.ToolStatus.{ToolStatus}
use Rattle.run_core.specs.declared.status.ToolStatus.TheVariants.{Done, No, Usage, Open, BadInput, ReadFault, WriteFault, Memory}
use Rattle.tool_core.specs.Inputs.{AreGiven, HasModel}
use Rattle.tool_core.specs.declared.inputs.Names.{Names}
use Rattle.rooms_cmd.specs.Answers.{verified_text}
use Rattle.rooms_cmd.specs.Checking.{certificate_limit, CheckExplains, RecertExplains, SaysVerified, SaysShared}
use Rattle.rooms_cmd.specs.Steps.{IsSharedDraft, PutExplains, NotPut, IsPut, FileExplains, BytesExplain, RecertFileExplains}
use Rattle.rooms_cmd.specs.declared.putting.Draft.{Draft}
use Rattle.rooms_cmd.proofs.CheckLaws.{check_answer, says_verified}

-- the two forms of a certificate are one in their plain form
abbrev pub OneForm : Type 0
OneForm = (c : Certificate) → is_writable c ≡ true → plain (share c) ≡ plain c

abbrev pub PlainIsWritable : Type 0
PlainIsWritable = (c : Certificate) → is_writable c ≡ true → is_writable (plain c) ≡ true

abbrev pub PlainIsPlain : Type 0
PlainIsPlain = (c : Certificate) → is_writable c ≡ true → c.version ≡ 1 → plain c ≡ c

-- where a certificate is valid, its shared form is too
pub shared_valid : (p : Facts) (n : ℕ) (c : Certificate) → OneForm → PlainIsWritable → PlainIsPlain → is_writable c ≡ true → IsValid p n c → IsValid p n (share (plain c))
shared_valid p n c one writable first bounded valid =
    let w = writable c bounded in
    subst (IsValidPlain p n) (sym (one (plain c) w ∙ first (plain c) w refl)) valid

-- the shared form was put, or could not be
pub shared_answer : (s : Shelved) (p : Facts) (bytes new text : List ℕ) (status : ToolStatus) (d : Draft) (v : Verdict) (levels : ℕ) (values : List ℤ) → OneForm → PlainIsWritable → PlainIsPlain
    → v ≡ Verified levels values → v ≡ verdict_of p (certificate_of bytes) → Means p bytes v → IsSharedDraft bytes levels values d → PutExplains s d new text status → BytesExplain s p bytes new text status
shared_answer s p bytes new text status d v levels values one writable first e exact means draft (inl h) = subst (BytesExplain s p bytes new text) (sym h.0) (h.1, h.2)
shared_answer s p bytes new text status d v levels values one writable first e exact means draft (inr h) =
    let verified = says_verified p bytes text v levels values e exact means (h.text_is ∙ draft.text_is) in
    let certificate = verified.proof.certificate in
    subst (BytesExplain s p bytes new text) (sym (h.status_is ∙ draft.status_is))
    (record {
      verified = verified;
      shared_bytes = d.bytes.items;
      shared = draft.shared certificate verified.proof.text;
      valid = shared_valid p verified.levels certificate one writable first verified.proof.text.bounded verified.proof.valid;
      put = h.put;
    })

-- the answer on the bytes is that on the file that was read
pub bytes_answer : {S : Type 0} (tells : S → Bool) (held : S → Held) (piece_faults put_faults : S → ℕ) (a b c : S) (p : Facts) (name new bytes text : List ℕ) (status : ToolStatus)
    → OnlyReads tells held piece_faults put_faults a b → IsWhole (tells a) (held a name) certificate_limit bytes
    → BytesExplain (shelved tells held piece_faults put_faults b c) p bytes new text status → RecertFileExplains (shelved tells held piece_faults put_faults a c) p name new text status
bytes_answer tells held piece_faults put_faults a b c p name new bytes text Done only whole h = record {
  bytes = bytes;
  whole = whole;
  says_so = record { verified = h.verified; shared_bytes = h.shared_bytes; shared = h.shared; valid = h.valid; put = λ tell. h.put (subst IsTrue (sym only.same_telling) tell) };
}
bytes_answer tells held piece_faults put_faults a b c p name new bytes text No only whole h = record { bytes = bytes; whole = whole; says_so = h }
bytes_answer tells held piece_faults put_faults a b c p name new bytes text Usage only whole h = absurd h
bytes_answer tells held piece_faults put_faults a b c p name new bytes text Open only whole h = absurd h
bytes_answer tells held piece_faults put_faults a b c p name new bytes text BadInput only whole h = absurd h
bytes_answer tells held piece_faults put_faults a b c p name new bytes text ReadFault only whole h = absurd h
bytes_answer tells held piece_faults put_faults a b c p name new bytes text WriteFault only whole h = (h.0, subst (λ n. Rose n (put_faults c)) only.same_puts h.1)
bytes_answer tells held piece_faults put_faults a b c p name new bytes text Memory only whole h = absurd h

-- the answer on the file is that of the command
pub recert_answer : {S : Type 0} (tells : S → Bool) (held : S → Held) (piece_faults put_faults : S → ℕ) (a b c : S) (f : Names) (name new : List ℕ) (i : Instance) (t : Times) (m : Measures) (p : Facts) (text : List ℕ) (status : ToolStatus)
    → OnlyReads tells held piece_faults put_faults a b → AreGiven (told tells held a) f i t m → HasModel i t m → p ≡ problem_of i t m
    → RecertFileExplains (shelved tells held piece_faults put_faults b c) p name new text status → RecertExplains (shelved tells held piece_faults put_faults a c) f name new text status
recert_answer tells held piece_faults put_faults a b c f name new i t m p text Done only given model same h =
    let s = shelved tells held piece_faults put_faults b c in
    let says = subst (λ q. SaysShared s new q h.bytes text) same h.says_so in
    record {
      i = i;
      t = t;
      m = m;
      given = given;
      model = model;
      bytes = h.bytes;
      whole = subst (λ x. IsWhole x (held a name) certificate_limit h.bytes) only.same_telling (subst (λ o. IsWhole (tells b) o certificate_limit h.bytes) (only.same_names name) h.whole);
      says_so = record { verified = says.verified; shared_bytes = says.shared_bytes; shared = says.shared; valid = says.valid; put = λ tell. says.put (subst IsTrue (sym only.same_telling) tell) };
    }
recert_answer tells held piece_faults put_faults a b c f name new i t m p text WriteFault only given model same h =
    record { i = i; t = t; m = m; given = given; model = model; rose = subst (λ n. Rose n (put_faults c)) only.same_puts h.1; is = h.0 }
recert_answer tells held piece_faults put_faults a b c f name new i t m p text No only given model same h = check_answer tells held piece_faults put_faults a b c f name i t m p text No only given model same h
recert_answer tells held piece_faults put_faults a b c f name new i t m p text Usage only given model same h = absurd h
recert_answer tells held piece_faults put_faults a b c f name new i t m p text Open only given model same h = absurd h
recert_answer tells held piece_faults put_faults a b c f name new i t m p text BadInput only given model same h = check_answer tells held piece_faults put_faults a b c f name i t m p text BadInput only given model same h
recert_answer tells held piece_faults put_faults a b c f name new i t m p text ReadFault only given model same h = check_answer tells held piece_faults put_faults a b c f name i t m p text ReadFault only given model same h
recert_answer tells held piece_faults put_faults a b c f name new i t m p text Memory only given model same h = absurd h
