-- A step of a section, and of a list of members.
use Rattle.std.proofs.Common.{ℕ, ◌≡◌, ◌+◌, ◌++◌, Bool, true, false, cond, List, [], ◌∷◌, length, refl, ap, sym, ◌∙◌, append_assoc}
use Rattle.std.specs.Prelude.{Option, Some, None, Result, Ok, Err, ◌==◌}
use Rattle.input_core.specs.Lines.{is_alone}
use Rattle.input_core.specs.Rows.{Unread}
use Rattle.input_core.specs.Fields.{◌>>=◌, in_line}
use Rattle.input_core.specs.declared.cursors.Row.{Row}
use Rattle.input_core.specs.declared.faults.LineFault.{LineFault}
use Rattle.input_core.specs.declared.faults.LineKind.{LineKind}
use Rattle.input_core.specs.declared.faults.LineKind.TheVariants.{Count}
use Rattle.ctt_reader.specs.Grammar.{section}
use Rattle.ctt_reader.specs.Steps.{section_step}

-- what was read before, and then what is read
abbrev pub after : {A : Type 0} → List A → Result (List A) LineKind → Result (List A) LineKind
after before (Ok xs) = Ok (before ++ xs)
after before (Err kind) = Err kind

pub after-none : {A : Type 0} (read : Result (List A) LineKind) → after [] read ≡ read
after-none (Ok xs) = refl
after-none (Err kind) = refl

pub after-one : {A : Type 0} (before : List A) (x : A) (read : Result (List A) LineKind) → after before (read >>= λ xs. Ok (x ∷ xs)) ≡ after (before ++ x ∷ []) read
after-one before x (Ok xs) = ap Ok (sym (append_assoc before (x ∷ []) xs))
after-one before x (Err kind) = refl

-- what a section gives after its next step
abbrev pub section_after : {A : Type 0} → List ℕ → ℕ → (List A → List (List ℕ) → Result A LineKind) → List A → Result (Option Row × Unread) LineFault → Result (List A × Unread) LineFault
section_after end wanted entry before (Err fault) = Err fault
section_after end wanted entry before (Ok (None, u)) = Ok (before, u)
section_after end wanted entry before (Ok (Some row, u)) = in_line row.line (entry before row.fields) >>= λ x. section end wanted entry u.past (before ++ x ∷ []) u.rows

branches : {A : Type 0} (end : List ℕ) (wanted : ℕ) (entry : List A → List (List ℕ) → Result A LineKind) (before : List A) (row : Row) (u : Unread) (few many : LineFault) (t e : Bool)
    → cond {A = Result (List A × Unread) LineFault} t (cond {A = Result (List A × Unread) LineFault} e (Ok (before, u)) (Err few)) (cond {A = Result (List A × Unread) LineFault} e (Err many) (in_line row.line (entry before row.fields) >>= λ x. section end wanted entry u.past (before ++ x ∷ []) u.rows))
    ≡ section_after end wanted entry before (cond {A = Result (Option Row × Unread) LineFault} t (cond {A = Result (Option Row × Unread) LineFault} e (Ok (None, u)) (Err few)) (cond {A = Result (Option Row × Unread) LineFault} e (Err many) (Ok (Some row, u))))
branches end wanted entry before row u few many true true = refl
branches end wanted entry before row u few many true false = refl
branches end wanted entry before row u few many false true = refl
branches end wanted entry before row u few many false false = refl

step : {A : Type 0} (end : List ℕ) (wanted : ℕ) (entry : List A → List (List ℕ) → Result A LineKind) (before : List A) (past : ℕ) (rows : List (Result Row LineFault))
    → section end wanted entry past before rows ≡ section_after end wanted entry before (section_step end wanted (length before) (record { rows = rows; past = past }))
step end wanted entry before past [] = refl
step end wanted entry before past (Err fault ∷ rows) = refl
step end wanted entry before past (Ok row ∷ rows) =
    branches end wanted entry before row (record { rows = rows; past = past }) (record { line = row.line; kind = Count wanted (length before) }) (record { line = row.line; kind = Count wanted (wanted + 1) }) (is_alone end row.fields) (length before == wanted)

pub section-more : {A : Type 0} (end : List ℕ) (wanted : ℕ) (entry : List A → List (List ℕ) → Result A LineKind) (before : List A) (u v : Unread) (row : Row) (x : A)
    → section_step end wanted (length before) u ≡ Ok (Some row, v) → in_line row.line (entry before row.fields) ≡ Ok x
    → section end wanted entry u.past before u.rows ≡ section end wanted entry v.past (before ++ x ∷ []) v.rows
section-more end wanted entry before u v row x e f =
    step end wanted entry before u.past u.rows ∙ ap (section_after end wanted entry before) e ∙ ap (λ r. r >>= λ x. section end wanted entry v.past (before ++ x ∷ []) v.rows) f

pub section-entry_fails : {A : Type 0} (end : List ℕ) (wanted : ℕ) (entry : List A → List (List ℕ) → Result A LineKind) (before : List A) (u v : Unread) (row : Row) (fault : LineFault)
    → section_step end wanted (length before) u ≡ Ok (Some row, v) → in_line row.line (entry before row.fields) ≡ Err fault
    → section end wanted entry u.past before u.rows ≡ Err fault
section-entry_fails end wanted entry before u v row fault e f =
    step end wanted entry before u.past u.rows ∙ ap (section_after end wanted entry before) e ∙ ap (λ r. r >>= λ x. section end wanted entry v.past (before ++ x ∷ []) v.rows) f

pub section-ends : {A : Type 0} (end : List ℕ) (wanted : ℕ) (entry : List A → List (List ℕ) → Result A LineKind) (before : List A) (u v : Unread)
    → section_step end wanted (length before) u ≡ Ok (None, v) → section end wanted entry u.past before u.rows ≡ Ok (before, v)
section-ends end wanted entry before u v e = step end wanted entry before u.past u.rows ∙ ap (section_after end wanted entry before) e

pub section-fails : {A : Type 0} (end : List ℕ) (wanted : ℕ) (entry : List A → List (List ℕ) → Result A LineKind) (before : List A) (u : Unread) (fault : LineFault)
    → section_step end wanted (length before) u ≡ Err fault → section end wanted entry u.past before u.rows ≡ Err fault
section-fails end wanted entry before u fault e = step end wanted entry before u.past u.rows ∙ ap (section_after end wanted entry before) e
