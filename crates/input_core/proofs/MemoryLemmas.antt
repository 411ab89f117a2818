-- What a name holds after the files of a shelf.
use Rattle.std.proofs.Common.{ℕ, ◌≡◌, ◌≢◌, ◌+◌, ◌<◌, true, false, cond, List, [], ◌∷◌, ◌++◌, length, drop, get_or, refl, sym, ap, add-one, drop-cons}
use Rattle.std.specs.Prelude.{Option, Some, string_bytes}
use Rattle.std.proofs.lemmas.Bool.{false_from_ne_true}
use Rattle.std.specs.Cmp.Lexicographic.{bytes_decides}
use Rattle.input_core.specs.Memory.{Stored, same_bytes, held_after}

pub held_after-push : (before : Option (List ℕ)) (files : List Stored) (file : Stored) (name : List ℕ)
    → held_after before (files ++ file ∷ []) name ≡ cond (same_bytes (string_bytes file.0) name) (Some file.1.items) (held_after before files name)
held_after-push before [] file name = refl
held_after-push before (f ∷ fs) file name = held_after-push (cond (same_bytes (string_bytes f.0) name) (Some f.1.items) before) fs file name

-- the files from place i on begin with the one that stands there
pub held_after-drop : (before : Option (List ℕ)) (files : List Stored) (i : ℕ) (name : List ℕ) (file : Stored) → i < length files → file ≡ get_or files i file
    → held_after before (drop i files) name ≡ held_after (cond (same_bytes (string_bytes file.0) name) (Some file.1.items) before) (drop (i + 1) files) name
held_after-drop before files i name file l is =
    let cut : drop i files ≡ file ∷ drop (i + 1) files = rw (add-one, drop-cons files i file, ← is) refl in
    ap (λ (fs : List Stored). held_after before fs name) cut

pub same_bytes-refl : (name : List ℕ) → same_bytes name name ≡ true
same_bytes-refl name = (bytes_decides name name).1 refl

pub same_bytes-other : (a b : List ℕ) → b ≢ a → same_bytes a b ≡ false
same_bytes-other a b differ = false_from_ne_true _ (λ e. differ (sym ((bytes_decides a b).0 e)))
