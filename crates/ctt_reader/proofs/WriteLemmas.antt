-- What is appended piece by piece is the text of the lines.
use Rattle.std.proofs.Common.{ℕ, ◌≡◌, ◌++◌, List, [], ◌∷◌, length, map, drop, refl, ap, sym, ◌∙◌, append_assoc, append-nil}
use Rattle.std.specs.Prelude.{◌≤◌}
use Rattle.std.proofs.lemmas.List.{drop_all}
use Rattle.text_lines.specs.Written.{joined, written, behind_blanks}
use Rattle.ctt_reader.specs.Writing.{section_lines}

pub written-append : (xs ys : List (List (List ℕ))) → written (xs ++ ys) ≡ written xs ++ written ys
written-append [] ys = refl
written-append (line ∷ xs) ys = ap (λ t. joined line ++ 10 ∷ t) (written-append xs ys) ∙ sym (append_assoc (joined line) (10 ∷ written xs) (written ys))

pub joined-behind : (field : List ℕ) (fields : List (List ℕ)) → joined (field ∷ fields) ≡ field ++ behind_blanks fields
joined-behind field [] = sym (append-nil field)
joined-behind field (other ∷ fields) = ap (λ t. field ++ 32 ∷ t) (joined-behind other fields)

-- a word, fields behind blanks, and a line feed
pub line-of : (b0 b1 b2 w : List ℕ) (fs gs : List (List ℕ)) → gs ≡ [] → b1 ++ behind_blanks gs ≡ (b0 ++ w) ++ behind_blanks fs → b2 ≡ b1 ++ 10 ∷ [] → b2 ≡ b0 ++ written ((w ∷ fs) ∷ [])
line-of b0 b1 b2 w fs gs none so_far e =
    let here : b1 ≡ (b0 ++ w) ++ behind_blanks fs = sym (append-nil b1) ∙ ap (λ gs. b1 ++ behind_blanks gs) (sym none) ∙ so_far in
    let flat : ((b0 ++ w) ++ behind_blanks fs) ++ 10 ∷ [] ≡ b0 ++ ((w ++ behind_blanks fs) ++ 10 ∷ []) = simp append_assoc in
    e ∙ ap (λ b. b ++ 10 ∷ []) here ∙ flat ∙ ap (λ t. b0 ++ (t ++ 10 ∷ [])) (sym (joined-behind w fs))

-- a word, a field and fields behind blanks, and a line feed
pub counted-line : (b0 b1 b2 b3 b4 w f : List ℕ) (fs : List (List ℕ)) → b1 ≡ b0 ++ w → b2 ≡ b1 ++ 32 ∷ f → b3 ≡ b2 ++ behind_blanks fs → b4 ≡ b3 ++ 10 ∷ [] → b4 ≡ b0 ++ written ((w ∷ f ∷ fs) ∷ [])
counted-line b0 b1 b2 b3 b4 w f fs e1 e2 e3 e4 =
    let flat : (b0 ++ w) ++ 32 ∷ (f ++ behind_blanks fs) ≡ ((b0 ++ w) ++ 32 ∷ f) ++ behind_blanks fs = simp append_assoc in
    line-of b0 b3 b4 w (f ∷ fs) [] refl (append-nil b3 ∙ e3 ∙ ap (λ b. b ++ behind_blanks fs) (e2 ∙ ap (λ b. b ++ 32 ∷ f) e1) ∙ sym flat) e4

-- lines after lines
pub more-lines : (b0 b1 b2 : List ℕ) (xs ys : List (List (List ℕ))) → b1 ≡ b0 ++ written xs → b2 ≡ b1 ++ written ys → b2 ≡ b0 ++ written (xs ++ ys)
more-lines b0 b1 b2 xs ys e f = f ∙ ap (λ b. b ++ written ys) e ∙ append_assoc b0 (written xs) (written ys) ∙ ap (λ t. b0 ++ t) (sym (written-append xs ys))

-- a section, from its first line on
pub section-begun : (b0 b1 word : List ℕ) (lines : List (List (List ℕ))) → b1 ≡ b0 ++ written (section_lines word []) → b1 ++ written lines ≡ b0 ++ written (section_lines word lines)
section-begun b0 b1 word lines e = more-lines b0 b1 (b1 ++ written lines) (section_lines word []) lines e refl

pub section-ended : {A : Type 0} (line : A → List (List ℕ)) (xs : List A) (k : ℕ) (b e : List ℕ) → length xs ≤ k → b ++ written (map line (drop k xs)) ≡ e → b ≡ e
section-ended line xs k b e l h = sym (append-nil b) ∙ ap (λ ys. b ++ written (map line ys)) (sym (drop_all k xs l)) ∙ h

pub six-joined : (a b c d e f : List (List (List ℕ))) → ((((a ++ b) ++ c) ++ d) ++ e) ++ f ≡ a ++ (b ++ (c ++ (d ++ (e ++ f))))
six-joined a b c d e f = simp append_assoc
