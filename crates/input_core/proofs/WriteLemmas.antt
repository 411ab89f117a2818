-- What is written is read again: a field before a blank, a line before a line feed.
use Rattle.std.proofs.Common.{ℕ, ◌≡◌, true, false, not, List, [], ◌∷◌, ◌++◌, length, refl, ap, ◌∙◌, arith}
use Rattle.std.specs.Prelude.{filter}
use Rattle.std.specs.List.{list_all}
use Rattle.std.proofs.lemmas.Bool.{and_parts, not-true, ne_eqb}
use Rattle.input_core.specs.Lines.{onto, is_feed, cut_at_feeds, is_blank, cut_at_blanks, fields_of, is_some_text}

-- text of bytes that are no blanks, before a blank
pub cut_before_blank : (field rest : List ℕ) → list_all (λ b. not (is_blank b)) field ≡ true → cut_at_blanks (field ++ 32 ∷ rest) ≡ field ∷ cut_at_blanks rest
cut_before_blank [] rest h = refl
cut_before_blank (b ∷ bs) rest h =
    let parts = and_parts (not (is_blank b)) (list_all (λ b. not (is_blank b)) bs) h in
    let plain : is_blank b ≡ false = not-true (is_blank b) parts.0 in
    rw plain (ap (onto b) (cut_before_blank bs rest parts.1))

pub fields_of-cons : (b : ℕ) (field rest : List ℕ) → list_all (λ b. not (is_blank b)) (b ∷ field) ≡ true → fields_of ((b ∷ field) ++ 32 ∷ rest) ≡ (b ∷ field) ∷ fields_of rest
fields_of-cons b field rest h = ap (filter is_some_text) (cut_before_blank (b ∷ field) rest h) ∙ (let full : is_some_text (b ∷ field) ≡ true = ap not (ne_eqb (length (b ∷ field)) 0 (λ e. absurd (omega arith))) in rw full refl)

pub cut_before_feed : (line rest : List ℕ) → list_all (λ b. not (is_feed b)) line ≡ true → cut_at_feeds (line ++ 10 ∷ rest) ≡ line ∷ cut_at_feeds rest
cut_before_feed [] rest h = refl
cut_before_feed (b ∷ bs) rest h =
    let parts = and_parts (not (is_feed b)) (list_all (λ b. not (is_feed b)) bs) h in
    let plain : is_feed b ≡ false = not-true (is_feed b) parts.0 in
    rw plain (ap (onto b) (cut_before_feed bs rest parts.1))
