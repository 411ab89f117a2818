-- The lines that are written, kind after kind.
use Rattle.std.proofs.Common.{ℕ, ◌≡◌, ◌++◌, List, [], ◌∷◌, refl, ap, sym, ◌∙◌, append_assoc}
use Rattle.text_lines.specs.Written.{joined, written}

written-append : (xs ys : List (List (List ℕ))) → written (xs ++ ys) ≡ written xs ++ written ys
written-append [] ys = refl
written-append (x ∷ xs) ys = ap (λ rest. joined x ++ 10 ∷ rest) (written-append xs ys) ∙ sym (append_assoc (joined x) (10 ∷ written xs) (written ys))

-- lines and then further lines
pub then-written : (start middle end : List ℕ) (xs ys : List (List (List ℕ))) → middle ≡ start ++ written xs → end ≡ middle ++ written ys → end ≡ start ++ written (xs ++ ys)
then-written start middle end xs ys e f = f ∙ ap (λ t. t ++ written ys) e ∙ append_assoc start (written xs) (written ys) ∙ ap (λ t. start ++ t) (sym (written-append xs ys))
