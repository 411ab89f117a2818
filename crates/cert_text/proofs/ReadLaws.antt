-- What was read so far, before what is left.
use Rattle.std.proofs.Common.{ℕ, ◌≡◌, refl, sym, ◌∙◌, ap, List, [], ◌∷◌, ◌++◌, append_assoc}
use Rattle.std.specs.Prelude.{Option, Some, None}
use Rattle.duality.specs.declared.row.Term.{Term}
use Rattle.cert_text.specs.Numbers.{opt_then}
use Rattle.cert_text.specs.Spelling.{term_of, terms_of}

abbrev pub behind : {A : Type 0} → List A → Option (List A) → Option (List A)
behind xs None = None
behind xs (Some ys) = Some (xs ++ ys)

pub behind_more : {A : Type 0} (xs : List A) (x : A) (o : Option (List A)) → behind xs (opt_then o (λ ys. Some (x ∷ ys))) ≡ behind (xs ++ (x ∷ [])) o
behind_more xs x None = refl
behind_more xs x (Some ys) = ap Some (sym (append_assoc xs (x ∷ []) ys))

pub behind_none : {A : Type 0} (o : Option (List A)) → behind [] o ≡ o
behind_none None = refl
behind_none (Some ys) = refl

pub terms_step : (xs : List Term) (fields rest : List (List ℕ)) (r m : List ℕ) (t : Term) → fields ≡ r ∷ (m ∷ rest) → term_of r m ≡ Some t → behind (xs ++ (t ∷ [])) (terms_of rest) ≡ behind xs (terms_of fields)
terms_step xs fields rest r m t e h =
    sym (behind_more xs t (terms_of rest))
    ∙ ap (λ o. behind xs (opt_then o (λ u. opt_then (terms_of rest) (λ us. Some (u ∷ us))))) (sym h)
    ∙ ap (λ fs. behind xs (terms_of fs)) (sym e)
