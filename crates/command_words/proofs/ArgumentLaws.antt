-- What the values of a parse are, by its rows.
use Rattle.std.proofs.Common.{ℕ, ◌≡◌, ◌<◌, ◌^◌, ◌∙◌, ap, sym, subst, refl, arith, List, [], Option, Some, None}
use Rattle.std.specs.Prelude.{IfSome, IsSomeAnd, Ok, Err, Result, unwrap_or}
use Rattle.std.specs.Option.{option_map_or}
use Rattle.std.specs.Str.Parse.{ParsesUnsigned}
use Rattle.clap.specs.Words.{ReadsOne, Text, IsUnsignedIn, first_value, one_of, one_text, rows_of}
use Rattle.clap.specs.declared.parser.matches.Found.{Found}
use Rattle.clap.proofs.WalkLemmas.{first_value-rows, one_text-rows}
use Rattle.command_words.specs.Words.{text_in, number_of}

pub text_given : (f : Found) (id t : Text) → first_value f id ≡ Some t → t ≡ text_in id (rows_of f)
text_given f id t given = ap (λ o. unwrap_or o []) (sym given ∙ first_value-rows f id)

pub text_none : (f : Found) (id : Text) → first_value f id ≡ None → [] ≡ text_in id (rows_of f)
text_none f id none = ap (λ o. unwrap_or o []) (sym none ∙ first_value-rows f id)

-- a text that passed a range of numbers reads as its number
pub number_read : (E : Type 0) (G : List ℕ → Result ℕ E → Type 0) (k low high : ℕ) (t : Text) (r : Option ℕ) → ReadsOne G t r
    → ((u : List ℕ) (x : Result ℕ E) → G u x → ParsesUnsigned k 10 u x) → high < 2 ^ k → IsUnsignedIn low high t → r ≡ Some (number_of t)
number_read E G k low high t (Some n) read only fits passed =
    let parsed = only t (Ok n) read in
    ap Some parsed.1
number_read E G k low high t None read only fits passed =
    let small : number_of t < 2 ^ k = omega (arith, passed.3, fits) in
    absurd (only t (Err read.0) read.1 (passed.0, small))

-- a number that is given where the text passed, and a default one
pub number_given : (E : Type 0) (G : List ℕ → Result ℕ E → Type 0) (k low high other : ℕ) (f : Found) (id : Text) (r : Option ℕ)
    → ((u : List ℕ) (x : Result ℕ E) → G u x → ParsesUnsigned k 10 u x) → high < 2 ^ k → IfSome (one_text f id) (IsUnsignedIn low high)
    → (one_text f id ≡ None → r ≡ None) → ((t : Text) → one_text f id ≡ Some t → ReadsOne G t r)
    → unwrap_or r other ≡ option_map_or number_of (one_of id (rows_of f)) other
number_given E G k low high other f id r only fits passed none value =
    go (one_text f id) refl ∙ ap (λ o. option_map_or number_of o other) (one_text-rows f id)
  where
    go : (o : Option Text) → one_text f id ≡ o → unwrap_or r other ≡ option_map_or number_of (one_text f id) other
    go None e = ap (λ x. unwrap_or x other) (none e) ∙ ap (λ o. option_map_or number_of o other) (sym e)
    go (Some t) e =
        let in_range : IsUnsignedIn low high t = subst (λ o. IfSome o (IsUnsignedIn low high)) e passed in
        ap (λ x. unwrap_or x other) (number_read E G k low high t r (value t e) only fits in_range) ∙ ap (λ o. option_map_or number_of o other) (sym e)

pub if_some : (o : Option Text) (P : Text → Type 0) → IsSomeAnd o P → IfSome o P
if_some None P h = absurd h
if_some (Some t) P h = h
