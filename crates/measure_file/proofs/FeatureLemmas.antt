-- Features and their numbers.
use Rattle.std.proofs.Common.{ℕ, ◌≡◌, ◌≤◌, ◌<◌, ◌+◌, ◌++◌, Bool, true, false, cond, not, List, [], ◌∷◌, length, refl, ap, sym, ◌∙◌, arith, suc}
use Rattle.std.specs.Prelude.{◌||◌, nat_lt, Some, None, Ok, Err, bytes_eq}
use Rattle.std.specs.List.{list_any, position_or_len}
use Rattle.std.proofs.lemmas.Bool.Decides.{nat_tests}
use Rattle.input_core.specs.declared.faults.LineKind.TheVariants.{TooMany}
use Rattle.ctt_reader.specs.Names.{place_of, has_name, with_name}
use Rattle.measure_file.specs.Grammar.{feature_number}

-- a name that is there has a place, and one that is not has none
pub placed : {A : Type 0} (test : A → Bool) (xs : List A) → nat_lt (position_or_len test xs) (length xs) ≡ list_any test xs
placed test [] = refl
placed test (x ∷ xs) = elim (test x) as (λ t. nat_lt (cond (not t) (1 + position_or_len test xs) 0) (length (x ∷ xs)) ≡ (t || list_any test xs)) [
  | true ↦ grind (arith, nat_tests)
  | false ↦ next (position_or_len test xs) (length xs) ∙ placed test xs
]
  where
    next : (k n : ℕ) → nat_lt (1 + k) (suc n) ≡ nat_lt k n
    next k n = grind (arith, nat_tests)

-- what is known of a look-up
pub record IsFound (name : List ℕ) (names : List (List ℕ)) (k : ℕ) : Type 0 where
  pub known : has_name name names ≡ true
  pub place : position_or_len (bytes_eq name) names ≡ k
  pub below : k < length names

pub found : (name : List ℕ) (names : List (List ℕ)) (k : ℕ) → place_of name names ≡ Some k → IsFound name names k
found name names k e = by_case (nat_lt (position_or_len (bytes_eq name) names) (length names)) refl e
  where
    below : (a b : ℕ) → nat_lt a b ≡ true → a < b
    below a b h = grind (arith, nat_tests, h)

    by_case : (t : Bool) → nat_lt (position_or_len (bytes_eq name) names) (length names) ≡ t → cond t (Some (position_or_len (bytes_eq name) names)) None ≡ Some k → IsFound name names k
    by_case true h e =
        let same : position_or_len (bytes_eq name) names ≡ k = cc in
        record { known = sym (placed (bytes_eq name) names) ∙ h; place = same; below = below k (length names) (ap (λ a. nat_lt a (length names)) (sym same) ∙ h) }
    by_case false h e = cc

pub record IsMissing (name : List ℕ) (names : List (List ℕ)) : Type 0 where
  pub unknown : has_name name names ≡ false
  pub place : position_or_len (bytes_eq name) names ≡ length names

pub at_end : {A : Type 0} (test : A → Bool) (xs : List A) → list_any test xs ≡ false → position_or_len test xs ≡ length xs
at_end test [] h = refl
at_end test (x ∷ xs) h = by_case (test x) refl h (at_end test xs)
  where
    by_case : (t : Bool) → test x ≡ t → (t || list_any test xs) ≡ false → (list_any test xs ≡ false → position_or_len test xs ≡ length xs) → position_or_len test (x ∷ xs) ≡ length (x ∷ xs)
    by_case true e h rest = cc
    by_case false e h rest = rw e (omega (arith, rest h))

pub missing : (name : List ℕ) (names : List (List ℕ)) → place_of name names ≡ None → IsMissing name names
missing name names e = by_case (nat_lt (position_or_len (bytes_eq name) names) (length names)) refl e
  where
    by_case : (t : Bool) → nat_lt (position_or_len (bytes_eq name) names) (length names) ≡ t → cond t (Some (position_or_len (bytes_eq name) names)) None ≡ None → IsMissing name names
    by_case true h e = cc
    by_case false h e =
        let unknown : has_name name names ≡ false = sym (placed (bytes_eq name) names) ∙ h in
        record { unknown = unknown; place = at_end (bytes_eq name) names unknown }

under : (k n : ℕ) → k < n → nat_lt k n ≡ true
under k n h = grind (arith, nat_tests, h)

not_under : (k n : ℕ) → n ≤ k → nat_lt k n ≡ false
not_under k n h = grind (arith, nat_tests, h)

-- the number of a feature that is known
pub number-found : (name : List ℕ) (names : List (List ℕ)) (k : ℕ) → IsFound name names k → length names ≤ 100 → (feature_number names name ≡ Ok k) × (with_name names name ≡ names)
number-found name names k h few = (rw (h.place, under k 100 (omega (arith, h.below, few))) refl, rw h.known refl)

-- the number of a new feature, and where there is no room for it
pub number-new : (name : List ℕ) (names : List (List ℕ)) → IsMissing name names → length names < 100 → (feature_number names name ≡ Ok (length names)) × (with_name names name ≡ names ++ name ∷ [])
number-new name names h few = (rw (h.place, under (length names) 100 few) refl, rw h.unknown refl)

pub number-full : (name : List ℕ) (names : List (List ℕ)) → IsMissing name names → 100 ≤ length names → feature_number names name ≡ Err (TooMany 100)
number-full name names h full = rw (h.place, not_under (length names) 100 full) refl
