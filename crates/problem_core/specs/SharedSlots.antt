-- Sharing a slot goes both ways.
use Rattle.std.proofs.Common.{ℕ, ◌≡◌, Bool, true, false, ◌||◌, refl, ap, ap₂, sym, ◌∙◌, List, [], ◌∷◌, inl, inr}
use Rattle.std.specs.Prelude.{◌==◌}
use Rattle.std.specs.List.{list_any}
use Rattle.std.proofs.lemmas.Bool.{cases_eq, eq-eqb, ne_eqb}
use Rattle.problem_core.specs.Facts.{Facts, share_slot, takes_slot, event_at}

any_none : {Y : Type 0} (ys : List Y) → false ≡ list_any (λ (y : Y). false) ys
any_none [] = refl
any_none (y ∷ ys) = any_none ys

or_swap : (a b c d : Bool) → ((a || b) || (c || d)) ≡ ((a || c) || (b || d))
or_swap true b c d = refl
or_swap false true true d = refl
or_swap false true false d = refl
or_swap false false true d = refl
or_swap false false false d = refl

any_or : {X : Type 0} (f g : X → Bool) (xs : List X) → list_any (λ x. f x || g x) xs ≡ (list_any f xs || list_any g xs)
any_or f g [] = refl
any_or f g (x ∷ xs) = ap (λ y. (f x || g x) || y) (any_or f g xs) ∙ or_swap (f x) (g x) (list_any f xs) (list_any g xs)

pub any_any : {X Y : Type 0} (r : X → Y → Bool) (xs : List X) (ys : List Y) → list_any (λ x. list_any (r x) ys) xs ≡ list_any (λ y. list_any (λ x. r x y) xs) ys
any_any r [] ys = any_none ys
any_any r (x ∷ xs) ys = ap (λ z. list_any (r x) ys || z) (any_any r xs ys) ∙ sym (any_or (r x) (λ y. list_any (λ z. r z y) xs) ys)

eq_swap : (a b : ℕ) → (a == b) ≡ (b == a)
eq_swap a b = elim (cases_eq a b) [
  | inl same ↦ eq-eqb a b same ∙ sym (eq-eqb b a (sym same))
  | inr differ ↦ ne_eqb a b differ ∙ sym (ne_eqb b a (λ e. differ (sym e)))
]

any_same : {X : Type 0} (f g : X → Bool) → ((x : X) → f x ≡ g x) → (xs : List X) → list_any f xs ≡ list_any g xs
any_same f g h [] = refl
any_same f g h (x ∷ xs) = ap₂ (λ a b. a || b) (h x) (any_same f g h xs)

pub share_slot-sym : (p : Facts) (e f : ℕ) → share_slot p e f ≡ share_slot p f e
share_slot-sym p e f =
    any_any (λ s t. t == s) (event_at p e).takes (event_at p f).takes
    ∙ any_same (λ t. list_any (λ s. t == s) (event_at p e).takes) (takes_slot p e) (λ t. any_same (λ s. t == s) (λ s. s == t) (λ s. eq_swap t s) (event_at p e).takes) (event_at p f).takes
