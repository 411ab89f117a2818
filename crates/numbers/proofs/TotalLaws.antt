-- Sums over lists add, take a factor out, and two of them may change places.
use Rattle.std.proofs.Common.{◌≡◌, refl, sym, ◌∙◌, ap, ap₂, List, [], ◌∷◌, arith}
use Rattle.std.specs.Prelude.{ℤ, pos, ◌+ℤ◌, ◌-ℤ◌, ◌*ℤ◌}
use Rattle.std.proofs.lemmas.Int.{ints}
use Rattle.std.proofs.Math.IntN.{*ℤ-zero}
use Rattle.numbers.specs.Algebra.{*ℤ-+ℤ}
use Rattle.numbers.specs.Sums.{total}

pub total-+ℤ : {A : Type 0} (f g : A → ℤ) (xs : List A) → total (λ x. f x +ℤ g x) xs ≡ total f xs +ℤ total g xs
total-+ℤ f g [] = refl
total-+ℤ f g (x ∷ xs) = omega (arith, ints, total-+ℤ f g xs)

pub total--ℤ : {A : Type 0} (f g : A → ℤ) (xs : List A) → total (λ x. f x -ℤ g x) xs ≡ total f xs -ℤ total g xs
total--ℤ f g [] = refl
total--ℤ f g (x ∷ xs) = omega (arith, ints, total--ℤ f g xs)

pub total-neg : {A : Type 0} (f : A → ℤ) (xs : List A) → total (λ x. pos 0 -ℤ f x) xs ≡ pos 0 -ℤ total f xs
total-neg f [] = refl
total-neg f (x ∷ xs) = omega (arith, ints, total-neg f xs)

pub total-*ℤ : {A : Type 0} (c : ℤ) (f : A → ℤ) (xs : List A) → total (λ x. c *ℤ f x) xs ≡ c *ℤ total f xs
total-*ℤ c f [] = sym (*ℤ-zero c)
total-*ℤ c f (x ∷ xs) = ap (λ z. (c *ℤ f x) +ℤ z) (total-*ℤ c f xs) ∙ sym (*ℤ-+ℤ c (f x) (total f xs))

pub total-same : {A : Type 0} (f g : A → ℤ) (xs : List A) → ((x : A) → f x ≡ g x) → total f xs ≡ total g xs
total-same f g [] h = refl
total-same f g (x ∷ xs) h = ap₂ (λ a b. a +ℤ b) (h x) (total-same f g xs h)

total-none : {A : Type 0} (xs : List A) → total (λ (x : A). pos 0) xs ≡ pos 0
total-none [] = refl
total-none (x ∷ xs) = omega (arith, ints, total-none xs)

pub total-exchanged : {A B : Type 0} (f : A → B → ℤ) (xs : List A) (ys : List B) → total (λ x. total (f x) ys) xs ≡ total (λ y. total (λ x. f x y) xs) ys
total-exchanged f [] ys = sym (total-none ys)
total-exchanged f (x ∷ xs) ys = ap (λ z. total (f x) ys +ℤ z) (total-exchanged f xs ys) ∙ sym (total-+ℤ (f x) (λ y. total (λ z. f z y) xs) ys)
