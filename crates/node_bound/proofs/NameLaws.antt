-- Each row of a node is the name of some row of its linear program.
use Rattle.std.proofs.Common.{ℕ, ◌≡◌, ◌<◌, ◌≤◌, ◌+◌, ◌-◌, arith, refl, sym, ap, subst, zero, suc, List, [], ◌∷◌, ◌++◌, length, inl, inr, Some}
use Rattle.std.specs.Prelude.{ℤ}
use Rattle.std.proofs.lemmas.Bool.{cases_lt, cases_eq}
use Rattle.duality.specs.declared.row.RowName.{RowName}
use Rattle.duality.specs.declared.row.RowName.TheVariants.{Base, Cut, Level}
use Rattle.duality.specs.Packing.{Packing, Weights, Stage, floor_level}
use Rattle.node_bound.specs.Tasks.{stretch, floor_names, names_of, name_at}

-- the name stands at some place
pub record Stands (names : List RowName) (r : RowName) : Type 0 where
  pub place : ℕ
  pub known : place < length names
  pub is : name_at names place ≡ r

first : (name : RowName) (names : List RowName) (r : RowName) → name ≡ r → Stands (name ∷ names) r
first name names r same = record { place = 0; known = omega arith; is = same }

later : (name : RowName) (names : List RowName) (r : RowName) → Stands names r → Stands (name ∷ names) r
later name names r at = record { place = suc at.place; known = omega (arith, at.known); is = at.is }

at_left : (xs ys : List RowName) (i : ℕ) (r : RowName) → i < length xs → name_at xs i ≡ r → Stands (xs ++ ys) r
at_left [] ys i r l same = absurd (omega arith)
at_left (x ∷ xs) ys zero r l same = first x (xs ++ ys) r same
at_left (x ∷ xs) ys (suc i) r l same = later x (xs ++ ys) r (at_left xs ys i r (omega arith) same)

left : (xs ys : List RowName) (r : RowName) → Stands xs r → Stands (xs ++ ys) r
left xs ys r at = at_left xs ys at.place r at.known at.is

right : (xs ys : List RowName) (r : RowName) → Stands ys r → Stands (xs ++ ys) r
right [] ys r at = at
right (x ∷ xs) ys r at = later x (xs ++ ys) r (right xs ys r at)

in_stretch : (name : ℕ → RowName) (from n q : ℕ) → from ≤ q → q < from + n → Stands (stretch name from n) (name q)
in_stretch name from zero q low high = absurd (omega arith)
in_stretch name from (suc n) q low high = elim (cases_eq from q) [
  | inl same ↦ first (name from) (stretch name (suc from) n) (name q) (ap name same)
  | inr other ↦ later (name from) (stretch name (suc from) n) (name q) (in_stretch name (suc from) n q (omega arith) (omega arith))
]

pub base_stands : (k : Packing) (w : Weights) (s : Stage) (lead low r : ℕ) → r < k.base_len → Stands (names_of k w s lead low) (Base r)
base_stands k w s lead low r l = elim (cases_lt r lead) [
  | inl early ↦ left _ _ (Base r) (left _ _ (Base r) (left _ _ (Base r) (left _ _ (Base r) (left _ _ (Base r) (in_stretch Base 0 lead r (omega arith) (omega arith))))))
  | inr other ↦ left _ _ (Base r) (left _ _ (Base r) (left _ _ (Base r) (right _ _ (Base r) (in_stretch Base lead (k.base_len - lead) r other (omega arith)))))
]

pub cut_stands : (k : Packing) (w : Weights) (s : Stage) (lead low c : ℕ) → c < length s.cuts → Stands (names_of k w s lead low) (Cut c)
cut_stands k w s lead low c l = left _ _ (Cut c) (left _ _ (Cut c) (right _ _ (Cut c) (in_stretch Cut 0 (length s.cuts) c (omega arith) (omega arith))))

pub level_stands : (k : Packing) (w : Weights) (s : Stage) (lead low j : ℕ) → 1 ≤ j → j < s.level → Stands (names_of k w s lead low) (Level j)
level_stands k w s lead low j least below = elim (cases_lt j (low + 1)) [
  | inl early ↦ left _ _ (Level j) (left _ _ (Level j) (left _ _ (Level j) (left _ _ (Level j) (right _ _ (Level j) (in_stretch Level 1 low j least (omega arith))))))
  | inr other ↦ left _ _ (Level j) (right _ _ (Level j) (in_stretch Level (low + 1) ((s.level - 1) - low) j other (omega arith)))
]

pub floor_stands : (k : Packing) (w : Weights) (s : Stage) (lead low : ℕ) (floor : (ℕ → ℤ) × ℤ) → w.floor ≡ Some floor → Stands (names_of k w s lead low) (Level floor_level)
floor_stands k w s lead low floor some = right _ _ (Level floor_level) (subst (λ f. Stands (floor_names f) (Level floor_level)) (sym some) (first (Level floor_level) [] (Level floor_level) refl))
