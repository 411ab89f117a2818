-- Points over the patterns: fractions of patterns that meet every row of a node, though they make no choice.
use Rattle.std.specs.Prelude.{ℕ, ℤ, pos, ◌≡◌, ◌<◌, ◌≤◌, ◌≤ℤ◌, ◌<ℤ◌, ◌+ℤ◌, ◌*ℤ◌, ◌^◌, ◌==◌, ◌&&◌, not, nat_lt, int_lt, int_le, if◌then◌else◌, Bool, true, false, Option, Some, None, List, [], ◌∷◌, map, length}
use Rattle.std.specs.List.{list_all, list_any}
use Rattle.std.specs.Ordering.{int_eq}
use Rattle.numbers.specs.Sums.{member, sum_below}
use Rattle.duality.specs.Packing.{Packing, Weights, Stage, Fixing, as_number, cut_at, target_of, is_free}
use Rattle.packing_model.specs.Rising.{is_rising}
use Rattle.packing_model.specs.declared.point.Point.{Point}

-- ---- a point

-- what the entries give a pattern, over the denominator; a pattern that is not listed has 0
abbrev pub entry_of : List (ℕ × ℤ) → ℕ → ℤ
entry_of [] p = pos 0
entry_of (e ∷ es) p = if e.0 == p then e.1 else entry_of es p

-- more than nothing and at most the denominator
abbrev pub is_part : ℤ → (ℕ × ℤ) → Bool
is_part den e = int_lt (pos 0) e.1 && int_le e.1 den

-- entries by rising pattern, each a part of 1
pub record IsPointOf (k : Packing) (x : Point) : Type 0 where
  pub positive : pos 0 <ℤ x.den
  pub small : x.den ≤ℤ pos (10 ^ 24)
  pub rising : is_rising (map (λ (e : ℕ × ℤ). e.0) x.entries) ≡ true
  pub known : list_all (λ (e : ℕ × ℤ). nat_lt e.0 k.count) x.entries ≡ true
  pub parts : list_all (is_part x.den) x.entries ≡ true

-- the sum of f over all patterns, each times what the point gives it
abbrev pub sum_at : Packing → (ℕ → ℤ) → Point → ℤ
sum_at k f x = sum_below (λ p. f p *ℤ entry_of x.entries p) k.count

-- ---- a point at a node

abbrev pub ReachesFloor : Packing → Option ((ℕ → ℤ) × ℤ) → Point → Type 0
ReachesFloor k None x = Unit {0}
ReachesFloor k (Some floor) x = (x.den *ℤ floor.1) ≤ℤ sum_at k floor.0 x

-- it weighs at least 1 more than the best value, where there is one
abbrev pub IsAbove : Option ℤ → ℤ → ℤ → Type 0
IsAbove None den sum = Unit {0}
IsAbove (Some v) den sum = (den *ℤ (v +ℤ pos 1)) ≤ℤ sum

-- All of a pattern that is taken, and nothing of any other that is not free; at most 1 of each base row and
-- cut, the targets of the levels below, the floor, and more than the best value; and some pattern in part
pub record IsGapPoint (k : Packing) (w : Weights) (s : Stage) (f : Fixing) (x : Point) : Type 0 where
  pub point : IsPointOf k x
  pub taken : (p : ℕ) → member p f.one ≡ true → entry_of x.entries p ≡ x.den
  pub none : (p : ℕ) → p < k.count → member p f.one ≡ false → is_free k f p ≡ false → entry_of x.entries p ≡ pos 0
  pub base : (r : ℕ) → r < k.base_len → sum_at k (λ p. as_number (k.in_base r p)) x ≤ℤ x.den
  pub cuts : (c : ℕ) → c < length s.cuts → sum_at k (λ p. as_number (member p (cut_at s c))) x ≤ℤ x.den
  pub targets : (j : ℕ) → 1 ≤ j → j < s.level → sum_at k (w.weight j) x ≡ x.den *ℤ target_of s.targets j
  pub floor : ReachesFloor k w.floor x
  pub value : IsAbove s.best x.den (sum_at k (w.weight s.level) x)
  pub in_part : list_any (λ (e : ℕ × ℤ). not (int_eq e.1 x.den)) x.entries ≡ true
