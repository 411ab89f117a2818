-- Tests of answers that were found in some way of which nothing is promised.
use Rattle.std.specs.Prelude.{ℕ, ℤ, pos, ◌≡◌, ◌<◌, ◌≤◌, ◌≤ℤ◌, true, ◌*ℤ◌, ◌&&◌, ◌||◌, ◌^◌, not, nat_lt, nat_le, int_lt, int_le, Bool, List, map, length}
use Rattle.std.specs.List.{list_all, list_any}
use Rattle.std.specs.Ordering.{int_eq}
use Rattle.numbers.specs.Sums.{member, total}
use Rattle.duality.specs.declared.row.Term.{Term}
use Rattle.duality.specs.declared.leaf.Leaf.{Leaf}
use Rattle.duality.specs.Packing.{Packing, Weights, Stage, Fixing, as_number, cut_at, target_of, is_free}
use Rattle.duality.specs.Sums.{rises, are_small, is_small}
use Rattle.packing_model.specs.Rising.{is_rising}
use Rattle.packing_model.specs.declared.point.Point.{Point}
use Rattle.search_nodes.specs.Points.{IsAbove, IsPointOf, ReachesFloor, entry_of, is_part, sum_at}

-- ---- leaves

abbrev pub is_scale : ℤ → Bool
is_scale scale = int_le (pos 0) scale && is_small (10 ^ 24) scale

-- no multiplier is 0
abbrev pub no_zero : List Term → Bool
no_zero terms = not (list_any (λ (t : Term). int_eq t.times (pos 0)) terms)

abbrev pub is_fine_leaf : Leaf → Bool
is_fine_leaf leaf = is_scale leaf.scale && (rises leaf.terms && (are_small leaf.terms && no_zero leaf.terms))

-- ---- points

-- more than 0, at most 10^24
abbrev pub is_den : ℤ → Bool
is_den den = int_lt (pos 0) den && int_le den (pos (10 ^ 24))

-- entries by rising pattern, each a part of 1; at most 100,000
abbrev pub is_point : ℕ → Point → Bool
is_point count x =
    nat_le (length x.entries) 100000 && (is_den x.den && (is_rising (map (λ (e : ℕ × ℤ). e.0) x.entries)
    && (list_all (λ (e : ℕ × ℤ). nat_lt e.0 count) x.entries && list_all (is_part x.den) x.entries)))

-- the point has all of the pattern
abbrev pub has_all : Point → ℕ → Bool
has_all x p = int_eq (entry_of x.entries p) x.den

-- the pattern of the entry is taken or free
abbrev pub may_stand : Packing → Fixing → (ℕ × ℤ) → Bool
may_stand k f e = member e.0 f.one || is_free k f e.0

-- it has all of each pattern that is taken, and nothing of any other that is not free
abbrev pub keeps_fixing : Packing → Fixing → Point → Bool
keeps_fixing k f x = list_all (has_all x) f.one && list_all (may_stand k f) x.entries

-- the sum of f over the entries, each times what it gives
abbrev pub entry_sum : (ℕ → ℤ) → List (ℕ × ℤ) → ℤ
entry_sum f es = total (λ (e : ℕ × ℤ). f e.0 *ℤ e.1) es

-- a point of at most 100,000 entries
pub record AreFew (k : Packing) (x : Point) : Type 0 where
  pub point : IsPointOf k x
  pub few : length x.entries ≤ 100000

-- entries of patterns below the number, each more than 0 and at most 10^24
pub record AreEntries (count : ℕ) (es : List (ℕ × ℤ)) : Type 0 where
  pub few : length es ≤ 100000
  pub known : list_all (λ (e : ℕ × ℤ). nat_lt e.0 count) es ≡ true
  pub parts : list_all (is_part (pos (10 ^ 24))) es ≡ true

-- the targets of the levels below, over the denominator
abbrev pub HasTargets : (ℕ → ℕ → ℤ) → ℕ → List ℤ → Point → Type 0
HasTargets weight level targets x = (j : ℕ) → 1 ≤ j → j < level → entry_sum (weight j) x.entries ≡ x.den *ℤ target_of targets j

-- all that is asked of a point of the node beside base rows and cuts
pub record IsBeside (k : Packing) (w : Weights) (s : Stage) (f : Fixing) (x : Point) : Type 0 where
  pub fixing : keeps_fixing k f x ≡ true
  pub targets : HasTargets w.weight s.level s.targets x
  pub floor : ReachesFloor k w.floor x
  pub value : IsAbove s.best x.den (sum_at k (w.weight s.level) x)
  pub in_part : list_any (λ (e : ℕ × ℤ). not (int_eq e.1 x.den)) x.entries ≡ true

-- at most 1 of each base row and cut
pub record KeepsRows (k : Packing) (s : Stage) (x : Point) : Type 0 where
  pub base : (r : ℕ) → r < k.base_len → sum_at k (λ p. as_number (k.in_base r p)) x ≤ℤ x.den
  pub cuts : (c : ℕ) → c < length s.cuts → sum_at k (λ p. as_number (member p (cut_at s c))) x ≤ℤ x.den
