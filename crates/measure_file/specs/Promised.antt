-- What the measures that a reader gives keep to.
use Rattle.std.specs.Prelude.{ℕ, ℤ, pos, negsuc, ◌≡◌, ◌≤◌, ◌&&◌, Bool, true, not, nat_lt, nat_le, int_lt, List, [], ◌∷◌, length}
use Rattle.std.specs.List.{list_all}
use Rattle.ctt_reader.specs.Promised.{is_name, are_different}
use Rattle.ctt_reader.specs.declared.instance.Instance.{Instance}
use Rattle.measure_file.specs.Grammar.{same_pair, same_course}
use Rattle.measure_file.specs.declared.measures.Measures.{Measures}

-- two numbers, each below its limit
abbrev pub is_pair : ℕ → ℕ → ℕ × ℕ → Bool
is_pair m n x = nat_lt x.0 m && nat_lt x.1 n

-- three numbers, each below its limit
abbrev pub is_triple : ℕ → ℕ → ℕ → ℕ × ℕ × ℕ → Bool
is_triple l m n x = nat_lt x.0 l && nat_lt x.1 m && nat_lt x.2 n

-- points are at most a million in size
abbrev pub is_points : ℤ → Bool
is_points z = not (int_lt z (negsuc 999999)) && not (int_lt (pos 1000000) z)

-- of so many courses and rooms
abbrev pub is_preference : ℕ → ℕ → ℕ × ℕ × ℤ → Bool
is_preference courses rooms x = nat_lt x.0 courses && nat_lt x.1 rooms && is_points x.2

abbrev pub is_threshold : ℕ × ℤ → Bool
is_threshold x = nat_le x.0 1000 && is_points x.1

abbrev pub is_length : ℕ → ℕ × ℕ → Bool
is_length courses x = nat_lt x.0 courses && nat_le 1 x.1 && nat_le x.1 48

-- every two elements, the earlier one first, pass the test
abbrev pub all_pairs : {X : Type 0} → (X → X → Bool) → List X → Bool
all_pairs test [] = true
all_pairs test (x ∷ xs) = list_all (test x) xs && all_pairs test xs

-- not for one course and room
abbrev pub other_pair : ℕ × ℕ × ℤ → ℕ × ℕ × ℤ → Bool
other_pair x y = not (same_pair x y)

-- the later threshold is the higher one
abbrev pub rises : ℕ × ℤ → ℕ × ℤ → Bool
rises x y = nat_lt x.0 y.0

abbrev pub other_course : ℕ × ℕ → ℕ × ℕ → Bool
other_course x y = not (same_course x y)

pub record AreMeasures (i : Instance) (m : Measures) : Type 0 where
  pub few_features : length m.features ≤ 100
  pub features : list_all is_name m.features ≡ true
  pub different_features : are_different m.features ≡ true
  -- room and feature
  pub has : list_all (is_pair (length i.rooms) (length m.features)) m.has ≡ true
  -- course and feature
  pub needs : list_all (is_pair (length i.courses) (length m.features)) m.needs ≡ true
  -- course and room
  pub denied : list_all (is_pair (length i.courses) (length i.rooms)) m.denied ≡ true
  -- room, day and period
  pub closed : list_all (is_triple (length i.rooms) i.days i.periods) m.closed ≡ true
  -- course, room and points; at most one for a course and a room
  pub prefer : list_all (is_preference (length i.courses) (length i.rooms)) m.prefer ≡ true
  pub one_preference : all_pairs other_pair m.prefer ≡ true
  -- threshold and points; at most 100 thresholds, which rise
  pub few_thresholds : length m.robust ≤ 100
  pub robust : list_all is_threshold m.robust ≡ true
  pub rising : all_pairs rises m.robust ≡ true
  -- course and periods; at most one for a course
  pub lengths : list_all (is_length (length i.courses)) m.lengths ≡ true
  pub one_length : all_pairs other_course m.lengths ≡ true
