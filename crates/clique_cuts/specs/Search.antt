-- The search for two or three entries of a point whose patterns clash in pairs.
use Rattle.std.specs.Prelude.{ℕ, ℤ, pos, ◌≡◌, ◌<◌, ◌≤ℤ◌, ◌<ℤ◌, ◌+ℤ◌, ◌&&◌, ◌||◌, int_lt, int_le, Bool, true, List, length, slice_index_or, []}
use Rattle.std.specs.List.{list_any, All, Contains}
use Rattle.problem_core.specs.Facts.{Facts}
use Rattle.meeting_patterns.specs.Pattern.{pattern_at, patterns_of}
use Rattle.meeting_patterns.specs.declared.pattern.Pattern.{Pattern}
use Rattle.duality.specs.Packing.{Packing}
use Rattle.packing_model.specs.declared.point.Point.{Point}
use Rattle.search_nodes.specs.Points.{entry_of}
use Rattle.clique_cuts.specs.declared.broken.Broken.{Broken}
use Rattle.clique_cuts.specs.declared.broken.Broken.TheVariants.{Pair, Triple}
use Rattle.clique_cuts.specs.declared.groups.Kind.{Kind}
use Rattle.clique_cuts.specs.declared.groups.Kind.TheVariants.{Room, Course}

-- more than nothing and at most the denominator
pub record IsSize (den x : ℤ) : Type 0 where
  pub positive : pos 0 <ℤ x
  pub part : x ≤ℤ den

-- a pattern of the packing, and what the point gives it
pub record IsEntry (k : Packing) (x : Point) (e : ℕ × ℤ) : Type 0 where
  pub known : e.0 < k.count
  pub given : entry_of x.entries e.0 ≡ e.1
  pub size : IsSize x.den e.1

-- two or three patterns that clash in pairs, to which the point gives more than the denominator
abbrev pub IsBroken : Packing → Point → Broken → Type 0
IsBroken k x (Pair p q) = (p < k.count) × (q < k.count) × (k.clash p q ≡ true) × (x.den <ℤ (entry_of x.entries p +ℤ entry_of x.entries q))
IsBroken k x (Triple p q r) = (p < k.count) × (q < k.count) × (r < k.count) × (k.clash p q ≡ true) × (k.clash p r ≡ true) × (k.clash q r ≡ true)
    × (x.den <ℤ (entry_of x.entries p +ℤ (entry_of x.entries q +ℤ entry_of x.entries r)))

-- ---- entries by falling size: a, then b, then c

-- the two are more than the denominator together
abbrev pub two_exceed : ℤ → ℤ → ℤ → Bool
two_exceed den x y = int_lt den (x +ℤ y)

-- the three are
abbrev pub three_exceed : ℤ → ℤ → ℤ → ℤ → Bool
three_exceed den x y z = int_lt den (x +ℤ (y +ℤ z))

-- a could be the greatest of three that are broken
abbrev pub can_lead : ℤ → (ℕ × ℤ) → Bool
can_lead den a = three_exceed den a.1 a.1 a.1

-- it clashes, is no greater, and twice it beside a would be more than the denominator
abbrev pub can_follow : Packing → ℤ → (ℕ × ℤ) → (ℕ × ℤ) → Bool
can_follow k den a b = int_le b.1 a.1 && (three_exceed den a.1 b.1 b.1 && k.clash a.0 b.0)

abbrev pub clashes_with_both : (ℕ → ℕ → Bool) → ℕ → ℕ → ℕ → Bool
clashes_with_both clash p q r = clash p r && clash q r

-- it clashes with both, is no greater than b, and the three are more than the denominator
abbrev pub can_end : Packing → ℤ → (ℕ × ℤ) → (ℕ × ℤ) → (ℕ × ℤ) → Bool
can_end k den a b c = int_le c.1 b.1 && (three_exceed den a.1 b.1 c.1 && clashes_with_both k.clash a.0 b.0 c.0)

-- the two are broken, or they are with a third of the group
abbrev pub breaks_with : Packing → ℤ → List (ℕ × ℤ) → (ℕ × ℤ) → (ℕ × ℤ) → Bool
breaks_with k den group a b = can_follow k den a b && (two_exceed den a.1 b.1 || list_any (can_end k den a b) group)

abbrev pub breaks_from : Packing → ℤ → List (ℕ × ℤ) → (ℕ × ℤ) → Bool
breaks_from k den group a = can_lead den a && list_any (breaks_with k den group a) group

abbrev pub breaks_in : Packing → ℤ → List (ℕ × ℤ) → Bool
breaks_in k den group = list_any (breaks_from k den group) group

-- ---- groups of entries

-- the pattern's room or course
abbrev pub group_of : Kind → Pattern → ℕ
group_of Room x = x.room
group_of Course x = x.course

abbrev pub group_at : Facts → Kind → ℕ → ℕ
group_at p kind i = group_of kind (pattern_at (patterns_of p) i)

-- each of the first n entries is in the group of its room or course
pub record AreGrouped (p : Facts) (kind : Kind) (n : ℕ) (entries : List (ℕ × ℤ)) (groups : List (List (ℕ × ℤ))) : Type 0 where
  pub each : (j : ℕ) (d : ℕ × ℤ) → j < n → Contains (slice_index_or groups (group_at p kind (slice_index_or entries j d).0) []) (slice_index_or entries j d)

-- the groups have entries of the point alone
abbrev pub AreEntries : Packing → Point → List (List (ℕ × ℤ)) → Type 0
AreEntries k x groups = (g : ℕ) → All (IsEntry k x) (slice_index_or groups g [])

-- the number of rooms or courses
abbrev pub group_count : Facts → Kind → ℕ
group_count p Room = length p.capacity
group_count p Course = length p.students
