-- The lines that a reader gives, in groups.
use Rattle.std.proofs.Common.{ℕ, ◌≡◌, ◌+◌, ◌*◌, ◌<◌, ◌≤◌, arith, ◌∙◌, ap, zero, suc, List, [], ◌∷◌, Bool, true, ◌&&◌, length, get_or}
use Rattle.std.specs.Prelude.{◌==◌, nat_lt, nat_le}
use Rattle.std.specs.List.{filter, list_all, All}
use Rattle.std.proofs.lemmas.Bool.{and_parts, and_from, eq-eqb, eqb-true}
use Rattle.std.proofs.lemmas.Bool.Decides.{nat_tests}
use Rattle.ctt_reader.specs.Promised.{IsInstance}
use Rattle.ctt_reader.specs.declared.instance.Instance.{Instance}
use Rattle.timed_solution.specs.declared.times.Meeting.{Meeting}
use Rattle.timed_solution.specs.Times.{is_meeting}
use Rattle.week_page.specs.Cells.{is_in, in_cell, of_course, place, group_of, AreGroups, are_known, cell_in, group_in}
use Rattle.week_page.specs.declared.groups.Grouping.{Grouping}
use Rattle.week_page.specs.declared.groups.Grouping.TheVariants.{ByCell, ByCourse}
use Rattle.week_page.proofs.ListLemmas.{same_test, all-same, all-filter, filter-same}

pub record IsFit (i : Instance) (m : Meeting) : Type 0 where
  pub course : m.course < length i.courses
  pub room : m.room ≤ length i.rooms
  pub day : m.day < i.days
  pub period : m.period < i.periods

below : (k n : ℕ) → nat_lt k n ≡ true → k < n
below k n h = grind (arith, nat_tests, h)

at-most : (k n : ℕ) → nat_le k n ≡ true → k ≤ n
at-most k n h = grind (arith, nat_tests, h)

lt-test : (k n : ℕ) → k < n → nat_lt k n ≡ true
lt-test k n h = grind (arith, nat_tests, h)

fit-is : (i : Instance) (x : Meeting) → is_meeting i x ≡ true → IsFit i x
fit-is i x h =
    let a = and_parts (nat_lt x.course (length i.courses) && nat_le x.room (length i.rooms) && nat_lt x.day i.days) (nat_lt x.period i.periods) h in
    let b = and_parts (nat_lt x.course (length i.courses) && nat_le x.room (length i.rooms)) (nat_lt x.day i.days) a.0 in
    let c = and_parts (nat_lt x.course (length i.courses)) (nat_le x.room (length i.rooms)) b.0 in
    record { course = below x.course (length i.courses) c.0; room = at-most x.room (length i.rooms) c.1; day = below x.day i.days b.1; period = below x.period i.periods a.1 }

all_at : {X : Type 0} (test : X → Bool) (xs : List X) (k : ℕ) (d : X) → list_all test xs ≡ true → k < length xs → test (get_or xs k d) ≡ true
all_at test [] k d h l = absurd (omega arith)
all_at test (x ∷ xs) zero d h l = (and_parts (test x) (list_all test xs) h).0
all_at test (x ∷ xs) (suc k) d h l = all_at test xs k d (and_parts (test x) (list_all test xs) h).1 (omega arith)

-- ---- each line has a group

cell_below : (days d r p : ℕ) → d < days → r ≤ 200 → p < 48 → place d r p < days * 9648
cell_below days d r p a b c = omega arith

pub cells_below : (i : Instance) (lines : List Meeting) → IsInstance i → list_all (is_meeting i) lines ≡ true → All (λ line. group_of ByCell line < i.days * 9648) lines
cells_below i lines good all = λ k d l.
    let m = get_or lines k d in
    let f = fit-is i m (all_at (is_meeting i) lines k d all l) in
    cell_below i.days m.day m.room m.period f.day (omega (arith, f.room, good.few_rooms)) (omega (arith, f.period, good.few_periods))

pub courses_below : (i : Instance) (lines : List Meeting) → list_all (is_meeting i) lines ≡ true → All (λ line. group_of ByCourse line < length i.courses) lines
courses_below i lines all = λ k d l. (fit-is i (get_or lines k d) (all_at (is_meeting i) lines k d all l)).course

-- ---- the lines of a group are known

pub lines_known : (i : Instance) (lines : List Meeting) → list_all (is_meeting i) lines ≡ true → are_known i lines ≡ true
lines_known i lines all = all-same (is_meeting i) (λ (x : Meeting). nat_lt x.course (length i.courses) && nat_lt x.room (length i.rooms + 1)) lines each all
  where
    each : (x : Meeting) → is_meeting i x ≡ true → (nat_lt x.course (length i.courses) && nat_lt x.room (length i.rooms + 1)) ≡ true
    each x h =
        let f = fit-is i x h in
        and_from (nat_lt x.course (length i.courses)) (nat_lt x.room (length i.rooms + 1)) (lt-test x.course (length i.courses) f.course) (lt-test x.room (length i.rooms + 1) (omega (arith, f.room)))

pub filter_known : (i : Instance) (lines : List Meeting) (p : Meeting → Bool) → list_all (is_meeting i) lines ≡ true → are_known i (filter p lines) ≡ true
filter_known i lines p all = all-filter (λ (x : Meeting). nat_lt x.course (length i.courses) && nat_lt x.room (length i.rooms + 1)) p lines (lines_known i lines all)

pub groups_known : (i : Instance) (by : Grouping) (lines : List Meeting) (groups : List (List Meeting)) → list_all (is_meeting i) lines ≡ true → AreGroups by lines groups
    → (g : ℕ) → are_known i (get_or groups g []) ≡ true
groups_known i by lines groups all are = λ g. ap (are_known i) (are.each g) ∙ filter_known i lines (λ x. group_of by x == g) all

-- ---- a cell has the lines of its place

apart : (a b c r s p q : ℕ) → a * 9648 + r * 48 + p ≡ b * 9648 + s * 48 + q → r ≤ 200 → s ≤ 200 → p < 48 → q < 48 → (a ≡ b) × ((r ≡ s) × (p ≡ q))
apart a b c r s p q e l m n o = (omega arith, (omega arith, omega arith))

same_cell : (i : Instance) (d r p : ℕ) (x : Meeting) → IsInstance i → r < length i.rooms → p < i.periods → is_meeting i x ≡ true → (group_of ByCell x == place d (r + 1) p) ≡ is_in d r p x
same_cell i d r p x good lr lp h =
    let f = fit-is i x h in
    same_test (group_of ByCell x == place d (r + 1) p) (is_in d r p x)
    (λ e.
    let s = apart x.day d 0 x.room (r + 1) x.period p (eqb-true (group_of ByCell x) (place d (r + 1) p) e) (omega (arith, f.room, good.few_rooms)) (omega (arith, lr, good.few_rooms)) (omega (arith, f.period, good.few_periods)) (omega (arith, lp, good.few_periods)) in
    and_from (x.room == r + 1) ((x.day == d) && (x.period == p)) (eq-eqb x.room (r + 1) s.1.0) (and_from (x.day == d) (x.period == p) (eq-eqb x.day d s.0) (eq-eqb x.period p s.1.1)))
    (λ e.
    let a = and_parts (x.room == r + 1) ((x.day == d) && (x.period == p)) e in
    let b = and_parts (x.day == d) (x.period == p) a.1 in
    let room : x.room ≡ r + 1 = eqb-true x.room (r + 1) a.0 in
    let day : x.day ≡ d = eqb-true x.day d b.0 in
    let period : x.period ≡ p = eqb-true x.period p b.1 in
    eq-eqb (group_of ByCell x) (place d (r + 1) p) (omega (arith, room, day, period)))

pub cell_is : (i : Instance) (lines : List Meeting) (groups : List (List Meeting)) (d r p : ℕ) → IsInstance i → list_all (is_meeting i) lines ≡ true → AreGroups ByCell lines groups
    → r < length i.rooms → p < i.periods → cell_in groups d r p ≡ in_cell lines d r p
cell_is i lines groups d r p good all are lr lp =
    are.each (place d (r + 1) p) ∙ filter-same (is_meeting i) (λ x. group_of ByCell x == place d (r + 1) p) (is_in d r p) lines (λ x h. same_cell i d r p x good lr lp h) all

pub group_is : (lines : List Meeting) (groups : List (List Meeting)) (c : ℕ) → AreGroups ByCourse lines groups → group_in groups c ≡ of_course lines c
group_is lines groups c are = are.each c
