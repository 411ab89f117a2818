-- Meetings with a table of the slots that each course has taken, and the number of its meetings.
use Rattle.std.specs.Prelude.{ℕ, ◌≡◌, ◌+◌, ◌*◌, ◌<◌, ◌≤◌, ◌==◌, ◌&&◌, Bool, true, false, nat_lt, List, length, slice_index_or}
use Rattle.std.specs.List.{list_all, list_any}
use Rattle.timed_solution.specs.Times.{held_of}
use Rattle.timed_solution.specs.declared.times.Meeting.{Meeting}

pub record Held : Type 0 where
  pub courses : ℕ
  pub meetings : List Meeting

-- the place of a course's slot, at most 14 days of at most 48 periods a course
abbrev pub place : Meeting → ℕ
place m = m.course * 672 + m.day * 48 + m.period

abbrev pub has_place : ℕ → Meeting → Bool
has_place courses m = nat_lt m.course courses && nat_lt m.day 14 && nat_lt m.period 48

pub record AreTables (meetings : List Meeting) (taken : List Bool) (held : List ℕ) : Type 0 where
  pub few : length held ≤ 1000
  pub size : length taken ≡ length held * 672
  pub placed : list_all (has_place (length held)) meetings ≡ true
  pub marks : (k : ℕ) → k < length taken → slice_index_or taken k false ≡ list_any (λ m. place m == k) meetings
  pub counts : (c : ℕ) → c < length held → slice_index_or held c 0 ≡ held_of c meetings
