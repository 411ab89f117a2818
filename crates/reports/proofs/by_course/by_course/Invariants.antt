use Rattle.std.proofs.Common.{ℕ, ◌≡◌, ◌<◌, length, []}
use Rattle.std.specs.Prelude.{slice_index, slice_index_or}
use Rattle.reports.specs.Groups.{counted}
use Rattle.reports.proofs.by_course.by_course.Given as goal

abbrev pub invariant-loop-room : goal.invariant-loop-room
invariant-loop-room l = record {
  whole : length l.uses.items ≡ l.courses;
  counts_whole : length l.counts.items ≡ l.courses;
  each : (c : ℕ) → c < l.courses → slice_index_or l.uses.items c [] ≡ counted l.rooms c l.room;
  clear : (c : ℕ) → c < l.courses → slice_index l.counts.items c ≡ 0;
}
