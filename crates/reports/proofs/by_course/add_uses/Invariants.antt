use Rattle.std.proofs.Common.{ℕ, ◌≡◌, ◌<◌, ◌++◌, length, [], drop, true}
use Rattle.std.specs.Prelude.{slice_index, slice_index_or}
use Rattle.reports.specs.Rooms.{if_used}
use Rattle.reports.specs.Groups.{are_of, count_of}
use Rattle.reports.proofs.by_course.add_uses.Given as goal

abbrev pub invariant-loop-session : goal.invariant-loop-session
invariant-loop-session l = record {
  whole : length l.uses.items ≡ length l.fn.uses.items;
  counts_whole : length l.counts ≡ length l.fn.counts;
  known : are_of (length l.fn.counts) (drop l.session-index l.sessions) ≡ true;
  each : (c : ℕ) → c < length l.fn.counts
      → slice_index_or l.uses.items c [] ++ if_used l.room (slice_index l.counts c) ≡ slice_index_or l.fn.uses.items c [] ++ if_used l.room (count_of c l.sessions);
  clear : (c : ℕ) → c < length l.fn.counts → count_of c (drop l.session-index l.sessions) ≡ 0 → slice_index l.counts c ≡ 0;
}
