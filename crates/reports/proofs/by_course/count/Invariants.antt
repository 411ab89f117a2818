use Rattle.std.proofs.Common.{ℕ, ◌≡◌, ◌<◌, length, take, drop, true}
use Rattle.std.specs.Prelude.{slice_index}
use Rattle.reports.specs.Groups.{are_of, count_of}
use Rattle.reports.proofs.by_course.count.Given as goal

abbrev pub invariant-loop-session : goal.invariant-loop-session
invariant-loop-session l = record {
  whole : length l.counts ≡ length l.fn.counts;
  known : are_of (length l.fn.counts) (drop l.session-index l.sessions) ≡ true;
  each : (c : ℕ) → c < length l.fn.counts → slice_index l.counts c ≡ count_of c (take l.session-index l.sessions);
}
