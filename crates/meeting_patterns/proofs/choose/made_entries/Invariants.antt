use Rattle.std.proofs.Common.{ℕ, ◌≡◌, ◌<◌, ◌≤◌, length, drop}
use Rattle.std.specs.Prelude.{slice_index}
use Rattle.meeting_patterns.specs.Made.{made}
use Rattle.meeting_patterns.proofs.choose.made_entries.Given as goal

abbrev pub decreases-loop-left : goal.decreases-loop-left
decreases-loop-left l = l.left

abbrev pub invariant-loop-left : goal.invariant-loop-left
invariant-loop-left l = record {
  within : l.left ≤ length l.list;
  one_each : length l.entries.items ≡ length l.p.events;
  made_so : (e : ℕ) → e < length l.p.events → slice_index l.entries.items e ≡ made l.p l.s (drop l.left l.list) e;
}
