use Rattle.std.proofs.Common.{ℕ, ◌≡◌, ◌+◌, length, take, cond}
use Rattle.std.specs.Prelude.{slice_index}
use Rattle.numbers.specs.Sums.{member}
use Rattle.packing_model.proofs.rows.add_counts.Given as goal

abbrev pub invariant-loop-key : goal.invariant-loop-key
invariant-loop-key l = record {
  whole : length l.counts.items ≡ length l.fn.counts.items;
  each : (k : ℕ) → slice_index l.counts.items k ≡ cond (member k (take l.key-index l.keys)) (slice_index l.fn.counts.items k + 1) (slice_index l.fn.counts.items k);
}
