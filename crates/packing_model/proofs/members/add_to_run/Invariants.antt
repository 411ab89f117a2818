use Rattle.std.proofs.Common.{ℕ, ◌≡◌, ◌⊎◌, [], true, length}
use Rattle.std.specs.Prelude.{slice_index_or}
use Rattle.packing_model.specs.NodeMarks.{in_run}
use Rattle.packing_model.specs.RowMembers.{bit_in}
use Rattle.packing_model.proofs.members.add_to_run.Given as goal

abbrev pub invariant-loop-row : goal.invariant-loop-row
invariant-loop-row l = record {
  whole : length l.rows.items ≡ length l.initial.rows.items;
  each : (r i : ℕ) → bit_in (slice_index_or l.rows.items r []) i ≡ 1 → (bit_in (slice_index_or l.initial.rows.items r []) i ≡ 1) ⊎ ((i ≡ l.j) × (in_run l.fn.run r ≡ true));
}
