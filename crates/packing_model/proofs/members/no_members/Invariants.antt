use Rattle.std.proofs.Common.{ℕ, ◌≡◌, ◌≤◌, ◌-◌, [], length}
use Rattle.std.specs.Prelude.{slice_index_or}
use Rattle.packing_model.specs.RowMembers.{bit_in}
use Rattle.packing_model.proofs.members.no_members.Given as goal

abbrev pub invariant-rows : goal.invariant-rows
invariant-rows l = record {
  few : length l.rows.items ≤ l.count;
  none : (r j : ℕ) → bit_in (slice_index_or l.rows.items r []) j ≡ 0;
}

abbrev pub decreases-rows : goal.decreases-rows
decreases-rows l = l.count - length l.rows.items
