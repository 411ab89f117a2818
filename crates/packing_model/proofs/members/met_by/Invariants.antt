use Rattle.std.proofs.Common.{ℕ, ◌≡◌}
use Rattle.packing_model.specs.RowMembers.{bit_in, MeetsMember}
use Rattle.packing_model.proofs.members.met_by.Given as goal

abbrev pub invariant-loop-run : goal.invariant-loop-run
invariant-loop-run l = (j : ℕ) → bit_in l.met j ≡ 1 → MeetsMember l.rows l.runs j
