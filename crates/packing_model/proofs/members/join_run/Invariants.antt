use Rattle.std.proofs.Common.{ℕ, ◌≡◌, ◌⊎◌}
use Rattle.packing_model.specs.RowMembers.{bit_in, HasMember}
use Rattle.packing_model.proofs.members.join_run.Given as goal

abbrev pub invariant-loop-row : goal.invariant-loop-row
invariant-loop-row l = (j : ℕ) → bit_in l.met j ≡ 1 → (bit_in l.initial.met j ≡ 1) ⊎ HasMember l.rows l.fn.run j
