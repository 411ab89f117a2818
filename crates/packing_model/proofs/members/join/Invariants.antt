use Rattle.std.proofs.Common.{ℕ, ◌≡◌, ◌⊎◌}
use Rattle.packing_model.specs.RowMembers.{bit_in}
use Rattle.packing_model.proofs.members.join.Given as goal

abbrev pub invariant-loop-word : goal.invariant-loop-word
invariant-loop-word l = (j : ℕ) → bit_in l.met j ≡ 1 → (bit_in l.initial.met j ≡ 1) ⊎ (bit_in l.bits j ≡ 1)
