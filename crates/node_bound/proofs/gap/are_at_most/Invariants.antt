use Rattle.std.proofs.Common.{◌≡◌, drop}
use Rattle.std.specs.Prelude.{int_le}
use Rattle.std.specs.List.{list_all}
use Rattle.node_bound.proofs.gap.are_at_most.Given as goal

abbrev pub invariant-loop-number : goal.invariant-loop-number
invariant-loop-number l = list_all (λ z. int_le z l.bound) (drop l.number-index l.numbers) ≡ list_all (λ z. int_le z l.bound) l.numbers
