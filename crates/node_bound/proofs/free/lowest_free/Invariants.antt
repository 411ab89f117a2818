use Rattle.std.proofs.Common.{◌≡◌, ◌-◌}
use Rattle.numbers.specs.Below.{first_from}
use Rattle.duality.specs.Packing.{is_free}
use Rattle.packing_model.specs.Built.{packing}
use Rattle.packing_model.specs.Nodes.{fixed_of}
use Rattle.node_bound.proofs.free.lowest_free.Given as goal

abbrev pub invariant-loop-pattern : goal.invariant-loop-pattern
invariant-loop-pattern l = first_from (is_free (packing l.model) (fixed_of l.fixing)) 0 (packing l.model).count ≡ first_from (is_free (packing l.model) (fixed_of l.fixing)) l.pattern ((packing l.model).count - l.pattern)
