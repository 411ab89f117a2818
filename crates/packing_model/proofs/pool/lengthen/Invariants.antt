use Rattle.std.proofs.Common.{◌-◌, ◌≤◌, length}
use Rattle.packing_model.specs.CutTable.{AreSameRows}
use Rattle.packing_model.proofs.pool.lengthen.Given as goal

abbrev pub invariant-more : goal.invariant-more
invariant-more l = record {
  longer : length l.initial.table.items ≤ length l.table.items;
  same : AreSameRows l.initial.table.items l.table.items;
}

abbrev pub decreases-more : goal.decreases-more
decreases-more l = l.count - length l.table.items
