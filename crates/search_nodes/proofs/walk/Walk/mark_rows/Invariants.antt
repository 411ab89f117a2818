use Rattle.std.proofs.Common.{◌≡◌, ◌-◌, length}
use Rattle.packing_model.specs.Built.{packing}
use Rattle.search_nodes.specs.Paths.{IsWalk}
use Rattle.search_nodes.proofs.walk.Walk.mark_rows.Given as goal

abbrev pub invariant-taken : goal.invariant-taken
invariant-taken l = record {
  walk : IsWalk (packing l.model) l.self;
  path : l.self.path ≡ l.initial.self.path;
  fixing : l.self.fixing ≡ l.initial.self.fixing;
}

abbrev pub decreases-taken : goal.decreases-taken
decreases-taken l = length l.self.fixing.one - l.self.marks.count
