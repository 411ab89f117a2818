use Rattle.packing_model.specs.Built.{packing}
use Rattle.packing_model.specs.RowMembers.{AreMembers}
use Rattle.packing_model.proofs.members.members_of.Given as goal

abbrev pub invariant-loop-j : goal.invariant-loop-j
invariant-loop-j l = AreMembers (packing l.m) l.patterns l.rows.items
