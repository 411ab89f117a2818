use Rattle.std.proofs.Common.{◌&&◌}
use Rattle.std.specs.Prelude.{nat_le, nat_lt}
use Rattle.search_nodes.specs.Marks.{Fills}
use Rattle.search_nodes.proofs.marks.fill_run.Given as goal

abbrev pub invariant-loop-row : goal.invariant-loop-row
invariant-loop-row l = Fills l.pattern (λ r. nat_le l.fn.run.first r && nat_lt r l.row) l.initial.fillers.items l.fillers.items
