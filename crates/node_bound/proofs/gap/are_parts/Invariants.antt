use Rattle.std.proofs.Common.{◌≡◌, drop}
use Rattle.std.specs.List.{list_all}
use Rattle.search_nodes.specs.Points.{is_part}
use Rattle.node_bound.proofs.gap.are_parts.Given as goal

abbrev pub invariant-loop-entry : goal.invariant-loop-entry
invariant-loop-entry l = list_all (is_part l.den) (drop l.entry-index l.entries) ≡ list_all (is_part l.den) l.entries
