use Rattle.std.proofs.Common.{ℕ, ◌≡◌, ◌-◌, ◌≤◌, length}
use Rattle.std.specs.Prelude.{slice_index_or}
use Rattle.search_nodes.proofs.marks.lengthen.Given as goal

abbrev pub invariant-more : goal.invariant-more
invariant-more g l = record {
  longer : length l.initial.list.items ≤ length l.list.items;
  same : (i : ℕ) → slice_index_or l.list.items i l.filler ≡ slice_index_or l.initial.list.items i l.filler;
}

abbrev pub decreases-more : goal.decreases-more
decreases-more g l = l.count - length l.list.items
