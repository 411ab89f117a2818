use Rattle.std.proofs.Common.{◌≡◌, length}
use Rattle.numbers.specs.Sums.{member}
use Rattle.packing_model.specs.NodeMarks.{OnlyMarks}
use Rattle.packing_model.proofs.node_marks.mark_each.Given as goal

abbrev pub invariant-loop-place : goal.invariant-loop-place
invariant-loop-place l = record {
  whole : length l.table ≡ length l.initial.table;
  only : OnlyMarks (λ p. member p l.places) l.table;
}
