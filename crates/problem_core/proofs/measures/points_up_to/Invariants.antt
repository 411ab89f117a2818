use Rattle.std.proofs.Common.{◌≡◌, drop}
use Rattle.std.specs.Prelude.{pos}
use Rattle.std.specs.List.{AllByRecursion}
use Rattle.problem_core.specs.Measures.{points_up_to}
use Rattle.problem_core.specs.Kept.{IsWithin}
use Rattle.problem_core.proofs.measures.points_up_to.Given as goal

abbrev pub invariant-loop-row : goal.invariant-loop-row
invariant-loop-row l = record {
  rest : points_up_to l.x l.points (drop l.row-index l.rows) ≡ points_up_to l.x (pos 0) l.rows;
  left : AllByRecursion (λ row. IsWithin (pos 1000000) row.1) (drop l.row-index l.rows);
  small : IsWithin (pos 1000000) l.points;
}
