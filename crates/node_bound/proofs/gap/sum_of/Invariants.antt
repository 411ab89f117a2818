use Rattle.std.proofs.Common.{◌≡◌, ◌*◌, ◌^◌, ◌+ℤ◌, ℕ, drop, true}
use Rattle.std.specs.Prelude.{ℤ, pos, nat_lt}
use Rattle.std.specs.List.{list_all}
use Rattle.duality.specs.Sums.{weighed, IsWithin}
use Rattle.packing_model.specs.Closing.{counted}
use Rattle.search_nodes.specs.Points.{is_part}
use Rattle.node_bound.specs.Guessed.{entry_sum}
use Rattle.node_bound.proofs.gap.sum_of.Given as goal

abbrev pub invariant-loop-entry : goal.invariant-loop-entry
invariant-loop-entry g l = record {
  rest : l.sum +ℤ entry_sum (weighed (counted (g.O.Objective.weight l.objective) (g.O.Objective.floor l.objective)) l.what) (drop l.entry-index l.point.entries)
      ≡ entry_sum (weighed (counted (g.O.Objective.weight l.objective) (g.O.Objective.floor l.objective)) l.what) l.point.entries;
  small : IsWithin (l.entry-index * 10 ^ 33) l.sum;
  known : list_all (λ (e : ℕ × ℤ). nat_lt e.0 (g.O.Objective.count l.objective)) (drop l.entry-index l.point.entries) ≡ true;
  parts : list_all (is_part (pos (10 ^ 24))) (drop l.entry-index l.point.entries) ≡ true;
}
