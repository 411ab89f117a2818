use Rattle.std.proofs.Common.{◌≡◌, ◌*◌, ◌^◌, ◌+ℤ◌, drop}
use Rattle.numbers.specs.Sums.{total}
use Rattle.duality.specs.Sums.{clique_priced, IsWithin}
use Rattle.packing_model.specs.Built.{packing}
use Rattle.packing_model.specs.Nodes.{stage_at}
use Rattle.packing_model.specs.Closing.{counted}
use Rattle.packing_model.proofs.close.cliques_of.Given as goal

abbrev pub invariant-loop-pattern : goal.invariant-loop-pattern
invariant-loop-pattern g l = record {
  rest : l.sum +ℤ total (clique_priced (packing l.at.model.now) (counted (g.O.Objective.weight l.at.objective.now) (g.O.Objective.floor l.at.objective.now)) (stage_at l.at.level l.at.targets.now l.at.best l.at.pool.now) l.terms) (drop l.pattern-index l.taken)
      ≡ total (clique_priced (packing l.at.model.now) (counted (g.O.Objective.weight l.at.objective.now) (g.O.Objective.floor l.at.objective.now)) (stage_at l.at.level l.at.targets.now l.at.best l.at.pool.now) l.terms) l.taken;
  small : IsWithin (l.pattern-index * (5000 * 10 ^ 24)) l.sum;
}
