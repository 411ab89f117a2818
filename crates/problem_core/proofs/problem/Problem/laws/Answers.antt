use Rattle.std.proofs.Common.{subst}
use Rattle.problem_core.specs.Valid.{IsProblem}
use Rattle.problem_core.proofs.ValidLemmas.{IsProblem-kept}
use Rattle.problem_core.proofs.problem.Problem.laws.Goals as goal

pub returns : goal.returns
returns c = subst IsProblem c.self.view_is (IsProblem-kept c.self.inside.parts c.self.invariant.0)
