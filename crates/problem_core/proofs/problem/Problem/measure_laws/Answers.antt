use Rattle.std.proofs.Common.{subst, ℕ, List}
use Rattle.std.specs.Prelude.{pos}
use Rattle.problem_core.specs.Facts.{Facts}
use Rattle.problem_core.specs.Choice.{IsLegal}
use Rattle.problem_core.specs.Measures.{measure}
use Rattle.problem_core.specs.Kept.{IsWithin}
use Rattle.problem_core.proofs.MeasureLemmas.{measure_small}
use Rattle.problem_core.proofs.problem.Problem.measure_laws.Goals as goal

pub returns : goal.returns
returns c = subst (λ (p : Facts). (k : ℕ) (a : List ℕ) → IsLegal p a → IsWithin (pos 192000000000) (measure p k a)) c.self.view_is (measure_small c.self.inside.parts c.self.invariant.0)
