use Rattle.std.proofs.Common.{◌∙◌, sym, ap}
use Rattle.problem_core.specs.Faults.{first_fault}
use Rattle.problem_core.proofs.FaultLemmas.{legal_where_none}
use Rattle.problem_core.proofs.problem.Problem.first_fault.Goals as goal

pub returns-clause-fault : goal.returns-clause-fault
returns-clause-fault c = c.fault_by_table.ensures ∙ ap (first_fault c.args.self.now) c.as_slice.ensures

pub returns-clause-none : goal.returns-clause-none
returns-clause-none c = legal_where_none c.args.self.now c.args.a.now.entries c.fault_by_table.result c.requires (sym (returns-clause-fault c))
