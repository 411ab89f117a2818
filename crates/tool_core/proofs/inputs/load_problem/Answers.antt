use Rattle.tool_core.proofs.FaultLaws.{long_fault_known}
use Rattle.tool_core.proofs.inputs.load_problem.Goals as goal

pub long_fault-requires-clause-known : goal.long_fault-requires-clause-known
long_fault-requires-clause-known c = long_fault_known c.args.instance.now c.args.times.now c.args.measures.now c.in-Err-Long.fault (rw c.in-Err-Long.field-0-is at c.in-Err-Long.ensures)
