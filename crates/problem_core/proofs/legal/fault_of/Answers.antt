use Rattle.std.proofs.Common.{◌∙◌, sym}
use Rattle.problem_core.proofs.FaultLemmas.{no_fault_taken}
use Rattle.problem_core.proofs.legal.fault_of.Goals as goal

pub returns-then-can_take : goal.returns-then-can_take
returns-then-can_take c =
    sym (no_fault_taken c.args.p.now c.args.entries.now c.args.event c.if-entry-eq0.false (sym (c.can_take.ensures c.args.entries.now c.requires.taken) ∙ c.if-can_take.true))
