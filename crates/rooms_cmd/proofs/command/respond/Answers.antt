use Rattle.std.proofs.Common.{rules}
use Rattle.rooms_cmd.proofs.RunLaws.{answer_printed}
use Rattle.rooms_cmd.proofs.command.respond.Goals as goal

pub returns-in-Ok-clause-ends : goal.returns-in-Ok-clause-ends
returns-in-Ok-clause-ends g c = answer_printed _ _ _ _ _ _ _ (search rules) c.print.ensures.ends

pub returns-in-Err-Answer-clause-ends : goal.returns-in-Err-Answer-clause-ends
returns-in-Err-Answer-clause-ends g c = answer_printed _ _ _ _ _ _ _ (search rules) c.print-in-Err-Answer.ensures.ends
