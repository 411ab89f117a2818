use Rattle.std.proofs.Common.{rules}
use Rattle.rooms_cmd.proofs.RunLaws.{inputs_kept}
use Rattle.rooms_cmd.proofs.command.carry_out.Goals as goal

pub returns-in-Solve-clause-inputs : goal.returns-in-Solve-clause-inputs
returns-in-Solve-clause-inputs g c = inputs_kept _ c.args.command.now c.requires.apart (search rules)

pub returns-in-Recert-clause-inputs : goal.returns-in-Recert-clause-inputs
returns-in-Recert-clause-inputs g c = inputs_kept _ c.args.command.now c.requires.apart (search rules)
