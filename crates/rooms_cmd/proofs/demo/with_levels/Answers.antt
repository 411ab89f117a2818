use Rattle.rooms_cmd.proofs.CheckLaws.{small_in}
use Rattle.rooms_cmd.proofs.demo.with_levels.Goals as goal

pub value_lines-requires : goal.value_lines-requires
value_lines-requires c = small_in c.args.certificate.now c.requires
