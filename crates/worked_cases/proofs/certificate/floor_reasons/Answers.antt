use Rattle.packing_model.specs.Built.{packing}
use Rattle.worked_cases.proofs.certificate.floor_reasons.Goals as goal

pub judge_node-requires-clause-walk : goal.judge_node-requires-clause-walk
judge_node-requires-clause-walk c = c.new-walk.ensures.walk (packing c.args.model.now)
