use Rattle.packing_model.specs.Built.{packing}
use Rattle.worked_search.proofs.bounds.judge_node.Goals as goal

pub fix_each-requires : goal.fix_each-requires
fix_each-requires g c = c.new-walk.ensures.walk (packing c.args.model.now)

pub judge_fixed-requires : goal.judge_fixed-requires
judge_fixed-requires g c = c.walk_laws.ensures.valid c.args.model.now c.fix_each-2.new.walk c.in_ok-fix_each-2.ensures
