use Rattle.packing_model.specs.Built.{packing}
use Rattle.worked_cases.proofs.fixed.known_at.Goals as goal

pub fix_each-requires : goal.fix_each-requires
fix_each-requires c = c.new-walk.ensures.walk (packing c.args.model.now)

pub lowest_free-requires : goal.lowest_free-requires
lowest_free-requires c = c.walk_laws.ensures.of_packing c.args.model.now c.fix_each-2.new.walk c.in_ok-fix_each-2.ensures

pub decide-requires-clause-fixing : goal.decide-requires-clause-fixing
decide-requires-clause-fixing c = c.walk_laws.ensures.valid c.args.model.now c.fix_each-2.new.walk c.in_ok-fix_each-2.ensures
