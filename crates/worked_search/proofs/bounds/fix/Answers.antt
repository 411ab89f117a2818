use Rattle.worked_search.proofs.bounds.fix.Goals as goal

pub is_free-requires-clause-fixing : goal.is_free-requires-clause-fixing
is_free-requires-clause-fixing c = c.walk_laws.ensures.of_packing c.args.model.now c.args.walk.now c.requires
