use Rattle.clique_cuts.proofs.rounding.take_free.Goals as goal

pub is_free-requires-clause-fixing : goal.is_free-requires-clause-fixing
is_free-requires-clause-fixing c = c.walk_laws.ensures.of_packing c.args.m.now c.args.walk.now c.requires.walk
