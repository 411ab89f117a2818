use Rattle.packing_model.specs.Built.{packing}
use Rattle.clique_cuts.proofs.rounding.walk_over.Goals as goal

pub loop-entry-init : goal.loop-entry-init
loop-entry-init c = c.new-walk.ensures.walk (packing c.args.m.now)
