use Rattle.std.proofs.Common.{◌∙◌}
use Rattle.packing_model.proofs.ListLemmas.{member_any}
use Rattle.packing_model.proofs.free.holds.Goals as goal

pub returns : goal.returns
returns c = c.contains.ensures.value ∙ member_any c.args.pattern c.args.patterns.now
