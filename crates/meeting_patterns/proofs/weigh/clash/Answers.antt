use Rattle.std.proofs.Common.{◌∙◌}
use Rattle.meeting_patterns.proofs.WeighLemmas.{clash_in_room}
use Rattle.meeting_patterns.proofs.weigh.clash.Goals as goal

pub returns-else-a-b-2 : goal.returns-else-a-b-2
returns-else-a-b-2 c = c.share_a_slot.ensures ∙ clash_in_room c.args.p.now c.args.a c.args.b c.if-a-b.false c.if-a-b-2.false
