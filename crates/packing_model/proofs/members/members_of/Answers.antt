use Rattle.std.proofs.Common.{◌∙◌, arith}
use Rattle.packing_model.specs.Built.{packing}
use Rattle.packing_model.proofs.BitLemmas.{members_more, no_members_yet}
use Rattle.packing_model.proofs.members.members_of.Goals as goal

pub loop-j-init : goal.loop-j-init
loop-j-init c = no_members_yet (packing c.args.m.now) c.args.patterns.now c.in_ok-rows.rows.items (c.in_ok-rows.ensures.whole ∙ c.base_len.ensures.count) c.in_ok-rows.ensures.none

pub loop-j-preserved : goal.loop-j-preserved
loop-j-preserved c =
    members_more (packing c.args.m.now) c.args.patterns.now c.loop-j.rows.items c.add_member.new.rows.items c.base_runs.result.now c.loop-j.j (omega arith) c.base_runs.ensures c.loop-j.invariant
    c.add_member.ensures.whole c.add_member.ensures.each
