use Rattle.std.proofs.Common.{sym, get_or}
use mir.Syntax.{w128}
use mir.Val.{to_z}
use Rattle.packing_model.specs.Built.{packing}
use Rattle.clique_cuts.proofs.GivenLaws.{part_plain, sum_fits, sum_more, sum_over}
use Rattle.clique_cuts.proofs.cuts.exceeds.Goals as goal

pub overflow_add-sum : goal.overflow_add-sum
overflow_add-sum c =
    let k = packing c.args.m.now in
    let x = c.args.point.now in
    let i = c.loop-pattern.pattern-index in
    let p = get_or c.args.patterns.now i 0 in
    let part = part_plain k x c.as_slice.result.now p c.entry_of-sum.result c.requires c.as_slice.ensures c.entry_of-sum.ensures in
    sum_fits k x c.args.patterns.now i p (to_z w128 c.loop-pattern.sum-bits) _ c.requires c.loop-pattern.invariant part

pub returns-then-point-sum : goal.returns-then-point-sum
returns-then-point-sum c =
    let k = packing c.args.m.now in
    let x = c.args.point.now in
    let i = c.loop-pattern.pattern-index in
    let p = get_or c.args.patterns.now i 0 in
    let part = part_plain k x c.as_slice.result.now p c.entry_of-sum.result c.requires c.as_slice.ensures c.entry_of-sum.ensures in
    sym (sum_over k x c.args.patterns.now i (to_z w128 c.loop-pattern.sum-bits) _ c.requires c.loop-pattern-test.true c.loop-pattern.invariant part c.if-point-sum.true)

pub loop-pattern-preserved : goal.loop-pattern-preserved
loop-pattern-preserved c =
    let k = packing c.args.m.now in
    let x = c.args.point.now in
    let i = c.loop-pattern.pattern-index in
    let p = get_or c.args.patterns.now i 0 in
    let part = part_plain k x c.as_slice.result.now p c.entry_of-sum.result c.requires c.as_slice.ensures c.entry_of-sum.ensures in
    sum_more k x c.args.patterns.now i (to_z w128 c.loop-pattern.sum-bits) _ c.requires c.loop-pattern-test.true c.loop-pattern.invariant part c.if-point-sum.false
