use Rattle.std.proofs.Common.{◌∙◌, arith}
use Rattle.room_model.proofs.TableLemmas.{sets-put, sets-whole}
use Rattle.room_model.proofs.sets.feature_sets.Goals as goal

pub loop-number-preserved : goal.loop-number-preserved
loop-number-preserved c =
    sets-put c.args.count c.args.features c.args.pairs.now c.loop-number.number-index c.loop-number.sets.items c.index.result.now c.requires.few c.requires.known c.loop-number-test.true c.index.ensures c.loop-number.invariant

pub returns : goal.returns
returns c = c.from.ensures ∙ sets-whole c.args.count c.args.pairs.now c.loop-number.number-index c.loop-number.sets.items (omega arith) c.loop-number.invariant
