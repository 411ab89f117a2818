use Rattle.room_model.proofs.TableLemmas.{AreSets}
use Rattle.room_model.proofs.sets.feature_sets.Given as goal

abbrev pub invariant-loop-number : goal.invariant-loop-number
invariant-loop-number l = AreSets l.count l.pairs l.number-index l.sets.items
