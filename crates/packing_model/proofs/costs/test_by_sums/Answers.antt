use Rattle.std.proofs.Common.{◌≡◌, ◌<◌, ◌∙◌, sym, arith, length, false}
use Rattle.std.specs.Prelude.{pos, int_lt}
use Rattle.std.proofs.lemmas.Bool.{and_right}
use Rattle.numbers.specs.Below.{first_from_no}
use Rattle.meeting_patterns.specs.Pattern.{patterns_of}
use Rattle.duality.specs.Leaf.{costs, reduced}
use Rattle.duality.specs.Packing.{Packing, Weights, Stage, Fixing, is_free}
use Rattle.packing_model.specs.Built.{packing}
use Rattle.packing_model.specs.Nodes.{fixed_of, stage_at}
use Rattle.packing_model.specs.Closing.{counted}
use Rattle.packing_model.proofs.costs.test_by_sums.Goals as goal

pub loop-pattern-preserved : goal.loop-pattern-preserved
loop-pattern-preserved g c =
    let k : Packing = packing c.args.at.now.model.now in
    let w : Weights = counted (g.O.Objective.weight c.args.at.now.objective.now) (g.O.Objective.floor c.args.at.now.objective.now) in
    let s : Stage = stage_at c.args.at.now.level c.args.at.now.targets.now c.args.at.now.best c.args.at.now.pool.now in
    let f : Fixing = fixed_of c.args.at.now.fixing.now in
    let count = length (patterns_of c.args.at.now.model.now) in
    let pattern = c.loop-pattern.pattern in
    let l : pattern < count = omega arith in
    let miss : costs k w s f c.args.leaf.now pattern ≡ false = and_right (is_free k f pattern) (int_lt (pos 0) (reduced k w s c.args.leaf.now pattern)) (sym c.has_cost.ensures ∙ c.if-has_cost.false) in
    c.loop-pattern.invariant ∙ first_from_no (costs k w s f c.args.leaf.now) pattern count l miss

pub test_from-requires-clause-before : goal.test_from-requires-clause-before
test_from-requires-clause-before g c = c.loop-pattern.invariant
