use Rattle.std.proofs.Common.{◌≡◌, ◌<◌, ◌∙◌, suc, sym, ap, arith, length, true, false, add-one}
use Rattle.numbers.specs.Below.{first_from, first_from_yes, first_from_no}
use Rattle.meeting_patterns.specs.Pattern.{patterns_of}
use Rattle.duality.specs.Leaf.{costs, cost_at}
use Rattle.packing_model.specs.Nodes.{ok_unless}
use Rattle.duality.specs.Packing.{Packing, Weights, Stage, Fixing}
use Rattle.packing_model.specs.Built.{packing}
use Rattle.packing_model.specs.Nodes.{fixed_of, stage_at}
use Rattle.packing_model.specs.Closing.{counted}
use Rattle.packing_model.proofs.costs.test_by_marks.Goals as goal

pub returns-then-is_costly : goal.returns-then-is_costly
returns-then-is_costly g c =
    let k : Packing = packing c.args.at.now.model.now in
    let w : Weights = counted (g.O.Objective.weight c.args.at.now.objective.now) (g.O.Objective.floor c.args.at.now.objective.now) in
    let s : Stage = stage_at c.args.at.now.level c.args.at.now.targets.now c.args.at.now.best c.args.at.now.pool.now in
    let f : Fixing = fixed_of c.args.at.now.fixing.now in
    let count = length (patterns_of c.args.at.now.model.now) in
    let pattern = c.loop-pattern.pattern in
    let l : pattern < count = omega arith in
    let hit : costs k w s f c.args.leaf.now pattern ≡ true = sym c.is_costly.ensures ∙ c.if-is_costly.true in
    let found : first_from (costs k w s f c.args.leaf.now) 0 count ≡ suc pattern = c.loop-pattern.invariant ∙ first_from_yes (costs k w s f c.args.leaf.now) pattern count l hit ∙ add-one pattern in
    ap (λ x. ok_unless (cost_at x)) (sym found)

pub loop-pattern-preserved : goal.loop-pattern-preserved
loop-pattern-preserved g c =
    let k : Packing = packing c.args.at.now.model.now in
    let w : Weights = counted (g.O.Objective.weight c.args.at.now.objective.now) (g.O.Objective.floor c.args.at.now.objective.now) in
    let s : Stage = stage_at c.args.at.now.level c.args.at.now.targets.now c.args.at.now.best c.args.at.now.pool.now in
    let f : Fixing = fixed_of c.args.at.now.fixing.now in
    let count = length (patterns_of c.args.at.now.model.now) in
    let pattern = c.loop-pattern.pattern in
    let l : pattern < count = omega arith in
    let miss : costs k w s f c.args.leaf.now pattern ≡ false = sym c.is_costly.ensures ∙ c.if-is_costly.false in
    c.loop-pattern.invariant ∙ first_from_no (costs k w s f c.args.leaf.now) pattern count l miss
