use mir.Syntax.{w64}
use mir.Val.{to_z, of_z}
use Rattle.packing_model.proofs.SumLemmas.{plain64}
use Rattle.meeting_patterns.specs.Pattern.{patterns_of, AreCoursesKnown}
use Rattle.packing_model.proofs.NodeLemmas.{capped, emptied, weaker}
use Rattle.packing_model.specs.Nodes.{fixed_of}
use Rattle.packing_model.proofs.close.leaf_closes.Goals as goal

pub returns-clause-caps : goal.returns-clause-caps
returns-clause-caps c =
    let p = c.args.at.now.model.now in
    let known : AreCoursesKnown p = record { known = c.laws.ensures.problem.known } in
    let are = c.pattern_laws.ensures.listed p in
    weaker c.close_leaf.result c.close_leaf.ensures.caps (λ caps b legal has one zero.
    capped c.new-measured.result.model.now p c.args.at.now.level c.args.at.now.targets.now (to_z w64 (of_z w64 c.args.at.now.best)) c.args.at.now.best c.args.at.now.pool.now (fixed_of c.args.at.now.fixing.now) b c.new-measured.ensures (plain64 c.args.at.now.best c.requires.best)
    caps (c.packing_laws.ensures.packing p (patterns_of p) b are legal) (c.packing_laws.ensures.measured p (patterns_of p) b known are legal) has one zero)

pub returns-clause-empties : goal.returns-clause-empties
returns-clause-empties c =
    let p = c.args.at.now.model.now in
    let known : AreCoursesKnown p = record { known = c.laws.ensures.problem.known } in
    let are = c.pattern_laws.ensures.listed p in
    weaker c.close_leaf.result c.close_leaf.ensures.empties (λ empties scale b legal has one zero.
    emptied c.new-measured.result.model.now p c.args.at.now.level c.args.at.now.targets.now (to_z w64 (of_z w64 c.args.at.now.best)) c.args.at.now.pool.now (fixed_of c.args.at.now.fixing.now) b c.new-measured.ensures
    (empties scale) (c.packing_laws.ensures.packing p (patterns_of p) b are legal) (c.packing_laws.ensures.measured p (patterns_of p) b known are legal) has one zero)
