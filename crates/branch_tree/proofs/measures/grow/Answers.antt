use Rattle.std.proofs.Common.{refl, ap, ◌∙◌}
use Rattle.problem_core.specs.Facts.{Facts}
use Rattle.problem_core.specs.Measures.{measures}
use Rattle.branch_tree.proofs.MeasuredLaws.{grows_at, grows_to, logs_at, logs_to, start_held, start_level, value_read}
use Rattle.branch_tree.proofs.measures.grow.Goals as goal

pub returns-clause-grows : goal.returns-clause-grows
returns-clause-grows g c =
    let p = c.args.model.now in
    let grown = c.in_ok-grown.grown in
    let values = c.values-values.ensures.values ∙ ap (λ (f : Facts). measures f c.args.best.entries) c.problem.ensures in
    let read = value_read p c.args.level c.values-values.result c.args.best.entries c.requires.low c.requires.high values c.requires.legal c.measured_laws.ensures.small in
    grows_to p c.args.level c.args.best.entries c.args.pool.now c.grow_level.new.pool c.args.budget.now.left c.grow_level.new.budget.left _ c.in-Some.held.choice grown.proved c.ended.result
    (grows_at p c.args.level _ c.values-values.result c.args.best.entries _ c.in-Some.held c.requires.low c.requires.high values refl refl read c.measured_laws.ensures.weighs
    c.args.pool.now c.grow_level.new.pool c.args.budget.now.left c.grow_level.new.budget.left grown c.sizes.ensures.patterns c.sizes.ensures.rows c.sizes.ensures.cuts c.in_ok-grown.ensures.grows c.in-Some.is)
    c.ended.ensures

pub returns-clause-logged : goal.returns-clause-logged
returns-clause-logged g c =
    let p = c.args.model.now in
    let grown = c.in_ok-grown.grown in
    let values = c.values-values.ensures.values ∙ ap (λ (f : Facts). measures f c.args.best.entries) c.problem.ensures in
    let read = value_read p c.args.level c.values-values.result c.args.best.entries c.requires.low c.requires.high values c.requires.legal c.measured_laws.ensures.small in
    logs_to p c.args.level c.args.best.entries c.args.pool.now c.grow_level.new.pool c.args.log.now c.grow_level.new.log (g.A.Arith.wides c.args.arith.now) (g.A.Arith.wides c.grow_level.new.arith) c.args.steps.now c.grow_level.new.steps _ c.in-Some.held.choice grown.proved c.ended.result
    (logs_at p c.args.level _ c.values-values.result c.args.best.entries _ c.in-Some.held c.requires.low c.requires.high values refl refl read c.measured_laws.ensures.weighs
    c.args.pool.now c.grow_level.new.pool c.args.log.now c.grow_level.new.log (g.A.Arith.wides c.args.arith.now) (g.A.Arith.wides c.grow_level.new.arith) c.args.steps.now c.grow_level.new.steps grown c.in_ok-grown.ensures.grows.held_is c.in_ok-grown.ensures.logged c.in-Some.is)
    c.ended.ensures

pub grow_level-requires-clause-level : goal.grow_level-requires-clause-level
grow_level-requires-clause-level g c =
    let values = c.values-values.ensures.values ∙ ap (λ (f : Facts). measures f c.args.best.entries) c.problem.ensures in
    start_level c.args.model.now c.args.level _ c.values-values.result c.args.best.entries c.requires.low c.requires.high values refl c.requires.legal c.measured_laws.ensures.weighs c.measured_laws.ensures.small

pub grow_level-requires-clause-held : goal.grow_level-requires-clause-held
grow_level-requires-clause-held g c =
    let values = c.values-values.ensures.values ∙ ap (λ (f : Facts). measures f c.args.best.entries) c.problem.ensures in
    let read = value_read c.args.model.now c.args.level c.values-values.result c.args.best.entries c.requires.low c.requires.high values c.requires.legal c.measured_laws.ensures.small in
    start_held c.args.model.now c.args.level _ c.values-values.result c.args.best.entries _ c.requires.low c.requires.high values refl refl read c.requires.legal c.measured_laws.ensures.weighs
