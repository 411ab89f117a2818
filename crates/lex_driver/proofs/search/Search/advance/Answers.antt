use Rattle.std.proofs.Common.{refl, ap, ◌∙◌, ◌++◌, ◌∷◌, []}
use Rattle.std.specs.Prelude.{ℤ}
use Rattle.duality.specs.Packing.{Weights}
use Rattle.packing_model.specs.Closing.{counted}
use Rattle.lex_driver.proofs.AccountLaws.{account_on, account_stop}
use Rattle.lex_driver.proofs.LevelLaws.{advance_on, advance_stop, behind_level, plain_value}
use Rattle.lex_driver.proofs.search.Search.advance.Goals as goal

pub returns-then-not-proved-clause-advances : goal.returns-then-not-proved-clause-advances
returns-then-not-proved-clause-advances g c =
    let p = c.args.model.now in
    let w : Weights = counted (g.O.Objective.weight c.args.objective.now) (g.O.Objective.floor c.args.objective.now) in
    let grown = c.in_ok-grown.grown in
    advance_stop p w (g.O.Objective.count c.args.objective.now) (g.O.Objective.levels c.args.objective.now) c.requires.levels c.args.self _ c.args.level c.as_slice.result.now _ grown c.in-Some.held
    c.requires.kept c.as_slice.ensures c.requires.next c.requires.high c.in_ok-grown.ensures.grows c.in-Some.is c.if-not-proved.true refl refl refl

pub returns-clause-advances : goal.returns-clause-advances
returns-clause-advances g c =
    let p = c.args.model.now in
    let w : Weights = counted (g.O.Objective.weight c.args.objective.now) (g.O.Objective.floor c.args.objective.now) in
    let grown = c.in_ok-grown.grown in
    let b = behind_level p w (g.O.Objective.count c.args.objective.now) (g.O.Objective.levels c.args.objective.now) c.requires.levels c.args.self c.args.level c.as_slice.result.now _ c.grow_tree.new.pool c.grow_tree.new.budget.left grown c.in-Some.held c.requires.kept c.as_slice.ensures c.requires.next c.requires.high c.in_ok-grown.ensures.grows c.in-Some.is in
    let pushed = c.in_ok-push-2.ensures.ok ∙ ap (λ (v : ℤ). c.args.self.targets ++ (v ∷ [])) (plain_value c.in-Some.held.value b.2) in
    advance_on p w (g.O.Objective.count c.args.objective.now) (g.O.Objective.levels c.args.objective.now) c.requires.levels c.args.self _ c.args.level c.as_slice.result.now _ grown c.in-Some.held
    c.requires.kept c.as_slice.ensures c.requires.next c.requires.high c.in_ok-grown.ensures.grows c.in-Some.is c.if-not-proved.false c.in_ok-push.ensures.ok pushed refl

pub returns-then-not-proved-clause-logged : goal.returns-then-not-proved-clause-logged
returns-then-not-proved-clause-logged g c =
    let p = c.args.model.now in
    let w : Weights = counted (g.O.Objective.weight c.args.objective.now) (g.O.Objective.floor c.args.objective.now) in
    let grown = c.in_ok-grown.grown in
    let b = behind_level p w (g.O.Objective.count c.args.objective.now) (g.O.Objective.levels c.args.objective.now) c.requires.levels c.args.self c.args.level c.as_slice.result.now _ c.grow_tree.new.pool c.grow_tree.new.budget.left grown c.in-Some.held c.requires.kept c.as_slice.ensures c.requires.next c.requires.high c.in_ok-grown.ensures.grows c.in-Some.is in
    let goes = c.in_ok-grown.ensures.grows.goes in
    account_stop p w c.args.self _ c.args.level c.as_slice.result.now _ grown c.in-Some.held (g.A.Arith.wides c.args.arith.now) c.args.steps.now (g.A.Arith.wides c.grow_tree.new.arith) c.grow_tree.new.steps c.requires.kept.are.one_each goes.kept c.as_slice.ensures c.requires.next c.in-Some.is c.in_ok-grown.ensures.logged c.if-not-proved.true refl refl b.1 refl

pub returns-clause-logged : goal.returns-clause-logged
returns-clause-logged g c =
    let p = c.args.model.now in
    let w : Weights = counted (g.O.Objective.weight c.args.objective.now) (g.O.Objective.floor c.args.objective.now) in
    let grown = c.in_ok-grown.grown in
    let b = behind_level p w (g.O.Objective.count c.args.objective.now) (g.O.Objective.levels c.args.objective.now) c.requires.levels c.args.self c.args.level c.as_slice.result.now _ c.grow_tree.new.pool c.grow_tree.new.budget.left grown c.in-Some.held c.requires.kept c.as_slice.ensures c.requires.next c.requires.high c.in_ok-grown.ensures.grows c.in-Some.is in
    let goes = c.in_ok-grown.ensures.grows.goes in
    let pushed = c.in_ok-push-2.ensures.ok ∙ ap (λ (v : ℤ). c.args.self.targets ++ (v ∷ [])) (plain_value c.in-Some.held.value b.2) in
    account_on p w c.args.self _ c.args.level c.as_slice.result.now _ grown c.in-Some.held (g.A.Arith.wides c.args.arith.now) c.args.steps.now (g.A.Arith.wides c.grow_tree.new.arith) c.grow_tree.new.steps c.requires.kept.are.one_each goes.kept c.as_slice.ensures c.requires.next c.in-Some.is c.in_ok-grown.ensures.logged c.if-not-proved.false c.in_ok-push.ensures.ok pushed
