use Rattle.std.proofs.Common.{◌≡◌, ◌∙◌, sym, ap, arith, length, take, get_or, true, false}
use Rattle.std.specs.List.{list_all}
use Rattle.std.proofs.lemmas.List.{length-take-le, take_all}
use Rattle.duality.specs.Packing.{is_there, has_sign}
use Rattle.duality.specs.Sums.{no_term}
use Rattle.packing_model.specs.Nodes.{ok_unless}
use Rattle.duality.specs.Packing.{Packing, Weights, Stage}
use Rattle.packing_model.specs.Built.{packing}
use Rattle.packing_model.specs.Nodes.{stage_at}
use Rattle.packing_model.specs.Closing.{counted}
use Rattle.packing_model.proofs.NodeLemmas.{few_terms, rises-take, sign_fault, term_plain}
use Rattle.packing_model.proofs.close.test_terms.Goals as goal

pub overflow_cast-at_term : goal.overflow_cast-at_term
overflow_cast-at_term g c =
    let k : Packing = packing c.args.at.now.model.now in
    let w : Weights = counted (g.O.Objective.weight c.args.at.now.objective.now) (g.O.Objective.floor c.args.at.now.objective.now) in
    let s : Stage = stage_at c.args.at.now.level c.args.at.now.targets.now c.args.at.now.best c.args.at.now.pool.now in
    let i = c.loop-i.i in
    let few = few_terms k w s (take i c.args.terms.now) c.requires.few_rows c.requires.few_cuts c.requires.high (rises-take c.args.terms.now i c.requires.rising) c.loop-i.invariant.there in
    let all : length (take i c.args.terms.now) ≡ i = length-take-le i c.args.terms.now (omega arith) in
    omega (arith, few, all)

pub returns-then-not-has_sign-clause-verdict : goal.returns-then-not-has_sign-clause-verdict
returns-then-not-has_sign-clause-verdict g c =
    let k : Packing = packing c.args.at.now.model.now in
    let w : Weights = counted (g.O.Objective.weight c.args.at.now.objective.now) (g.O.Objective.floor c.args.at.now.objective.now) in
    let s : Stage = stage_at c.args.at.now.level c.args.at.now.targets.now c.args.at.now.best c.args.at.now.pool.now in
    let i = c.loop-i.i in
    let there : is_there k w s (get_or c.args.terms.now i no_term).row ≡ true = cc (c.is_there.ensures, c.if-not-is_there.false) in
    let sign : has_sign (get_or c.args.terms.now i no_term).row (get_or c.args.terms.now i no_term).times ≡ false =
    ap (has_sign (get_or c.args.terms.now i no_term).row) (sym (term_plain c.args.terms.now i c.requires.small (omega arith))) ∙ sym c.has_sign.ensures ∙ c.if-not-has_sign.true in
    ap ok_unless (sym (sign_fault k w s c.args.terms.now i (omega arith) there sign) ∙ c.loop-i.invariant.rest)

pub returns-clause-few : goal.returns-clause-few
returns-clause-few g c =
    let k : Packing = packing c.args.at.now.model.now in
    let w : Weights = counted (g.O.Objective.weight c.args.at.now.objective.now) (g.O.Objective.floor c.args.at.now.objective.now) in
    let s : Stage = stage_at c.args.at.now.level c.args.at.now.targets.now c.args.at.now.best c.args.at.now.pool.now in
    few_terms k w s c.args.terms.now c.requires.few_rows c.requires.few_cuts c.requires.high c.requires.rising
    (ap (list_all (λ t. is_there k w s t.row)) (sym (take_all c.loop-i.i c.args.terms.now (omega arith))) ∙ c.loop-i.invariant.there)
