use Rattle.std.proofs.Common.{◌≡◌, ◌∙◌, ap, sym}
use Rattle.std.specs.Prelude.{None, pos}
use Rattle.duality.specs.Leaf.{terms_fault, cost_fault, bound_fault}
use Rattle.duality.specs.Packing.{Packing, Weights, Stage, Fixing}
use Rattle.packing_model.specs.Built.{packing}
use Rattle.packing_model.specs.Nodes.{fixed_of, stage_at, ok_unless}
use Rattle.packing_model.specs.Closing.{counted, Caps, Empties}
use Rattle.packing_model.proofs.NodeLemmas.{none_means, ok_means, none_joined}
use Rattle.packing_model.proofs.close.close_leaf.Goals as goal

pub returns-clause-caps : goal.returns-clause-caps
returns-clause-caps g c =
    let k : Packing = packing c.args.at.now.model.now in
    let w : Weights = counted (g.O.Objective.weight c.args.at.now.objective.now) (g.O.Objective.floor c.args.at.now.objective.now) in
    let s : Stage = stage_at c.args.at.now.level c.args.at.now.targets.now c.args.at.now.best c.args.at.now.pool.now in
    let f : Fixing = fixed_of c.args.at.now.fixing.now in
    let leaf = c.args.leaf.now in
    let terms : terms_fault k w s 0 leaf.terms ≡ None = none_means c.in_ok-test_terms.field-0 (terms_fault k w s 0 leaf.terms) (sym c.in_ok-test_terms.was ∙ c.test_terms.ensures.verdict ∙ ap (λ ts. ok_unless (terms_fault k w s 0 ts)) c.as_slice.ensures) in
    let costs : cost_fault k w s f leaf ≡ None = none_means c.in_ok-test_costs.field-0 (cost_fault k w s f leaf) (sym c.in_ok-test_costs.was ∙ c.test_costs.ensures) in
    ok_means c.test_bound.result (bound_fault k w s f leaf) (Caps k w s f) c.test_bound.ensures (λ bound has packs meets follows.
    c.leaf_laws.ensures.caps k w s f leaf has c.node_laws.ensures.cliques c.node_laws.ensures.fixing c.requires.scale
    ((c.leaf_laws.ensures.faultless k w s f leaf).0 (none_joined (terms_fault k w s 0 leaf.terms) (cost_fault k w s f leaf) (bound_fault k w s f leaf) terms costs bound)) packs meets follows)

pub returns-clause-empties : goal.returns-clause-empties
returns-clause-empties g c =
    let k : Packing = packing c.args.at.now.model.now in
    let w : Weights = counted (g.O.Objective.weight c.args.at.now.objective.now) (g.O.Objective.floor c.args.at.now.objective.now) in
    let s : Stage = stage_at c.args.at.now.level c.args.at.now.targets.now c.args.at.now.best c.args.at.now.pool.now in
    let f : Fixing = fixed_of c.args.at.now.fixing.now in
    let leaf = c.args.leaf.now in
    let terms : terms_fault k w s 0 leaf.terms ≡ None = none_means c.in_ok-test_terms.field-0 (terms_fault k w s 0 leaf.terms) (sym c.in_ok-test_terms.was ∙ c.test_terms.ensures.verdict ∙ ap (λ ts. ok_unless (terms_fault k w s 0 ts)) c.as_slice.ensures) in
    let costs : cost_fault k w s f leaf ≡ None = none_means c.in_ok-test_costs.field-0 (cost_fault k w s f leaf) (sym c.in_ok-test_costs.was ∙ c.test_costs.ensures) in
    ok_means c.test_bound.result (bound_fault k w s f leaf) (leaf.scale ≡ pos 0 → Empties k w s f) c.test_bound.ensures (λ bound none has packs meets follows.
    c.leaf_laws.ensures.empties k w s f leaf has c.node_laws.ensures.cliques c.node_laws.ensures.fixing none
    ((c.leaf_laws.ensures.faultless k w s f leaf).0 (none_joined (terms_fault k w s 0 leaf.terms) (cost_fault k w s f leaf) (bound_fault k w s f leaf) terms costs bound)) packs meets follows)
