use Rattle.std.proofs.Common.{ap, sym, ◌∙◌}
use Rattle.std.proofs.lemmas.Bool.{true≢false}
use Rattle.numbers.specs.Below.{first_from}
use Rattle.duality.specs.Packing.{Fixing, is_free}
use Rattle.duality.specs.Walk.{fixing_of}
use Rattle.packing_model.specs.Built.{packing}
use Rattle.search_nodes.specs.Paths.{path_of}
use Rattle.node_bound.specs.Bounds.{has_free}
use Rattle.branch_tree.proofs.StepLaws.{lowest_branch}
use Rattle.branch_tree.proofs.state.Growth.split_lowest.Goals as goal

pub lowest_free-requires : goal.lowest_free-requires
lowest_free-requires g c = c.walk_laws.ensures.of_packing c.args.at.now.model.now c.args.self.now.walk c.requires.kept.walk

pub split-requires-clause-free : goal.split-requires-clause-free
split-requires-clause-free g c =
    let k = packing c.args.at.now.model.now in
    lowest_branch k (fixing_of (path_of c.args.self.now.walk.path)) c.in-Some.pattern
    (ap (λ (f : Fixing). first_from (is_free k f) 0 k.count) (sym c.requires.kept.walk.fixing) ∙ c.in-Some.ensures)

pub unreachable-requires : goal.unreachable-requires
unreachable-requires g c =
    let k = packing c.args.at.now.model.now in
    true≢false (sym c.requires.free ∙ ap (has_free k) (sym c.requires.kept.walk.fixing) ∙ c.in-None.ensures)
