use Rattle.std.proofs.Common.{◌≡◌, ◌≤◌, ◌^◌, ◌∙◌, ap, arith, lit<}
use Rattle.std.specs.Prelude.{ℤ, ◌+ℤ◌, ◌-ℤ◌, ◌*ℤ◌}
use Rattle.std.proofs.lemmas.Int.{ints}
use mir.Syntax.{w128}
use mir.Val.{to_z, of_z}
use Rattle.numbers.specs.Sums.{total}
use Rattle.duality.specs.Packing.{level_coefficient, level_side}
use Rattle.duality.specs.Leaf.{reduced, worth}
use Rattle.duality.specs.Sums.{clique_priced, clique_worth, level_sum, IsWithin}
use Rattle.duality.specs.Packing.{Packing, Weights, Stage}
use Rattle.packing_model.specs.Built.{packing}
use Rattle.packing_model.specs.Nodes.{stage_at}
use Rattle.packing_model.specs.Closing.{counted}
use Rattle.packing_model.proofs.SumLemmas.{plain}
use Rattle.packing_model.proofs.close.left_of.Goals as goal

ends : (r a b d x cliques e worth reduced : ℤ) → IsWithin (10 ^ 38) r → r ≡ (a +ℤ b) +ℤ (d -ℤ (x +ℤ e)) → x ≡ cliques → worth ≡ a +ℤ b → reduced ≡ d -ℤ (cliques +ℤ e) → to_z w128 (of_z w128 r) ≡ worth +ℤ reduced
ends r a b d x cliques e worth reduced small is same p q = omega (arith, ints, small.low, small.high, is, same, p, q)

pub returns : goal.returns
returns g c =
    let k : Packing = packing c.args.at.now.model.now in
    let w : Weights = counted (g.O.Objective.weight c.args.at.now.objective.now) (g.O.Objective.floor c.args.at.now.objective.now) in
    let s : Stage = stage_at c.args.at.now.level c.args.at.now.targets.now c.args.at.now.best c.args.at.now.pool.now in
    let few : s.level ≤ 7 = omega (arith, c.requires.high, g.met.O.Objective.few_levels c.args.at.now.objective.now) in
    let leaf = c.args.leaf.now in
    let taken = c.args.at.now.fixing.now.one in
    let cliques : c.cliques_of-cliques.result ≡ total (clique_priced k w s leaf.terms) taken = c.cliques_of-cliques.ensures.value ∙ ap (λ ts. total (clique_priced k w s ts) c.as_slice-taken.result.now) c.as_slice.ensures ∙ ap (total (clique_priced k w s leaf.terms)) c.as_slice-taken.ensures in
    ends c.left_side.result (clique_worth leaf.terms) (level_sum leaf.terms (level_side w s.targets)) (leaf.scale *ℤ total (w.weight s.level) taken) (to_z w128 (of_z w128 c.cliques_of-cliques.result)) (total (clique_priced k w s leaf.terms) taken) (level_sum leaf.terms (λ j. total (level_coefficient w j) taken))
    (worth w s leaf.terms) (total (reduced k w s leaf) taken)
    c.left_side.ensures.small (c.left_side.ensures.value ∙ ap (λ ps. (clique_worth leaf.terms +ℤ level_sum leaf.terms (level_side w s.targets)) +ℤ ((leaf.scale *ℤ total (w.weight s.level) ps) -ℤ (to_z w128 (of_z w128 c.cliques_of-cliques.result) +ℤ level_sum leaf.terms (λ j. total (level_coefficient w j) ps)))) c.as_slice-taken.ensures) (plain (10 ^ 37) c.cliques_of-cliques.result c.cliques_of-cliques.ensures.small (lit< tt) ∙ cliques)
    (c.sum_laws.ensures.worth k w s leaf.terms c.requires.there few) (c.sum_laws.ensures.taken k w s leaf c.requires.there few taken)
