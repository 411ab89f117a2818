use Rattle.std.proofs.Common.{sym, ◌∙◌, arith, subst, to_z-of_z, length, true, false, ◌≡◌, ◌≤◌, ◌∷◌}
use Rattle.std.specs.Prelude.{pos, ◌≤ℤ◌}
use Rattle.std.proofs.lemmas.Int.{ints}
use Rattle.duality.specs.Packing.{Weights}
use Rattle.duality.specs.Leaf.{is_under, left_side}
use Rattle.packing_model.specs.Built.{packing}
use Rattle.packing_model.specs.Closing.{counted}
use Rattle.packing_model.specs.Nodes.{fixed_of, stage_at}
use Rattle.exact_simplex.specs.Task.{AreSmall}
use Rattle.node_bound.specs.Multipliers.{IsLeafOf}
use Rattle.node_bound.specs.Terms.{Divides}
use Rattle.node_bound.proofs.LeafLaws.{cover_some, cover_multiply, under_closes, room_left, leaf_fits, leaf_fine, all_there}
use Rattle.node_bound.proofs.closing.best_leaf.Goals as goal

pub leaf_of-requires : goal.leaf_of-requires
leaf_of-requires g c =
    let y = c.args.y.now in
    let cover = c.requires.cover in
    let plain = sym (to_z-of_z c.ranges.yden) in
    record {
      task = c.requires.task;
      scale = subst (λ z. pos 0 ≤ℤ z) plain (omega (arith, ints, cover.positive));
      small = subst (λ z. AreSmall (z ∷ y)) plain cover.small;
      one_each = cover.one_each ∙ c.requires.task.row_count;
      some = subst (λ z. Divides 0 z y (length y) → ⊥) plain (cover_some c.args.yden y (length y) cover.positive);
    }

pub is_short-requires : goal.is_short-requires
is_short-requires g c =
    let at = c.args.at.now in
    let k = packing at.model.now in
    let w : Weights = counted (g.O.Objective.weight at.objective.now) (g.O.Objective.floor at.objective.now) in
    let s = stage_at at.level at.targets.now at.best at.pool.now in
    let f = fixed_of at.fixing.now in
    let t = c.args.task.now in
    let y = c.args.y.now in
    let leaf = c.in_ok-leaf.leaf in
    let are = cover_multiply t.lp y c.args.yden c.requires.cover in
    let few : s.level ≤ 7 = omega (arith, c.requires.node.high, c.requires.node.few_levels) in
    let is : IsLeafOf k s t c.args.yden y leaf = subst (λ z. IsLeafOf k s t z y leaf) (to_z-of_z c.ranges.yden) c.in_ok-leaf.ensures in
    record {
      node = c.requires.node;
      pool = c.requires.pool;
      best = c.requires.best;
      fine = leaf_fine k w s f t c.requires.task few c.args.yden y leaf are is c.requires.cover.small;
      there = all_there k w s leaf.terms (leaf_fits k w s f t c.requires.task few c.args.yden y leaf are is);
    }

pub returns-then-is_short : goal.returns-then-is_short
returns-then-is_short g c =
    let at = c.args.at.now in
    let k = packing at.model.now in
    let w : Weights = counted (g.O.Objective.weight at.objective.now) (g.O.Objective.floor at.objective.now) in
    let s = stage_at at.level at.targets.now at.best at.pool.now in
    let f = fixed_of at.fixing.now in
    let t = c.args.task.now in
    let y = c.args.y.now in
    let leaf = c.in_ok-leaf.leaf in
    let are = cover_multiply t.lp y c.args.yden c.requires.cover in
    let few : s.level ≤ 7 = omega (arith, c.requires.node.high, c.requires.node.few_levels) in
    let is : IsLeafOf k s t c.args.yden y leaf = subst (λ z. IsLeafOf k s t z y leaf) (to_z-of_z c.ranges.yden) c.in_ok-leaf.ensures in
    let under : is_under at.best leaf.scale (left_side k w s f leaf) ≡ true = sym c.is_short.ensures ∙ c.if-is_short.true in (
      under_closes k w s f t c.requires.task few c.args.yden y leaf are is c.requires.cover.positive under,
      leaf_fine k w s f t c.requires.task few c.args.yden y leaf are is c.requires.cover.small,
    )

pub returns : goal.returns
returns g c =
    let at = c.args.at.now in
    let k = packing at.model.now in
    let w : Weights = counted (g.O.Objective.weight at.objective.now) (g.O.Objective.floor at.objective.now) in
    let s = stage_at at.level at.targets.now at.best at.pool.now in
    let f = fixed_of at.fixing.now in
    let t = c.args.task.now in
    let y = c.args.y.now in
    let leaf = c.in_ok-leaf.leaf in
    let are = cover_multiply t.lp y c.args.yden c.requires.cover in
    let few : s.level ≤ 7 = omega (arith, c.requires.node.high, c.requires.node.few_levels) in
    let is : IsLeafOf k s t c.args.yden y leaf = subst (λ z. IsLeafOf k s t z y leaf) (to_z-of_z c.ranges.yden) c.in_ok-leaf.ensures in
    let over : is_under at.best leaf.scale (left_side k w s f leaf) ≡ false = sym c.is_short.ensures ∙ c.if-is_short.false in
    room_left k w s f t c.requires.task few c.args.yden y leaf are is over
