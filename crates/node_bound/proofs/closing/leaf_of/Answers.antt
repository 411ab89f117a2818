use Rattle.std.proofs.Common.{rules, ℤ, sym, ap, ap₂, ◌≡◌, ◌∙◌, ◌+◌, ◌-◌, ◌^◌, List, arith, subst, SFits, to_z-of_z, length}
use Rattle.std.specs.Prelude.{pos, ◌<ℤ◌, ◌*ℤ◌, unsigned_abs}
use Rattle.std.specs.Int.{◌∣◌}
use Rattle.std.specs.List.{list_all}
use Rattle.std.proofs.lemmas.Bool.{and_parts}
use mir.Syntax.{w128}
use mir.Val.{to_z, of_z}
use Rattle.duality.specs.Packing.{Weights}
use Rattle.duality.specs.declared.row.RowName.{RowName}
use Rattle.exact_num.specs.Work.{below}
use Rattle.exact_simplex.specs.Task.{int_at}
use Rattle.packing_model.specs.Built.{packing}
use Rattle.packing_model.specs.Closing.{counted}
use Rattle.packing_model.specs.Nodes.{stage_at}
use Rattle.node_bound.specs.Terms.{leaf_terms, IsGreatest, AreParts}
use Rattle.node_bound.specs.Multipliers.{others_of}
use Rattle.node_bound.proofs.DivisorLaws.{lowest_parts}
use Rattle.node_bound.proofs.OrderLaws.{names_enough}
use Rattle.node_bound.proofs.LeafLaws.{divisor_positive}
use Rattle.node_bound.proofs.closing.leaf_of.Goals as goal

pub divided-requires : goal.divided-requires
divided-requires g c =
    let times = c.args.times.now in
    let d = c.divisor_of-divisor.result in
    let fits : SFits w128 d = search rules in
    let plain = sym (to_z-of_z fits) in
    let greatest : IsGreatest (unsigned_abs d) c.args.scale times (length times) = subst (λ z. IsGreatest (unsigned_abs d) z times (length times)) (to_z-of_z c.ranges.scale) c.divisor_of-divisor.ensures.greatest in
    record {
      some = subst (λ z. pos 0 <ℤ z) plain (divisor_positive d c.args.scale times (length times) greatest c.requires.some c.divisor_of-divisor.ensures.not_negative);
      small = (and_parts (below (10 ^ 24 + 1) c.args.scale) (list_all (below (10 ^ 24 + 1)) times) c.requires.small).1;
      divides = λ i l. subst (λ z. unsigned_abs z ∣ unsigned_abs (int_at times i)) plain (greatest.divides.each i l);
    }

pub leaf_terms-requires : goal.leaf_terms-requires
leaf_terms-requires g c =
    let at = c.args.at.now in
    let t = c.args.task.now in
    let w : Weights = counted (g.O.Objective.weight at.objective.now) (g.O.Objective.floor at.objective.now) in
    let s = stage_at at.level at.targets.now at.best at.pool.now in
    let enough = names_enough (packing at.model.now) w s t.lead t.low c.requires.task.lead c.requires.task.low t.names c.requires.task.names in
    record {
      one_each = ap length c.as_slice-2.ensures ∙ c.in_ok-parts.ensures.one_each ∙ c.requires.one_each ∙ sym (ap length c.as_slice.ensures);
      known = omega (arith, enough, c.base_len.ensures.count, c.len.ensures.count, ap length c.as_slice.ensures);
    }

pub quotient-requires : goal.quotient-requires
quotient-requires g c =
    let times = c.args.times.now in
    let d = c.divisor_of-divisor.result in
    let fits : SFits w128 d = search rules in
    let plain = sym (to_z-of_z fits) in
    let greatest : IsGreatest (unsigned_abs d) c.args.scale times (length times) = subst (λ z. IsGreatest (unsigned_abs d) z times (length times)) (to_z-of_z c.ranges.scale) c.divisor_of-divisor.ensures.greatest in
    record {
      some = subst (λ z. pos 0 <ℤ z) plain (divisor_positive d c.args.scale times (length times) greatest c.requires.some c.divisor_of-divisor.ensures.not_negative);
      divides = subst (λ z. unsigned_abs z ∣ unsigned_abs (to_z w128 (of_z w128 c.args.scale))) plain c.divisor_of-divisor.ensures.greatest.divides.of_scale;
    }

pub returns : goal.returns
returns g c =
    let at = c.args.at.now in
    let t = c.args.task.now in
    let k = packing at.model.now in
    let s = stage_at at.level at.targets.now at.best at.pool.now in
    let times = c.args.times.now in
    let parts = c.in_ok-parts.parts in
    let d = c.divisor_of-divisor.result in
    let q = c.quotient.result in
    let fits : SFits w128 d = search rules in
    let fits_q : SFits w128 q = search rules in
    let greatest : IsGreatest (unsigned_abs d) c.args.scale times (length times) = subst (λ z. IsGreatest (unsigned_abs d) z times (length times)) (to_z-of_z c.ranges.scale) c.divisor_of-divisor.ensures.greatest in
    let some : pos 0 <ℤ d = divisor_positive d c.args.scale times (length times) greatest c.requires.some c.divisor_of-divisor.ensures.not_negative in
    let is : q *ℤ d ≡ c.args.scale = ap (λ z. q *ℤ z) (sym (to_z-of_z fits)) ∙ c.quotient.ensures ∙ to_z-of_z c.ranges.scale in
    let scale_is : to_z w128 (of_z w128 q) *ℤ d ≡ c.args.scale = ap (λ z. z *ℤ d) (to_z-of_z fits_q) ∙ is in
    let are : AreParts d parts times = subst (λ z. AreParts z parts times) (to_z-of_z fits) c.in_ok-parts.ensures in
    record {
      divisor = d;
      parts = parts;
      positive = some;
      scale_is = scale_is;
      parts_are = are;
      terms_are = c.in_ok-terms.ensures
          ∙ ap (λ o. leaf_terms t.lead t.low o c.as_slice.result.now c.as_slice-2.result.now) (ap₂ (λ m n. (m - t.lead) + n) c.base_len.ensures.count c.len.ensures.count)
          ∙ ap₂ (λ (ns : List RowName) (ys : List ℤ). leaf_terms t.lead t.low (others_of k s t.lead) ns ys) c.as_slice.ensures c.as_slice-2.ensures;
      lowest = lowest_parts d (to_z w128 (of_z w128 q)) c.args.scale parts times some greatest scale_is are;
    }
