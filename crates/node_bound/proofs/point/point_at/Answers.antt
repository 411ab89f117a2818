use Rattle.std.proofs.Common.{sym, subst, ap, ◌∙◌, ◌≡◌, ◌≤◌, true, length, arith}
use Rattle.std.specs.Prelude.{nat_lt}
use Rattle.std.specs.List.{list_all}
use Rattle.numbers.specs.Sums.{member, distinct}
use Rattle.duality.specs.Packing.{Packing, Weights, Stage, Fixing}
use Rattle.exact_simplex.specs.Task.{int_at}
use Rattle.packing_model.specs.Built.{packing}
use Rattle.packing_model.specs.Closing.{counted}
use Rattle.packing_model.specs.Nodes.{fixed_of, stage_at}
use Rattle.node_bound.specs.Answers.{IsNodePoint}
use Rattle.node_bound.specs.Amounts.{IsListed, IsSmall}
use Rattle.node_bound.proofs.AmountLaws.{small_plain}
use Rattle.node_bound.proofs.PrimalLaws.{primal, den_small, numbers_small, columns_known, taken_apart, amounts_small, node_point, point_value}
use Rattle.node_bound.proofs.point.point_at.Goals as goal

pub amounts_of-requires : goal.amounts_of-requires
amounts_of-requires g c =
    let at = c.args.at.now in
    let t = c.args.task.now in
    let x = c.args.x.now in
    let k : Packing = packing at.model.now in
    let w : Weights = counted (g.O.Objective.weight at.objective.now) (g.O.Objective.floor at.objective.now) in
    let s : Stage = stage_at at.level at.targets.now at.best at.pool.now in
    let f : Fixing = fixed_of at.fixing.now in
    let small = den_small t x c.args.xden c.requires.feasible in
    let count : c.len-count.result ≡ k.count = c.len-count.ensures.count ∙ ap length c.patterns.ensures.patterns in
    let columns = c.as_slice-columns.ensures in
    let one = c.as_slice-one.ensures in
    record {
      one_each = c.requires.feasible.one_each ∙ c.requires.task.column_count ∙ sym (ap length columns);
      differ = ap distinct columns ∙ c.requires.task.columns.differ;
      columns = subst (λ n. list_all (λ p. nat_lt p n) c.as_slice-columns.result.now ≡ true) (sym count) (ap (list_all (λ p. nat_lt p k.count)) columns ∙ columns_known k w s f t c.requires.task);
      taken = subst (λ n. list_all (λ p. nat_lt p n) c.as_slice-one.result.now ≡ true) (sym count) (ap (list_all (λ p. nat_lt p k.count)) one ∙ c.requires.node.fixing.of_packing.one);
      apart = λ p m. ap (member p) columns ∙ taken_apart k w s f t c.requires.task p (sym (ap (member p) one) ∙ m);
      small = numbers_small t x c.args.xden c.requires.feasible;
      den = subst IsSmall (sym (small_plain c.args.xden small)) small;
    }

pub listed-requires : goal.listed-requires
listed-requires g c =
    let at = c.args.at.now in
    let t = c.args.task.now in
    let x = c.args.x.now in
    let k : Packing = packing at.model.now in
    let w : Weights = counted (g.O.Objective.weight at.objective.now) (g.O.Objective.floor at.objective.now) in
    let s : Stage = stage_at at.level at.targets.now at.best at.pool.now in
    let amounts = c.in_ok-amounts.amounts.items in
    let is = primal at.model.now w s at.fixing.now t x c.args.xden _ _ _ _ amounts c.laws.ensures.problem c.requires.node.fixing c.requires.task c.requires.feasible c.as_slice-columns.ensures c.as_slice-one.ensures
    (small_plain c.args.xden (den_small t x c.args.xden c.requires.feasible)) (c.len-count.ensures.count ∙ ap length c.patterns.ensures.patterns) c.in_ok-amounts.ensures in
    record {
      few = subst (λ n. n ≤ 200000) (sym (ap length c.deref.ensures.value ∙ is.given.one_each ∙ sym (ap length c.patterns.ensures.patterns))) c.patterns.ensures.few;
      small = λ p. subst (λ zs. IsSmall (int_at zs p)) (sym c.deref.ensures.value) (amounts_small k w s (fixed_of at.fixing.now) t x c.args.xden amounts is p);
    }

pub returns : goal.returns
returns g c =
    let at = c.args.at.now in
    let t = c.args.task.now in
    let x = c.args.x.now in
    let k : Packing = packing at.model.now in
    let w : Weights = counted (g.O.Objective.weight at.objective.now) (g.O.Objective.floor at.objective.now) in
    let s : Stage = stage_at at.level at.targets.now at.best at.pool.now in
    let f : Fixing = fixed_of at.fixing.now in
    let amounts = c.in_ok-amounts.amounts.items in
    let entries = c.in_ok-entries.entries in
    let plain = small_plain c.args.xden (den_small t x c.args.xden c.requires.feasible) in
    let is = primal at.model.now w s at.fixing.now t x c.args.xden _ _ _ _ amounts c.laws.ensures.problem c.requires.node.fixing c.requires.task c.requires.feasible c.as_slice-columns.ensures c.as_slice-one.ensures
    plain (c.len-count.ensures.count ∙ ap length c.patterns.ensures.patterns) c.in_ok-amounts.ensures in
    let lists : IsListed (int_at amounts) k.count entries =
    subst (λ n. IsListed (int_at amounts) n entries) is.given.one_each (subst (λ zs. IsListed (int_at zs) (length zs) entries) c.deref.ensures.value c.in_ok-entries.ensures) in
    record {
      point = subst (λ d. IsNodePoint k w s f (record { den = d; entries = entries })) (sym plain) (node_point k w s f t x c.args.xden amounts entries is (omega (arith, c.requires.node.high, c.requires.node.few_levels)) lists);
      den = plain;
      value = point_value k w s f t x c.args.xden amounts entries is lists;
    }
