use Rattle.std.proofs.Common.{rules, ◌^◌, SFits, to_z-of_z, [], ◌∷◌}
use Rattle.std.specs.Int.{w128}
use Rattle.std.specs.List.{list_all}
use Rattle.exact_num.specs.Whole.{int_ℚ, int-over}
use Rattle.exact_num.specs.Work.{below}
use Rattle.exact_num.specs.Value128.{value_128}
use Rattle.exact_num.proofs.Settled.{settled}
use Rattle.exact_num.proofs.exact.Exact128Arith.from_int.Goals as goal

pub returns : goal.returns
returns c =
    let f : SFits w128 c.args.n = search rules in
    let h = c.int_parts-found.ensures in
    settled value_128 (2 ^ 127) (list_all (below (2 ^ 127)) (c.args.n ∷ [])) _ _ (int_ℚ c.args.n) _ _ c.int_parts-found.result c.settled.result
    (simp to_z-of_z at h) c.settled.ensures (int-over c.args.n)
