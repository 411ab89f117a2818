use Rattle.std.proofs.Common.{rules, ◌^◌, pos, unsigned_abs, SFits, to_z-of_z}
use Rattle.std.specs.Int.{w64, w128}
use Rattle.std.specs.List.{list_all}
use Rattle.exact_num.specs.Over.{over_self}
use Rattle.exact_num.specs.Ops.{◌*ℚ◌, inv_ℚ, *ℚ-over, inv-over}
use Rattle.exact_num.specs.Work.{below, quotient_work}
use Rattle.exact_num.specs.Signs.{turned_num}
use Rattle.exact_num.specs.Value64.{value_64}
use Rattle.exact_num.proofs.Settled.{settled}
use Rattle.exact_num.proofs.exact.Exact64Arith.div.Goals as goal

pub returns : goal.returns
returns c =
    let f0 : SFits w128 c.args.a.num = search rules in
    let f1 : SFits w128 c.args.a.den = search rules in
    let f2 : SFits w128 c.args.b.num = search rules in
    let f3 : SFits w128 c.args.b.den = search rules in
    let g0 : SFits w64 c.args.a.num = search rules in
    let g1 : SFits w64 c.args.a.den = search rules in
    let g2 : SFits w64 c.args.b.num = search rules in
    let g3 : SFits w64 c.args.b.den = search rules in
    let h = c.quotient_parts-found.ensures in
    settled value_64 (2 ^ 63) (list_all (below (2 ^ 63)) (quotient_work (value_64 c.args.a) (value_64 c.args.b))) _ _ ((value_64 c.args.a) *ℚ inv_ℚ (value_64 c.args.b)) _ _ c.quotient_parts-found.result c.settled.result
    (simp (to_z-of_z, c.from.ensures, c.from-2.ensures, c.from-3.ensures, c.from-4.ensures) at h) c.settled.ensures
    (*ℚ-over (value_64 c.args.a) (inv_ℚ (value_64 c.args.b)) c.args.a.num c.args.a.den (turned_num c.args.b.num c.args.b.den) (pos (unsigned_abs c.args.b.num)) (over_self (value_64 c.args.a)) (inv-over (value_64 c.args.b) c.requires))
