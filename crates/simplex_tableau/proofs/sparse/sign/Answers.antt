use Rattle.std.proofs.Common.{rules, SFits, to_z-of_z, ◌≡◌, pos}
use Rattle.std.specs.Int.{w128}
use Rattle.std.specs.Ordering.{int_cmp}
use Rattle.simplex_tableau.proofs.SignsLaws.{sign_of_num}
use Rattle.simplex_tableau.proofs.sparse.sign.Goals as goal

pub returns : goal.returns
returns g c =
    let fits : SFits w128 c.num.result = search rules in
    let h = c.cmp.ensures in
    let e : c.cmp.result ≡ int_cmp c.num.result (pos 0) = simp to_z-of_z at h in
    sign_of_num (g.N.Fraction.value c.args.x) c.num.result c.cmp.result c.num.ensures e
