use Rattle.std.proofs.Common.{rules, ap, sym, ◌∙◌, SFits, to_z, to_z-of_z, ◌≡◌, pos}
use Rattle.std.specs.Int.{w128}
use Rattle.simplex_tableau.proofs.SignsLaws.{one_parts}
use Rattle.simplex_tableau.proofs.products.is_one.Goals as goal

pub returns : goal.returns
returns g c e =
    let fits_num : SFits w128 c.num.result = search rules in
    let fits_den : SFits w128 c.den.result = search rules in
    one_parts (g.N.Fraction.value c.args.x) c.num.result c.den.result c.num.ensures c.den.ensures
    (sym (to_z-of_z fits_num) ∙ ap (to_z w128) c.if-num-ne1.false) (sym (to_z-of_z fits_den) ∙ ap (to_z w128) c.if-den-ne1.false)
