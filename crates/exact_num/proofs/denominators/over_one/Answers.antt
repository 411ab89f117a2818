use Rattle.std.proofs.Common.{rules, sym, subst, ap, map, unsigned_abs, SFits, to_z-of_z}
use Rattle.std.specs.Int.{w128}
use Rattle.exact_num.specs.Multiples.{Divides, least_den_divides}
use Rattle.exact_num.proofs.denominators.over_one.Goals as goal

pub numerators-requires-clause-divides : goal.numerators-requires-clause-divides
numerators-requires-clause-divides g c =
    let f : SFits w128 c.in-Some.den = search rules in
    let e = c.in-Some.ensures.0 in
    let h : Divides (unsigned_abs c.in-Some.den) (map g.F.Fraction.value c.args.list.now) =
    subst (λ m. Divides m (map g.F.Fraction.value c.args.list.now)) (sym (ap unsigned_abs e)) (least_den_divides (map g.F.Fraction.value c.args.list.now)) in
    simp to_z-of_z h
