use Rattle.std.proofs.Common.{rules, ◌≡◌, ◌∙◌, ap, sym, subst, ◌*ℤ◌, unsigned_abs, SFits, to_z-of_z}
use Rattle.std.specs.Int.{w64, w128, ◌∣◌}
use Rattle.std.proofs.lemmas.Int.{quot_is}
use Rattle.exact_num.proofs.Division.{exact}
use Rattle.exact_num.proofs.parts.quotient.Goals as goal

pub quotient_of_short-requires-clause-divides : goal.quotient_of_short-requires-clause-divides
quotient_of_short-requires-clause-divides c =
    let fn : SFits w128 c.args.n = search rules in
    let fk : SFits w128 c.args.k = search rules in
    let fs : SFits w64 c.in-Ok.short_n = search rules in
    let h = c.in-Ok.ensures.1 in
    let same : c.in-Ok.short_n ≡ c.args.n = simp to_z-of_z at h in
    let d : unsigned_abs c.args.k ∣ unsigned_abs c.in-Ok.short_n = subst (λ z. unsigned_abs c.args.k ∣ unsigned_abs z) (sym same) c.requires.divides in
    simp to_z-of_z d

pub returns-in-Err : goal.returns-in-Err
returns-in-Err c = ap (λ x. x *ℤ c.args.k) (quot_is w128 c.args.n c.args.k c.ranges.n c.ranges.k (search rules)) ∙ exact c.args.n c.args.k c.requires.some c.requires.divides
