use Rattle.std.proofs.Common.{rules, ◌≡◌, ◌∙◌, ap, sym, subst, ◌*ℤ◌, SFits, FitsSigned, to_z-of_z}
use Rattle.std.specs.Int.{w64, w128}
use Rattle.std.specs.Int.RustNames.{int_div}
use Rattle.std.proofs.lemmas.Int.{quot_is}
use Rattle.exact_num.proofs.Division.{exact}
use Rattle.exact_num.proofs.parts.quotient_of_short.Goals as goal

pub returns-in-Ok : goal.returns-in-Ok
returns-in-Ok c =
    let fk : SFits w128 c.args.k = search rules in
    let fr : SFits w128 c.from.result = search rules in
    let h = c.in-Ok.ensures.1 in
    let range = c.in-Ok.ensures.0 in
    let same : c.in-Ok.short_k ≡ c.args.k = simp to_z-of_z at h in
    let fits : FitsSigned w64 c.in-Ok.short_k = subst (λ z. FitsSigned w64 z) (sym same) (simp to_z-of_z at range) in
    let part : c.from.result ≡ int_div c.args.n c.in-Ok.short_k = c.from.ensures ∙ quot_is w64 c.args.n c.in-Ok.short_k c.ranges.n fits (search rules) in
    let whole : c.from.result *ℤ c.args.k ≡ c.args.n = ap (λ x. x *ℤ c.args.k) (part ∙ ap (λ z. int_div c.args.n z) same) ∙ exact c.args.n c.args.k c.requires.some c.requires.divides in
    simp to_z-of_z whole

pub returns-in-Err : goal.returns-in-Err
returns-in-Err c =
    let fn : SFits w64 c.args.n = search rules in
    let fw : SFits w128 c.args.n = search rules in
    let e = c.from-in-Err.ensures in
    let same : c.from-in-Err.result ≡ c.args.n = simp to_z-of_z at e in
    let wide : FitsSigned w128 c.from-in-Err.result = search rules in
    let part = quot_is w128 c.from-in-Err.result c.args.k wide c.ranges.k (search rules) in
    ap (λ x. x *ℤ c.args.k) (part ∙ ap (λ z. int_div z c.args.k) same) ∙ exact c.args.n c.args.k c.requires.some c.requires.divides
