use Rattle.std.proofs.Common.{arith, ◌≡◌, ◌<◌, ◌*◌, ◌%◌, ◌^◌, min, ap, sym, ◌∙◌, subst}
use Rattle.std.specs.Int.{IsGcd, w64, trailing_zeros}
use Rattle.exact_num.proofs.Halving.{gcd_even, shifted}
use Rattle.exact_num.proofs.parts.short_gcd.Goals as goal

pub returns : goal.returns
returns c =
    let a = c.args.a in
    let b = c.args.b in
    let g = c.odd_gcd-g.result in
    let i = trailing_zeros w64 a in
    let j = trailing_zeros w64 b in
    let is : IsGcd a b (2 ^ min i j * g) = gcd_even a b i j g c.odd_part.result c.odd_part-2.result c.odd_part.ensures.whole c.odd_part-2.ensures.whole c.odd_part.ensures.is_odd c.odd_part-2.ensures.is_odd c.odd_gcd-g.ensures in
    let some : 0 < a = omega arith in
    let short : a < 2 ^ 64 = omega arith in
    let same : (g * 2 ^ c.min.result) % 2 ^ 64 ≡ 2 ^ min i j * g = ap (λ n. (g * 2 ^ n) % 2 ^ 64) c.min.ensures ∙ shifted a b g (min i j) some short is in
    subst (λ n. IsGcd a b n) (sym same) is
