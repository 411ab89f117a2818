use Rattle.std.proofs.Common.{◌≡◌, ◌%◌, min, ap, ◌∙◌, subst}
use Rattle.std.specs.Int.{◌∣◌, IsGcd, w64, trailing_zeros, abs_diff}
use Rattle.std.proofs.lemmas.Nat.Gcd.{dvd_refl}
use Rattle.exact_num.proofs.Halving.{gcd_halved, gcd_difference, odd_min}
use Rattle.exact_num.proofs.parts.odd_gcd.Goals as goal

pub loop-x-preserved : goal.loop-x-preserved
loop-x-preserved c =
    let x = c.loop-x.x in
    let y = c.loop-x.y in
    let low : min x y % 2 ≡ 1 = odd_min x y c.loop-x.invariant.first c.loop-x.invariant.second in
    record {
      first = ap (λ n. n % 2) c.min-x.ensures ∙ low;
      second = c.odd_part-y.ensures.is_odd;
      same = λ g h.
          let whole = c.odd_part-y.ensures.whole ∙ c.abs_diff-difference.ensures in
          let one : IsGcd (min x y) c.odd_part-y.result g = subst (λ n. IsGcd n c.odd_part-y.result g) c.min-x.ensures h in
          c.loop-x.invariant.same g (gcd_difference x y g (gcd_halved (min x y) (abs_diff x y) c.odd_part-y.result (trailing_zeros w64 c.abs_diff-difference.result) g low whole one));
    }

pub returns : goal.returns
returns c = c.loop-x.invariant.same c.loop-x.x (dvd_refl c.loop-x.x, subst (λ n. c.loop-x.x ∣ n) c.loop-x-test.false (dvd_refl c.loop-x.x), λ d p q. p)
