-- Laws of specs/Signs.
use Rattle.std.proofs.Common.{◌≡◌, ◌≢◌, ◌∙◌, sym, subst, arith, ℤ, pos, ◌<ℤ◌}
use Rattle.std.proofs.lemmas.Int.{ints}
use Rattle.std.specs.declared.cmp.Ordering.{Ordering}
use Rattle.std.specs.declared.cmp.Ordering.TheVariants.{Less, Equal, Greater}
use Rattle.std.specs.Ordering.{MatchOrdering, int_cmp}
use Rattle.std.specs.Cmp.{int_ranks}
use Rattle.std.proofs.Math.IntN.{zero-*ℤ}
use Rattle.exact_num.specs.Q.{ℚ}
use Rattle.exact_num.specs.Ops.{zero_ℚ, one_ℚ, one-over, times_one}
use Rattle.exact_num.specs.Over.{over_same, over_self}
use Rattle.exact_num.specs.Order.{◌<ℚ◌}
use Rattle.exact_num.specs.Whole.{int_ℚ-zero, num-zero}
use Rattle.simplex_tableau.specs.Signs.{HasSign}

negative : (q : ℚ) → q.num <ℤ pos 0 → q <ℚ zero_ℚ
negative q h = subst (λ z. q <ℚ z) int_ℚ-zero (record { cross = rw (times_one q.num, zero-*ℤ q.den) h })

positive : (q : ℚ) → pos 0 <ℤ q.num → zero_ℚ <ℚ q
positive q h = subst (λ z. z <ℚ q) int_ℚ-zero (record { cross = rw (times_one q.num, zero-*ℤ q.den) h })

by_case : (q : ℚ) (o : Ordering) → MatchOrdering o (q.num <ℤ pos 0) (q.num ≡ pos 0) (pos 0 <ℤ q.num) → HasSign q o
by_case q Less h = negative q h
by_case q Equal h = num-zero q h
by_case q Greater h = positive q h

pub sign_of_num : (q : ℚ) (n : ℤ) (o : Ordering) → n ≡ q.num → o ≡ int_cmp n (pos 0) → HasSign q o
sign_of_num q n o e is =
    by_case q o (subst (λ p. MatchOrdering p (q.num <ℤ pos 0) (q.num ≡ pos 0) (pos 0 <ℤ q.num)) (sym is)
    (subst (λ m. MatchOrdering (int_cmp m (pos 0)) (q.num <ℤ pos 0) (q.num ≡ pos 0) (pos 0 <ℤ q.num)) (sym e) (int_ranks q.num (pos 0))))

-- the numerator of a number that is not 0
pub num_some : (q : ℚ) → q ≢ zero_ℚ → q.num ≢ pos 0
num_some q s e = s (num-zero q e)

-- a number with the parts 1 and 1 is 1
pub one_parts : (q : ℚ) (n d : ℤ) → n ≡ q.num → d ≡ q.den → n ≡ pos 1 → d ≡ pos 1 → q ≡ one_ℚ
one_parts q n d e f one same = over_same q one_ℚ q.num (pos 1) q.den (pos 1) (over_self q) (one-over (pos 1) (omega (arith, ints))) (sym e ∙ one) (sym f ∙ same)
