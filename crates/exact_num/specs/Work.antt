-- The working numbers of each operation on fractions, and which of them fit.
use Rattle.std.proofs.Common.{ℕ, ◌≡◌, ◌<◌, arith, suc, List, [], ◌∷◌, Bool, ℤ, pos, negsuc, ◌+ℤ◌, ◌*ℤ◌, neg_ℤ, unsigned_abs, nat_lt}
use Rattle.std.specs.Int.{IsGcd}
use Rattle.std.specs.Int.RustNames.{int_div}
use Rattle.std.proofs.lemmas.Nat.Gcd.{dvd_antisymm}
use Rattle.numbers.specs.Coprime.{gcd_within}
use Rattle.exact_num.specs.Q.{ℚ}

-- a number whose size is below the bound
abbrev pub below : ℕ → ℤ → Bool
below bound z = nat_lt (unsigned_abs z) bound

enough : (b : ℕ) → b < suc b
enough b = omega arith

-- the greatest common divisor
pub gcd_of : ℕ → ℕ → ℕ
gcd_of a b = (gcd_within (suc b) a b (enough b)).0

pub gcd_of_gives : (a b : ℕ) → IsGcd a b (gcd_of a b)
unfolding gcd_of
gcd_of_gives a b = (gcd_within (suc b) a b (enough b)).1

pub gcd_of_is : (a b g : ℕ) → IsGcd a b g → gcd_of a b ≡ g
gcd_of_is a b g is =
    let r = gcd_of_gives a b in
    dvd_antisymm (is.2 _ r.0 r.1) (r.2 g is.0 is.1)

-- the greatest common divisor of two sizes
abbrev pub gcd_ℤ : ℤ → ℤ → ℤ
gcd_ℤ x y = pos (gcd_of (unsigned_abs x) (unsigned_abs y))

-- a / b + c / d with b = b₁ g and d = d₁ g: the products, their sum s, and then s / h and b₁ (d / h) for h = gcd(s, g)
abbrev pub sum_after : ℤ → ℤ → ℤ → ℤ → ℤ → ℤ → List ℤ
sum_after a c b₁ d₁ d g =
    (a *ℤ d₁) ∷ (c *ℤ b₁) ∷ ((a *ℤ d₁) +ℤ (c *ℤ b₁))
    ∷ int_div ((a *ℤ d₁) +ℤ (c *ℤ b₁)) (gcd_ℤ ((a *ℤ d₁) +ℤ (c *ℤ b₁)) g)
    ∷ (b₁ *ℤ int_div d (gcd_ℤ ((a *ℤ d₁) +ℤ (c *ℤ b₁)) g)) ∷ []

abbrev pub sum_of_parts : ℤ → ℤ → ℤ → ℤ → List ℤ
sum_of_parts a b c d = sum_after a c (int_div b (gcd_ℤ b d)) (int_div d (gcd_ℤ b d)) d (gcd_ℤ b d)

-- a / b * c / d, cut by g = gcd(a, d) and h = gcd(c, b) first
abbrev pub product_after : ℤ → ℤ → ℤ → ℤ → ℤ → ℤ → List ℤ
product_after a b c d g h = (int_div a g *ℤ int_div c h) ∷ (int_div b h *ℤ int_div d g) ∷ []

abbrev pub product_of_parts : ℤ → ℤ → ℤ → ℤ → List ℤ
product_of_parts a b c d = product_after a b c d (gcd_ℤ a d) (gcd_ℤ c b)

-- a / b times d / c, with the sign of c on d
abbrev pub quotient_of_parts : ℤ → ℤ → ℤ → ℤ → List ℤ
quotient_of_parts a b (pos n) d = product_of_parts a b d (pos n)
quotient_of_parts a b (negsuc n) d = product_of_parts a b (neg_ℤ d) (pos (suc n))

abbrev pub sum_work : ℚ → ℚ → List ℤ
sum_work p r = sum_of_parts p.num p.den r.num r.den

-- a sum with the second number's sign turned
abbrev pub difference_work : ℚ → ℚ → List ℤ
difference_work p r = sum_of_parts p.num p.den (neg_ℤ r.num) r.den

abbrev pub product_work : ℚ → ℚ → List ℤ
product_work p r = product_of_parts p.num p.den r.num r.den

abbrev pub quotient_work : ℚ → ℚ → List ℤ
quotient_work p r = quotient_of_parts p.num p.den r.num r.den
