-- Products of fractions cut by common divisors, and sums and products of whole numbers.
use Rattle.std.proofs.Common.{ℕ, ◌≡◌, ◌<◌, ◌*◌, arith, refl, sym, ◌∙◌, ap, ap₂, subst, mul_comm, [], ◌∷◌, true, false, Option, ℤ, pos, ◌<ℤ◌, ◌+ℤ◌, ◌*ℤ◌, unsigned_abs}
use Rattle.std.specs.List.{list_all}
use Rattle.std.specs.Int.{◌∣◌, IsGcd}
use Rattle.std.specs.Int.RustNames.{int_div}
use Rattle.std.proofs.lemmas.Int.{ints}
use Rattle.std.proofs.Math.Nat.{one-dvd, dvd-mul_right}
use Rattle.std.proofs.Math.IntN.{*ℤ_comm}
use Rattle.numbers.specs.Coprime.{IsCoprime}
use Rattle.numbers.specs.Algebra.{*ℤ_assoc, *ℤ-positive}
use Rattle.exact_num.specs.Cross.{abs-*ℤ}
use Rattle.exact_num.specs.Q.{IsLow}
use Rattle.exact_num.specs.Over.{*ℤ_middle, coprime_parts}
use Rattle.exact_num.specs.Ops.{times_one}
use Rattle.exact_num.specs.Reduced.{coprime_swap, coprime_down, coprime_product}
use Rattle.exact_num.specs.Whole.{low_one}
use Rattle.exact_num.specs.Work.{below, product_of_parts, product_after, sum_of_parts}
use Rattle.exact_num.specs.Arith.{IsReduced, Finds}
use Rattle.exact_num.proofs.Division.{size-positive, divisor_is, quotient_is, quotient_positive, false_1, false_rest, both_true, below_fits, fits_below, sum_found, fails_3}

-- what the steps of the product of a / b and c / d have found
pub record AreProductSteps (a b c d g h a₁ c₁ b₁ d₁ : ℤ) : Type 0 where
  pub is_g : IsGcd (unsigned_abs a) (unsigned_abs d) (unsigned_abs g)
  pub some_g : pos 0 <ℤ g
  pub is_h : IsGcd (unsigned_abs c) (unsigned_abs b) (unsigned_abs h)
  pub some_h : pos 0 <ℤ h
  pub whole_a : a₁ *ℤ g ≡ a
  pub whole_c : c₁ *ℤ h ≡ c
  pub whole_b : b₁ *ℤ h ≡ b
  pub whole_d : d₁ *ℤ g ≡ d

product_is : (a b c d g h : ℤ) → IsGcd (unsigned_abs a) (unsigned_abs d) (unsigned_abs g) → pos 0 <ℤ g → IsGcd (unsigned_abs c) (unsigned_abs b) (unsigned_abs h) → pos 0 <ℤ h
    → product_of_parts a b c d ≡ product_after a b c d g h
product_is a b c d g h is_g some_g is_h some_h =
    ap₂ (λ y z. product_after a b c d y z) (divisor_is (unsigned_abs a) (unsigned_abs d) g is_g some_g) (divisor_is (unsigned_abs c) (unsigned_abs b) h is_h some_h)

pub product_fails_1 : (bound : ℕ) (a b c d g h a₁ c₁ : ℤ) → IsGcd (unsigned_abs a) (unsigned_abs d) (unsigned_abs g) → pos 0 <ℤ g → IsGcd (unsigned_abs c) (unsigned_abs b) (unsigned_abs h) → pos 0 <ℤ h
    → a₁ *ℤ g ≡ a → c₁ *ℤ h ≡ c → below bound (a₁ *ℤ c₁) ≡ false → list_all (below bound) (product_of_parts a b c d) ≡ false
product_fails_1 bound a b c d g h a₁ c₁ is_g some_g is_h some_h whole_a whole_c misfit =
    ap (list_all (below bound)) (product_is a b c d g h is_g some_g is_h some_h)
    ∙ false_1 _ _ (ap₂ (λ y z. below bound (y *ℤ z)) (quotient_is a g a₁ some_g whole_a) (quotient_is c h c₁ some_h whole_c) ∙ misfit)

product_whole : (a b c d g h a₁ c₁ b₁ d₁ : ℤ) → AreProductSteps a b c d g h a₁ c₁ b₁ d₁ → product_of_parts a b c d ≡ (a₁ *ℤ c₁) ∷ (b₁ *ℤ d₁) ∷ []
product_whole a b c d g h a₁ c₁ b₁ d₁ t =
    product_is a b c d g h t.is_g t.some_g t.is_h t.some_h
    ∙ ap₂ (λ y z. (y *ℤ z) ∷ (int_div b h *ℤ int_div d g) ∷ []) (quotient_is a g a₁ t.some_g t.whole_a) (quotient_is c h c₁ t.some_h t.whole_c)
    ∙ ap₂ (λ y z. (a₁ *ℤ c₁) ∷ (y *ℤ z) ∷ []) (quotient_is b h b₁ t.some_h t.whole_b) (quotient_is d g d₁ t.some_g t.whole_d)

pub product_fails_2 : (bound : ℕ) (a b c d g h a₁ c₁ b₁ d₁ : ℤ) → AreProductSteps a b c d g h a₁ c₁ b₁ d₁ → below bound (b₁ *ℤ d₁) ≡ false → list_all (below bound) (product_of_parts a b c d) ≡ false
product_fails_2 bound a b c d g h a₁ c₁ b₁ d₁ t misfit =
    ap (list_all (below bound)) (product_whole a b c d g h a₁ c₁ b₁ d₁ t) ∙ false_rest (below bound (a₁ *ℤ c₁)) _ (false_1 _ _ misfit)

divides : (x k n : ℤ) → x *ℤ k ≡ n → unsigned_abs x ∣ unsigned_abs n
divides x k n e = subst (λ m. unsigned_abs x ∣ m) (sym (abs-*ℤ x k) ∙ ap unsigned_abs e) (dvd-mul_right (unsigned_abs x) (unsigned_abs k))

-- quotients by the greatest common divisor have nothing in common
apart : (x y g x₁ y₁ : ℤ) → IsGcd (unsigned_abs x) (unsigned_abs y) (unsigned_abs g) → pos 0 <ℤ g → x₁ *ℤ g ≡ x → y₁ *ℤ g ≡ y → IsCoprime (unsigned_abs x₁) (unsigned_abs y₁)
apart x y g x₁ y₁ is some e f =
    let size : pos (unsigned_abs g) ≡ g = size-positive g some in
    coprime_parts (unsigned_abs x) (unsigned_abs y) (unsigned_abs g) (unsigned_abs x₁) (unsigned_abs y₁) is (omega (arith, ints, size, some))
    (mul_comm (unsigned_abs g) (unsigned_abs x₁) ∙ sym (abs-*ℤ x₁ g) ∙ ap unsigned_abs e)
    (mul_comm (unsigned_abs g) (unsigned_abs y₁) ∙ sym (abs-*ℤ y₁ g) ∙ ap unsigned_abs f)

product_low : (a b c d g h a₁ c₁ b₁ d₁ : ℤ) → AreProductSteps a b c d g h a₁ c₁ b₁ d₁ → IsLow a b → IsLow c d → IsLow (a₁ *ℤ c₁) (b₁ *ℤ d₁)
product_low a b c d g h a₁ c₁ b₁ d₁ t p q =
    let A = unsigned_abs a₁ in let C = unsigned_abs c₁ in let B = unsigned_abs b₁ in let D = unsigned_abs d₁ in
    let a_d : IsCoprime A D = apart a d g a₁ d₁ t.is_g t.some_g t.whole_a t.whole_d in
    let c_b : IsCoprime C B = apart c b h c₁ b₁ t.is_h t.some_h t.whole_c t.whole_b in
    let a_b : IsCoprime A B = cut a b a₁ b₁ g h t.whole_a t.whole_b p.reduced in
    let c_d : IsCoprime C D = cut c d c₁ d₁ h g t.whole_c t.whole_d q.reduced in
    let a_bd : IsCoprime A (B * D) = coprime_product A B D a_b a_d in
    let c_bd : IsCoprime C (B * D) = coprime_product C B D c_b c_d in
    let all : IsCoprime (A * C) (B * D) = coprime_swap (B * D) (A * C) (coprime_product (B * D) A C (coprime_swap A (B * D) a_bd) (coprime_swap C (B * D) c_bd)) in
    record {
      positive = *ℤ-positive b₁ d₁ (quotient_positive b₁ h b t.whole_b t.some_h p.positive) (quotient_positive d₁ g d t.whole_d t.some_g q.positive);
      reduced = subst (λ m. IsCoprime m (unsigned_abs (b₁ *ℤ d₁))) (sym (abs-*ℤ a₁ c₁)) (subst (λ m. IsCoprime (A * C) m) (sym (abs-*ℤ b₁ d₁)) all);
    }
  where
    cut : (x y x₁ y₁ k l : ℤ) → x₁ *ℤ k ≡ x → y₁ *ℤ l ≡ y → IsCoprime (unsigned_abs x) (unsigned_abs y) → IsCoprime (unsigned_abs x₁) (unsigned_abs y₁)
    cut x y x₁ y₁ k l e f r =
        coprime_swap (unsigned_abs y₁) (unsigned_abs x₁)
        (coprime_down (unsigned_abs y) (unsigned_abs x₁) (unsigned_abs y₁)
        (coprime_swap (unsigned_abs x₁) (unsigned_abs y) (coprime_down (unsigned_abs x) (unsigned_abs y) (unsigned_abs x₁) r (divides x₁ k x e))) (divides y₁ l y f))

product_value : (a₁ c₁ b₁ d₁ g h : ℤ) → (a₁ *ℤ c₁) *ℤ ((b₁ *ℤ h) *ℤ (d₁ *ℤ g)) ≡ ((a₁ *ℤ g) *ℤ (c₁ *ℤ h)) *ℤ (b₁ *ℤ d₁)
product_value a₁ c₁ b₁ d₁ g h =
    ap (λ z. (a₁ *ℤ c₁) *ℤ z) (*ℤ_middle b₁ h d₁ g ∙ ap (λ z. (b₁ *ℤ d₁) *ℤ z) (*ℤ_comm h g) ∙ *ℤ_comm (b₁ *ℤ d₁) (g *ℤ h))
    ∙ sym (*ℤ_assoc (a₁ *ℤ c₁) (g *ℤ h) (b₁ *ℤ d₁)) ∙ ap (λ z. z *ℤ (b₁ *ℤ d₁)) (*ℤ_middle a₁ c₁ g h)

pub product_found : (bound : ℕ) (a b c d g h a₁ c₁ b₁ d₁ : ℤ) → AreProductSteps a b c d g h a₁ c₁ b₁ d₁ → IsLow a b → IsLow c d → below bound (a₁ *ℤ c₁) ≡ true → below bound (b₁ *ℤ d₁) ≡ true
    → (list_all (below bound) (product_of_parts a b c d) ≡ true) × IsReduced bound (a₁ *ℤ c₁) (b₁ *ℤ d₁) (a *ℤ c) (b *ℤ d)
product_found bound a b c d g h a₁ c₁ b₁ d₁ t p q x y = (
  ap (list_all (below bound)) (product_whole a b c d g h a₁ c₁ b₁ d₁ t) ∙ both_true _ _ x (both_true _ true y refl),
  record {
    low = product_low a b c d g h a₁ c₁ b₁ d₁ t p q;
    value = ap₂ (λ y z. (a₁ *ℤ c₁) *ℤ (y *ℤ z)) (sym t.whole_b) (sym t.whole_d) ∙ product_value a₁ c₁ b₁ d₁ g h
        ∙ ap₂ (λ y z. (y *ℤ z) *ℤ (b₁ *ℤ d₁)) t.whole_a t.whole_c;
    num_fits = below_fits bound (a₁ *ℤ c₁) x;
    den_fits = below_fits bound (b₁ *ℤ d₁) y;
  },
)

-- ---- whole numbers

gcd_one : (n : ℕ) → IsGcd n 1 1
gcd_one n = (one-dvd n, one-dvd 1, λ d p q. q)

one_positive : pos 0 <ℤ pos 1
one_positive = omega (arith, ints)

pub whole_product_fails : (bound : ℕ) (a c : ℤ) → below bound (a *ℤ c) ≡ false → list_all (below bound) (product_of_parts a (pos 1) c (pos 1)) ≡ false
whole_product_fails bound a c misfit =
    product_fails_1 bound a (pos 1) c (pos 1) (pos 1) (pos 1) a c (gcd_one (unsigned_abs a)) one_positive (gcd_one (unsigned_abs c)) one_positive (times_one a) (times_one c) misfit

pub whole_product_found : (bound : ℕ) (a c : ℤ) → 1 < bound → below bound (a *ℤ c) ≡ true
    → (list_all (below bound) (product_of_parts a (pos 1) c (pos 1)) ≡ true) × IsReduced bound (a *ℤ c) (pos 1) (a *ℤ c) (pos 1 *ℤ pos 1)
whole_product_found bound a c one fits =
    product_found bound a (pos 1) c (pos 1) (pos 1) (pos 1) a c (pos 1) (pos 1)
    (record { is_g = gcd_one (unsigned_abs a); some_g = one_positive; is_h = gcd_one (unsigned_abs c); some_h = one_positive; whole_a = times_one a; whole_c = times_one c; whole_b = refl; whole_d = refl })
    (low_one a) (low_one c) fits (fits_below bound (pos 1) one)

pub whole_sum_fails : (bound : ℕ) (a c : ℤ) → below bound (a +ℤ c) ≡ false → list_all (below bound) (sum_of_parts a (pos 1) c (pos 1)) ≡ false
whole_sum_fails bound a c misfit =
    fails_3 bound a (pos 1) c (pos 1) (pos 1) (pos 1) (pos 1) (gcd_one 1) one_positive refl refl
    (ap₂ (λ y z. below bound (y +ℤ z)) (times_one a) (times_one c) ∙ misfit)

pub whole_sum_found : (bound : ℕ) (a c : ℤ) → 1 < bound → unsigned_abs a < bound → unsigned_abs c < bound → below bound (a +ℤ c) ≡ true
    → (list_all (below bound) (sum_of_parts a (pos 1) c (pos 1)) ≡ true) × IsReduced bound (a +ℤ c) (pos 1) ((a *ℤ pos 1) +ℤ (c *ℤ pos 1)) (pos 1 *ℤ pos 1)
whole_sum_found bound a c one first second fits =
    sum_found bound a (pos 1) c (pos 1) (pos 1) (pos 1) (pos 1) (a +ℤ c) (pos 1) (a +ℤ c) (pos 1) (pos 1)
    (record {
      is_g = gcd_one 1;
      some_g = one_positive;
      whole_b = refl;
      whole_d = refl;
      s_is = sym (ap₂ (λ y z. y +ℤ z) (times_one a) (times_one c));
      is_h = gcd_one (unsigned_abs (a +ℤ c));
      some_h = one_positive;
      whole_s = times_one (a +ℤ c);
      whole_d₂ = refl;
      den_is = refl;
    })
    (low_one a) (low_one c)
    (ap (below bound) (times_one a) ∙ fits_below bound a first) (ap (below bound) (times_one c) ∙ fits_below bound c second) fits (fits_below bound (pos 1) one)

pub whole_sum_finds : (bound : ℕ) (a b c d : ℤ) (found : Option (ℤ × ℤ)) → b ≡ pos 1 → d ≡ pos 1
    → Finds bound (list_all (below bound) (sum_of_parts a (pos 1) c (pos 1))) ((a *ℤ pos 1) +ℤ (c *ℤ pos 1)) (pos 1 *ℤ pos 1) found
    → Finds bound (list_all (below bound) (sum_of_parts a b c d)) ((a *ℤ d) +ℤ (c *ℤ b)) (b *ℤ d) found
whole_sum_finds bound a b c d found e f h =
    subst (λ z. Finds bound (list_all (below bound) (sum_of_parts a b c z)) ((a *ℤ z) +ℤ (c *ℤ b)) (b *ℤ z) found) (sym f)
    (subst (λ z. Finds bound (list_all (below bound) (sum_of_parts a z c (pos 1))) ((a *ℤ pos 1) +ℤ (c *ℤ z)) (z *ℤ pos 1) found) (sym e) h)

pub whole_product_finds : (bound : ℕ) (a b c d : ℤ) (found : Option (ℤ × ℤ)) → b ≡ pos 1 → d ≡ pos 1
    → Finds bound (list_all (below bound) (product_of_parts a (pos 1) c (pos 1))) (a *ℤ c) (pos 1 *ℤ pos 1) found
    → Finds bound (list_all (below bound) (product_of_parts a b c d)) (a *ℤ c) (b *ℤ d) found
whole_product_finds bound a b c d found e f h =
    subst (λ z. Finds bound (list_all (below bound) (product_of_parts a b c z)) (a *ℤ c) (b *ℤ z) found) (sym f)
    (subst (λ z. Finds bound (list_all (below bound) (product_of_parts a z c (pos 1))) (a *ℤ c) (z *ℤ pos 1) found) (sym e) h)
