-- Divisors and quotients of the code as numbers.
use Rattle.std.proofs.Common.{ℕ, ◌≡◌, ◌*◌, ◌/◌, ◌<◌, ◌≤◌, ◌^◌, arith, refl, sym, ◌∙◌, ap, zero, suc, subst, ℤ, pos, negsuc, ◌<ℤ◌, ◌+ℤ◌, ◌*ℤ◌, neg_ℤ, unsigned_abs, mul_comm, SFits, to_z, of_z, to_z-of_z}
use Rattle.std.proofs.Common.{[], ◌∷◌, Bool, true, false, nat_lt, rules, lt_of_le_of_lt, ap₂}
use Rattle.std.proofs.Math.Nat.{dvd-mul_left}
use Rattle.std.specs.List.{list_all}
use Rattle.exact_num.specs.Cross.{cancel, abs-*ℤ}
use Rattle.exact_num.specs.Work.{below, gcd_of, gcd_of_is, sum_after, sum_of_parts}
use Rattle.std.specs.Prelude.{◌&&◌}
use Rattle.exact_num.specs.Q.{IsLow}
use Rattle.std.specs.Int.{w128}
use Rattle.std.specs.Int.{◌∣◌, IsGcd}
use Rattle.std.proofs.lemmas.Int.{ints}
use Rattle.std.proofs.lemmas.Nat.Gcd.{le_of_dvd}
use Rattle.std.proofs.Math.Nat.{mul-div_cancel'}
use Rattle.numbers.specs.Coprime.{IsCoprime}
use Rattle.numbers.specs.Algebra.{*ℤ-positive}
use Rattle.exact_num.specs.Reduced.{sum_reduced, sum_is}
use Rattle.exact_num.specs.Q.{ℚ}
use Rattle.exact_num.specs.Ops.{◌+ℚ◌, +ℚ-over}
use Rattle.exact_num.specs.Over.{IsOver, over_self, over_scaled}
use Rattle.exact_num.specs.Arith.{IsReduced}
use Rattle.std.proofs.Math.IntN.{*ℤ_comm}
use Rattle.std.specs.Int.RustNames.{int_div}

pub size-positive : (z : ℤ) → pos 0 <ℤ z → pos (unsigned_abs z) ≡ z
size-positive (pos n) p = refl
size-positive (negsuc n) p = absurd (omega (arith, ints))

pub gcd_of_sizes : (a b : ℤ) (x y g : ℕ) → x ≡ unsigned_abs a → y ≡ unsigned_abs b → IsGcd x y g → IsGcd (unsigned_abs a) (unsigned_abs b) g
gcd_of_sizes a b x y g e f is = subst (λ m. IsGcd m (unsigned_abs b) g) (e) (subst (λ m. IsGcd x m g) (f) is)

pub gcd_below : (a b g : ℕ) → IsGcd a b g → 0 < b → (0 < g) × (g ≤ b)
gcd_below a b g is some =
    let l : g ≤ b = le_of_dvd some is.1 in
    (positive g b (mul-div_cancel' g is.1) some, l)
  where
    positive : (g b : ℕ) → g * (b / g) ≡ b → 0 < b → 0 < g
    positive zero b e p = absurd (omega (arith, zero_times (b / zero)))
      where
        zero_times : (k : ℕ) → zero * k ≡ 0
        zero_times k = omega arith
    positive (suc g) b e p = omega arith

pub exact : (n k : ℤ) → pos 0 <ℤ k → unsigned_abs k ∣ unsigned_abs n → int_div n k *ℤ k ≡ n
exact (pos a) (pos b) p h = ap pos (mul_comm (a / b) b ∙ mul-div_cancel' b h)
exact (negsuc a) (pos b) p h = times (suc a / b) b ∙ ap (λ m. neg_ℤ (pos m)) (mul_comm (suc a / b) b ∙ mul-div_cancel' b h)
  where
    times : (x b : ℕ) → neg_ℤ (pos x) *ℤ pos b ≡ neg_ℤ (pos (x * b))
    times zero b = ap pos (zero_times b) ∙ ap (λ m. neg_ℤ (pos m)) (sym (zero_times b))
      where
        zero_times : (k : ℕ) → zero * k ≡ 0
        zero_times k = omega arith
    times (suc x) b = refl
exact n (negsuc b) p h = absurd (omega (arith, ints))

-- a signed number that was passed to a call
pub passed : (x : ℤ) → SFits w128 x → to_z w128 (of_z w128 x) ≡ x
passed x f = to_z-of_z f

pub small_divisor : (a b : ℤ) (x y g : ℕ) → x ≡ unsigned_abs a → y ≡ unsigned_abs b → IsGcd x y g → pos 0 <ℤ b → SFits w128 b → (0 < g) × (g < 2 ^ 127) × (to_z w128 g ≡ pos g) × IsGcd (unsigned_abs a) (unsigned_abs b) g
small_divisor a b x y g e f is p fits =
    let sizes = gcd_of_sizes a b x y g e f is in
    let whole : pos (unsigned_abs b) ≡ b = size-positive b p in
    let some : 0 < unsigned_abs b = omega (arith, ints, whole, p) in
    let l = gcd_below (unsigned_abs a) (unsigned_abs b) g sizes some in
    let short : g < 2 ^ 127 = omega (arith, ints, whole, l.1, fits) in
    (l.0, short, omega (arith, ints, short), sizes)

not_positive : (n : ℕ) → pos 0 <ℤ neg_ℤ (pos n) → ⊥
not_positive zero p = omega (arith, ints)
not_positive (suc n) p = omega (arith, ints)

pub quotient_positive : (x g b : ℤ) → x *ℤ g ≡ b → pos 0 <ℤ g → pos 0 <ℤ b → pos 0 <ℤ x
quotient_positive (pos zero) (pos g) b e p q = absurd (omega (arith, ints, q, e, zero_times g))
  where
    zero_times : (k : ℕ) → zero * k ≡ 0
    zero_times k = omega arith
quotient_positive (pos (suc x)) g b e p q = omega (arith, ints)
quotient_positive (negsuc x) (pos g) b e p q = absurd (not_positive (suc x * g) (subst (λ z. pos 0 <ℤ z) (sym e) q))
quotient_positive x (negsuc g) b e p q = absurd (omega (arith, ints))

-- what the steps of the sum of a / b and c / d have found
pub record AreSumSteps (a b c d g b₁ d₁ s h s₁ d₂ den : ℤ) : Type 0 where
  pub is_g : IsGcd (unsigned_abs b) (unsigned_abs d) (unsigned_abs g)
  pub some_g : pos 0 <ℤ g
  pub whole_b : b₁ *ℤ g ≡ b
  pub whole_d : d₁ *ℤ g ≡ d
  pub s_is : s ≡ (a *ℤ d₁) +ℤ (c *ℤ b₁)
  pub is_h : IsGcd (unsigned_abs s) (unsigned_abs g) (unsigned_abs h)
  pub some_h : pos 0 <ℤ h
  pub whole_s : s₁ *ℤ h ≡ s
  pub whole_d₂ : d₂ *ℤ h ≡ d
  pub den_is : den ≡ b₁ *ℤ d₂

pub steps_positive : (a b c d g b₁ d₁ s h s₁ d₂ den : ℤ) → AreSumSteps a b c d g b₁ d₁ s h s₁ d₂ den → pos 0 <ℤ b → pos 0 <ℤ d → pos 0 <ℤ den
steps_positive a b c d g b₁ d₁ s h s₁ d₂ den t p q =
    subst (λ z. pos 0 <ℤ z) (sym t.den_is) (*ℤ-positive b₁ d₂ (quotient_positive b₁ g b t.whole_b t.some_g p) (quotient_positive d₂ h d t.whole_d₂ t.some_h q))

pub steps_reduced : (a b c d g b₁ d₁ s h s₁ d₂ den : ℤ) → AreSumSteps a b c d g b₁ d₁ s h s₁ d₂ den → pos 0 <ℤ b → pos 0 <ℤ d
    → IsCoprime (unsigned_abs a) (unsigned_abs b) → IsCoprime (unsigned_abs c) (unsigned_abs d) → IsCoprime (unsigned_abs s₁) (unsigned_abs den)
steps_reduced a b c d g b₁ d₁ s h s₁ d₂ den t p q low_a low_c =
    let wb : pos (unsigned_abs b) ≡ b = size-positive b p in
    let wd : pos (unsigned_abs d) ≡ d = size-positive d q in
    let wg : g ≡ pos (unsigned_abs g) = sym (size-positive g t.some_g) in
    let wh : h ≡ pos (unsigned_abs h) = sym (size-positive h t.some_h) in
    subst (λ z. IsCoprime (unsigned_abs s₁) (unsigned_abs z)) (sym t.den_is)
    (sum_reduced a b c d (unsigned_abs g) (unsigned_abs h) b₁ d₁ s₁ d₂ low_a low_c (omega (arith, ints, wb, p)) (omega (arith, ints, wd, q)) t.is_g
    (ap (λ z. b₁ *ℤ z) (sym wg) ∙ t.whole_b) (ap (λ z. d₁ *ℤ z) (sym wg) ∙ t.whole_d)
    (subst (λ z. IsGcd (unsigned_abs z) (unsigned_abs g) (unsigned_abs h)) t.s_is t.is_h)
    (ap (λ z. s₁ *ℤ z) (sym wh) ∙ t.whole_s ∙ t.s_is) (ap (λ z. d₂ *ℤ z) (sym wh) ∙ t.whole_d₂))

pub steps_value : (p r q : ℚ) (g b₁ d₁ s h s₁ d₂ : ℤ) → AreSumSteps p.num p.den r.num r.den g b₁ d₁ s h s₁ d₂ q.den → q.num ≡ s₁ → q ≡ p +ℚ r
steps_value p r q g b₁ d₁ s h s₁ d₂ t e =
    sum_is p r q g h b₁ d₁ s₁ d₂ t.some_g t.some_h (quotient_positive b₁ g p.den t.whole_b t.some_g p.low.positive) (quotient_positive d₁ g r.den t.whole_d t.some_g r.low.positive)
    t.whole_b t.whole_d (t.whole_s ∙ t.s_is) t.whole_d₂ e t.den_is

-- the code's divisor and quotients are those of the working numbers
pub divisor_is : (a b : ℕ) (g : ℤ) → IsGcd a b (unsigned_abs g) → pos 0 <ℤ g → pos (gcd_of a b) ≡ g
divisor_is a b g is p = ap pos (gcd_of_is a b (unsigned_abs g) is) ∙ size-positive g p

pub quotient_is : (n k q : ℤ) → pos 0 <ℤ k → q *ℤ k ≡ n → int_div n k ≡ q
quotient_is n k q p e =
    let h : unsigned_abs k ∣ unsigned_abs n = subst (λ m. unsigned_abs k ∣ m) (sym (abs-*ℤ q k) ∙ ap unsigned_abs e) (dvd-mul_left (unsigned_abs k) (unsigned_abs q)) in
    cancel (int_div n k) q k p (exact n k p h ∙ sym e)

pub work_is : (a b c d g b₁ d₁ : ℤ) → IsGcd (unsigned_abs b) (unsigned_abs d) (unsigned_abs g) → pos 0 <ℤ g → b₁ *ℤ g ≡ b → d₁ *ℤ g ≡ d → sum_of_parts a b c d ≡ sum_after a c b₁ d₁ d g
work_is a b c d g b₁ d₁ is p e f =
    let same : pos (gcd_of (unsigned_abs b) (unsigned_abs d)) ≡ g = divisor_is (unsigned_abs b) (unsigned_abs d) g is p in
    ap (λ z. sum_after a c (int_div b z) (int_div d z) d z) same ∙ ap₂ (λ x y. sum_after a c x y d g) (quotient_is b g b₁ p e) (quotient_is d g d₁ p f)

pub false_1 : (p q : Bool) → p ≡ false → (p && q) ≡ false
false_1 true q e = cc
false_1 false q e = refl

pub false_rest : (p q : Bool) → q ≡ false → (p && q) ≡ false
false_rest true q e = e
false_rest false q e = refl

pub both_true : (p q : Bool) → p ≡ true → q ≡ true → (p && q) ≡ true
both_true true q e f = f
both_true false q e f = e

-- whatever the fourth is, as soon as one of the others does not fit
pub fails_1 : (bound : ℕ) (a b c d g b₁ d₁ : ℤ) → IsGcd (unsigned_abs b) (unsigned_abs d) (unsigned_abs g) → pos 0 <ℤ g → b₁ *ℤ g ≡ b → d₁ *ℤ g ≡ d → below bound (a *ℤ d₁) ≡ false → (list_all (below bound)) (sum_of_parts a b c d) ≡ false
fails_1 bound a b c d g b₁ d₁ is p e f h = ap (list_all (below bound)) (work_is a b c d g b₁ d₁ is p e f) ∙ false_1 _ _ h

pub fails_2 : (bound : ℕ) (a b c d g b₁ d₁ : ℤ) → IsGcd (unsigned_abs b) (unsigned_abs d) (unsigned_abs g) → pos 0 <ℤ g → b₁ *ℤ g ≡ b → d₁ *ℤ g ≡ d → below bound (c *ℤ b₁) ≡ false → (list_all (below bound)) (sum_of_parts a b c d) ≡ false
fails_2 bound a b c d g b₁ d₁ is p e f h = ap (list_all (below bound)) (work_is a b c d g b₁ d₁ is p e f) ∙ false_rest (below bound (a *ℤ d₁)) _ (false_1 (below bound (c *ℤ b₁)) _ h)

pub fails_3 : (bound : ℕ) (a b c d g b₁ d₁ : ℤ) → IsGcd (unsigned_abs b) (unsigned_abs d) (unsigned_abs g) → pos 0 <ℤ g → b₁ *ℤ g ≡ b → d₁ *ℤ g ≡ d → below bound ((a *ℤ d₁) +ℤ (c *ℤ b₁)) ≡ false → (list_all (below bound)) (sum_of_parts a b c d) ≡ false
fails_3 bound a b c d g b₁ d₁ is p e f h = ap (list_all (below bound)) (work_is a b c d g b₁ d₁ is p e f) ∙ false_rest (below bound (a *ℤ d₁)) _ (false_rest (below bound (c *ℤ b₁)) _ (false_1 (below bound ((a *ℤ d₁) +ℤ (c *ℤ b₁))) _ h))

pub smaller : (bound : ℕ) (s₁ h s : ℤ) → s₁ *ℤ h ≡ s → pos 0 <ℤ h → below bound s ≡ true → below bound s₁ ≡ true
smaller bound s₁ h s e p f =
    let sizes : unsigned_abs s₁ * unsigned_abs h ≡ unsigned_abs s = sym (abs-*ℤ s₁ h) ∙ ap unsigned_abs e in
    let some : 0 < unsigned_abs h = omega (arith, ints, size-positive h p, p) in
    let l : unsigned_abs s₁ ≤ unsigned_abs s = less (unsigned_abs s₁) (unsigned_abs h) (unsigned_abs s) sizes some in
    let fit : unsigned_abs s < bound = search (rules, f) in
    lt_true (unsigned_abs s₁) bound (lt_of_le_of_lt l fit)
  where
    less : (x y z : ℕ) → x * y ≡ z → 0 < y → x ≤ z
    less x y z e p = grind arith

    lt_true : (x y : ℕ) → x < y → nat_lt x y ≡ true
    lt_true x y h = search rules

-- all five, once each step has gone well
pub work_whole : (a b c d g b₁ d₁ s h s₁ d₂ den : ℤ) → AreSumSteps a b c d g b₁ d₁ s h s₁ d₂ den
    → sum_of_parts a b c d ≡ (a *ℤ d₁) ∷ (c *ℤ b₁) ∷ s ∷ s₁ ∷ den ∷ []
work_whole a b c d g b₁ d₁ s h s₁ d₂ den t =
    let sum = (a *ℤ d₁) +ℤ (c *ℤ b₁) in
    let same : pos (gcd_of (unsigned_abs sum) (unsigned_abs g)) ≡ h = divisor_is (unsigned_abs sum) (unsigned_abs g) h (subst (λ z. IsGcd (unsigned_abs z) (unsigned_abs g) (unsigned_abs h)) t.s_is t.is_h) t.some_h in
    work_is a b c d g b₁ d₁ t.is_g t.some_g t.whole_b t.whole_d
    ∙ ap (λ z. (a *ℤ d₁) ∷ (c *ℤ b₁) ∷ sum ∷ int_div sum z ∷ (b₁ *ℤ int_div d z) ∷ []) same
    ∙ ap₂ (λ y z. (a *ℤ d₁) ∷ (c *ℤ b₁) ∷ sum ∷ y ∷ (b₁ *ℤ z) ∷ []) (quotient_is sum h s₁ t.some_h (t.whole_s ∙ t.s_is)) (quotient_is d h d₂ t.some_h t.whole_d₂)
    ∙ ap₂ (λ y z. (a *ℤ d₁) ∷ (c *ℤ b₁) ∷ y ∷ s₁ ∷ z ∷ []) (sym t.s_is) (sym t.den_is)

pub fails_5 : (bound : ℕ) (a b c d g b₁ d₁ s h s₁ d₂ den : ℤ) → AreSumSteps a b c d g b₁ d₁ s h s₁ d₂ den → below bound den ≡ false → (list_all (below bound)) (sum_of_parts a b c d) ≡ false
fails_5 bound a b c d g b₁ d₁ s h s₁ d₂ den t f =
    ap (list_all (below bound)) (work_whole a b c d g b₁ d₁ s h s₁ d₂ den t)
    ∙ false_rest (below bound (a *ℤ d₁)) _ (false_rest (below bound (c *ℤ b₁)) _ (false_rest (below bound s) _ (false_rest (below bound s₁) _ (false_1 (below bound den) _ f))))

pub fits_all : (bound : ℕ) (a b c d g b₁ d₁ s h s₁ d₂ den : ℤ) → AreSumSteps a b c d g b₁ d₁ s h s₁ d₂ den
    → below bound (a *ℤ d₁) ≡ true → below bound (c *ℤ b₁) ≡ true → below bound s ≡ true → below bound den ≡ true → (list_all (below bound)) (sum_of_parts a b c d) ≡ true
fits_all bound a b c d g b₁ d₁ s h s₁ d₂ den t x y z w =
    ap (list_all (below bound)) (work_whole a b c d g b₁ d₁ s h s₁ d₂ den t)
    ∙ both_true _ _ x (both_true _ _ y (both_true _ _ z (both_true _ _ (smaller bound s₁ h s t.whole_s t.some_h z) (both_true _ true w refl))))

pub below_fits : (bound : ℕ) (z : ℤ) → below bound z ≡ true → unsigned_abs z < bound
below_fits bound z h = search (rules, h)

pub sum_found : (bound : ℕ) (a b c d g b₁ d₁ s h s₁ d₂ den : ℤ) → AreSumSteps a b c d g b₁ d₁ s h s₁ d₂ den → IsLow a b → IsLow c d
    → below bound (a *ℤ d₁) ≡ true → below bound (c *ℤ b₁) ≡ true → below bound s ≡ true → below bound den ≡ true
    → (list_all (below bound) (sum_of_parts a b c d) ≡ true) × IsReduced bound s₁ den ((a *ℤ d) +ℤ (c *ℤ b)) (b *ℤ d)
sum_found bound a b c d g b₁ d₁ s h s₁ d₂ den t p q x y z w =
    let low : IsLow s₁ den = record {
      positive = steps_positive a b c d g b₁ d₁ s h s₁ d₂ den t p.positive q.positive;
      reduced = steps_reduced a b c d g b₁ d₁ s h s₁ d₂ den t p.positive q.positive p.reduced q.reduced;
    } in
    let first : ℚ = record { num = a; den = b; low = p } in
    let second : ℚ = record { num = c; den = d; low = q } in
    let sum : ℚ = record { num = s₁; den = den; low = low } in
    let is : sum ≡ first +ℚ second = steps_value first second sum g b₁ d₁ s h s₁ d₂ t refl in
    let over : IsOver (first +ℚ second) ((a *ℤ d) +ℤ (c *ℤ b)) (b *ℤ d) =
    +ℚ-over first second (a *ℤ d) (c *ℤ b) (b *ℤ d) (over_scaled first a b d (over_self first) q.positive)
    (subst (λ k. IsOver second (c *ℤ b) k) (*ℤ_comm d b) (over_scaled second c d b (over_self second) p.positive)) in (
      fits_all bound a b c d g b₁ d₁ s h s₁ d₂ den t x y z w,
      record {
        low = low;
        value = (subst (λ (r : ℚ). IsOver r ((a *ℤ d) +ℤ (c *ℤ b)) (b *ℤ d)) (sym is) over).cross;
        num_fits = below_fits bound s₁ (smaller bound s₁ h s t.whole_s t.some_h z);
        den_fits = below_fits bound den w;
      },
    )

pub fits_below : (bound : ℕ) (z : ℤ) → unsigned_abs z < bound → below bound z ≡ true
fits_below bound z h = search (rules, h)
