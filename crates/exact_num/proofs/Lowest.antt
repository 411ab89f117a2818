-- A quotient of whole numbers in lowest terms.
use Rattle.std.proofs.Common.{ℕ, ◌≡◌, ◌≢◌, ◌*◌, ◌/◌, ◌<◌, ◌≤◌, arith, refl, sym, ◌∙◌, ap, zero, suc, subst, false, nat_lt, rules, ℤ, pos, negsuc, ◌<ℤ◌, ◌≤ℤ◌, ◌*ℤ◌, neg_ℤ, unsigned_abs, mul_comm}
use Rattle.std.proofs.lemmas.Int.{ints}
use Rattle.std.specs.Int.{IsGcd}
use Rattle.std.proofs.Math.Nat.{mul-div_cancel'}
use Rattle.numbers.specs.Coprime.{IsCoprime, same_den}
use Rattle.exact_num.specs.Cross.{abs-*ℤ, abs-neg}
use Rattle.exact_num.specs.Q.{ℚ}
use Rattle.exact_num.specs.Over.{coprime_parts, neg-pos-*ℤ}
use Rattle.exact_num.specs.Work.{below}
use Rattle.exact_num.specs.Arith.{IsReduced, IsValue, IsUnfit}
use Rattle.exact_num.specs.Signs.{sign_of}
use Rattle.exact_num.proofs.Division.{gcd_below, false_1, false_rest}

cancel_right : (x y h : ℕ) → 0 < h → x * h ≡ y * h → x ≡ y
cancel_right x y h p e = grind arith

-- n and d are the sizes of num and den without their greatest common divisor g
pub record AreLowest (num den : ℤ) (g n d : ℕ) : Type 0 where
  pub some : 0 < g
  pub some_den : 0 < d
  pub whole_num : n * g ≡ unsigned_abs num
  pub whole_den : d * g ≡ unsigned_abs den
  pub apart : IsCoprime n d

lowest_of : (num den : ℤ) (g : ℕ) → den ≢ pos 0 → IsGcd (unsigned_abs num) (unsigned_abs den) g → AreLowest num den g (unsigned_abs num / g) (unsigned_abs den / g)
lowest_of num den g h is =
    let a = unsigned_abs num in
    let b = unsigned_abs den in
    let some_b : 0 < b = size_some den h in
    let some : 0 < g = (gcd_below a b g is some_b).0 in
    let e : g * (a / g) ≡ a = mul-div_cancel' g is.0 in
    let f : g * (b / g) ≡ b = mul-div_cancel' g is.1 in
    record {
      some = some;
      some_den = factor (b / g) g b f some_b;
      whole_num = mul_comm (a / g) g ∙ e;
      whole_den = mul_comm (b / g) g ∙ f;
      apart = coprime_parts a b g (a / g) (b / g) is some e f;
    }
  where
    size_some : (z : ℤ) → z ≢ pos 0 → 0 < unsigned_abs z
    size_some (pos zero) h = absurd (h refl)
    size_some (pos (suc n)) h = omega arith
    size_some (negsuc n) h = omega arith

    factor : (y g b : ℕ) → g * y ≡ b → 0 < b → 0 < y
    factor zero g b e p = absurd (omega (arith, e, p))
    factor (suc y) g b e p = omega arith

pub lowest_parts : (num den : ℤ) (x y g : ℕ) → x ≡ unsigned_abs num → y ≡ unsigned_abs den → den ≢ pos 0 → IsGcd x y g → AreLowest num den g (x / g) (y / g)
lowest_parts num den x y g e f h is =
    subst (λ m. AreLowest num den g (m / g) (y / g)) (sym e)
    (subst (λ m. AreLowest num den g (unsigned_abs num / g) (m / g)) (sym f)
    (lowest_of num den g h (subst (λ m. IsGcd m (unsigned_abs den) g) e (subst (λ m. IsGcd x m g) f is))))

turned_sizes : (n d g : ℕ) → n * (d * g) ≡ (n * g) * d
turned_sizes n d g = omega arith

positive_value : (a b n d g : ℕ) → n * g ≡ a → d * g ≡ b → n * b ≡ a * d
positive_value a b n d g e f = ap (λ z. n * z) (sym f) ∙ turned_sizes n d g ∙ ap (λ z. z * d) e

pos-neg : (x b : ℕ) → pos x *ℤ neg_ℤ (pos b) ≡ neg_ℤ (pos (x * b))
pos-neg x zero = ap pos (times_zero x) ∙ ap (λ z. neg_ℤ (pos z)) (sym (times_zero x))
  where
    times_zero : (x : ℕ) → x * 0 ≡ 0
    times_zero x = omega arith
pos-neg x (suc b) = refl

pub sign_value : (num den : ℤ) (n d g : ℕ) → n * g ≡ unsigned_abs num → d * g ≡ unsigned_abs den → sign_of num den n *ℤ den ≡ num *ℤ pos d
sign_value (pos a) (pos b) n d g e f = ap pos (positive_value a b n d g e f)
sign_value (pos a) (negsuc b) n d g e f = neg_neg n b ∙ ap pos (positive_value a (suc b) n d g e f)
  where
    neg_neg : (n b : ℕ) → neg_ℤ (pos n) *ℤ negsuc b ≡ pos (n * suc b)
    neg_neg zero b = ap (λ z. neg_ℤ (pos z)) (zero_times (suc b)) ∙ ap pos (sym (zero_times (suc b)))
      where
        zero_times : (k : ℕ) → zero * k ≡ 0
        zero_times k = omega arith
    neg_neg (suc n) b = refl
sign_value (negsuc a) (pos b) n d g e f = neg-pos-*ℤ n b ∙ ap (λ z. neg_ℤ (pos z)) (positive_value (suc a) b n d g e f)
sign_value (negsuc a) (negsuc b) n d g e f = pos-neg n (suc b) ∙ ap (λ z. neg_ℤ (pos z)) (positive_value (suc a) (suc b) n d g e f)

pub sign_size : (num den : ℤ) (n : ℕ) → unsigned_abs (sign_of num den n) ≡ n
sign_size (pos a) (pos b) n = refl
sign_size (pos a) (negsuc b) n = abs-neg n
sign_size (negsuc a) (pos b) n = abs-neg n
sign_size (negsuc a) (negsuc b) n = refl

pub sign_both : (num den : ℤ) (n : ℕ) → num <ℤ pos 0 → den <ℤ pos 0 → sign_of num den n ≡ pos n
sign_both (pos a) den n h k = absurd (omega (arith, ints))
sign_both (negsuc a) (pos b) n h k = absurd (omega (arith, ints))
sign_both (negsuc a) (negsuc b) n h k = refl

pub sign_first : (num den : ℤ) (n : ℕ) → num <ℤ pos 0 → pos 0 ≤ℤ den → sign_of num den n ≡ neg_ℤ (pos n)
sign_first (pos a) den n h k = absurd (omega (arith, ints))
sign_first (negsuc a) (pos b) n h k = refl
sign_first (negsuc a) (negsuc b) n h k = absurd (omega (arith, ints))

pub sign_second : (num den : ℤ) (n : ℕ) → pos 0 ≤ℤ num → den <ℤ pos 0 → sign_of num den n ≡ neg_ℤ (pos n)
sign_second (pos a) (pos b) n h k = absurd (omega (arith, ints))
sign_second (pos a) (negsuc b) n h k = refl
sign_second (negsuc a) den n h k = absurd (omega (arith, ints))

pub sign_none : (num den : ℤ) (n : ℕ) → pos 0 ≤ℤ num → pos 0 ≤ℤ den → sign_of num den n ≡ pos n
sign_none (pos a) (pos b) n h k = refl
sign_none (pos a) (negsuc b) n h k = absurd (omega (arith, ints))
sign_none (negsuc a) den n h k = absurd (omega (arith, ints))

pub reduced_of : (bound : ℕ) (num den : ℤ) (g n d : ℕ) → AreLowest num den g n d → n < bound → d < bound → IsReduced bound (sign_of num den n) (pos d) num den
reduced_of bound num den g n d t num_fits den_fits = record {
  low = record { positive = omega (arith, ints, t.some_den); reduced = subst (λ m. IsCoprime m d) (sym (sign_size num den n)) t.apart };
  value = sign_value num den n d g t.whole_num t.whole_den;
  num_fits = subst (λ m. m < bound) (sym (sign_size num den n)) num_fits;
  den_fits = den_fits;
}

-- the value has no other parts
parts_of : (num den : ℤ) (g n d : ℕ) (q : ℚ) → AreLowest num den g n d → IsValue q num den → (unsigned_abs q.num ≡ n) × (unsigned_abs q.den ≡ d)
parts_of num den g n d q t is =
    let x = unsigned_abs q.num in
    let y = unsigned_abs q.den in
    let sizes : x * unsigned_abs den ≡ unsigned_abs num * y = sym (abs-*ℤ q.num den) ∙ ap unsigned_abs is ∙ abs-*ℤ num q.den in
    let cut : x * d ≡ n * y = cancel_right (x * d) (n * y) g t.some (group x d g ∙ ap (λ z. x * z) t.whole_den ∙ sizes ∙ ap (λ z. z * y) (sym t.whole_num) ∙ turn n g y) in
    let dens : y ≡ d = same_den x y n d q.low.reduced t.apart cut in
    (cancel_right x n d t.some_den (cut ∙ ap (λ z. n * z) dens), dens)
  where
    group : (x d g : ℕ) → (x * d) * g ≡ x * (d * g)
    group x d g = omega arith

    turn : (n g y : ℕ) → (n * g) * y ≡ (n * y) * g
    turn n g y = omega arith

misfit : (bound : ℕ) (z : ℤ) (n : ℕ) → unsigned_abs z ≡ n → bound ≤ n → below bound z ≡ false
misfit bound z n e h = not_below (unsigned_abs z) bound (omega arith)
  where
    not_below : (x y : ℕ) → y ≤ x → nat_lt x y ≡ false
    not_below x y h = search rules

pub unfit_num : (bound : ℕ) (num den : ℤ) (g n d : ℕ) → AreLowest num den g n d → bound ≤ n → IsUnfit bound num den
unfit_num bound num den g n d t h = λ some q is. false_1 _ _ (misfit bound q.num n (parts_of num den g n d q t is).0 h)

pub unfit_den : (bound : ℕ) (num den : ℤ) (g n d : ℕ) → AreLowest num den g n d → bound ≤ d → IsUnfit bound num den
unfit_den bound num den g n d t h = λ some q is. false_rest (below bound q.num) _ (misfit bound q.den d (parts_of num den g n d q t is).1 h)
