-- Least common multiples, and the least common denominator of fractions.
use Rattle.std.proofs.Common.{ℕ, ◌≡◌, ◌*◌, ◌/◌, ◌<◌, arith, sym, ◌∙◌, ap, subst, List, [], ◌∷◌, ℤ, pos, negsuc, ◌<ℤ◌, unsigned_abs, mul_comm}
use Rattle.std.specs.Int.{◌∣◌, IsGcd}
use Rattle.std.proofs.lemmas.Int.{ints}
use Rattle.std.proofs.lemmas.Nat.Gcd.{dvd_antisymm, dvd_trans, dvd_refl}
use Rattle.std.proofs.Math.Nat.{mul-div_cancel', dvd-mul_right, dvd-mul_left, one-dvd, mul-dvd-mul_left, dvd_of_mul-dvd-mul_left}
use Rattle.numbers.specs.Coprime.{divides_other}
use Rattle.exact_num.specs.Q.{ℚ}
use Rattle.exact_num.specs.Over.{coprime_parts, factor_positive}
use Rattle.exact_num.specs.Work.{gcd_of, gcd_of_gives, gcd_of_is}

-- m is a multiple of both numbers, and divides each other one
pub record IsLcm (a b m : ℕ) : Type 0 where
  pub first : a ∣ m
  pub second : b ∣ m
  pub least : (n : ℕ) → a ∣ n → b ∣ n → m ∣ n

-- the least common multiple
pub lcm_of : ℕ → ℕ → ℕ
lcm_of a b = a * (b / gcd_of a b)

pub lcm_of_parts : (a b q g : ℕ) → IsGcd a b g → 0 < b → q * g ≡ b → a * q ≡ lcm_of a b
unfolding lcm_of
lcm_of_parts a b q g is some e =
    let f : g * (b / g) ≡ b = mul-div_cancel' g is.1 in
    let p : 0 < g = (factor_positive g (b / g) b f some).0 in
    let same : q ≡ b / g = cancel_left q (b / g) g p (mul_comm g q ∙ e ∙ sym f) in
    ap (λ m. a * m) (same ∙ ap (λ m. b / m) (sym (gcd_of_is a b g is)))
  where
    cancel_left : (x y h : ℕ) → 0 < h → h * x ≡ h * y → x ≡ y
    cancel_left x y h p e = grind arith

-- a (b / g) is a least common multiple
lcm_parts : (a b g x y : ℕ) → IsGcd a b g → 0 < g → g * x ≡ a → g * y ≡ b → IsLcm a b (a * y)
lcm_parts a b g x y is some e f = record {
  first = dvd-mul_right a y;
  second = subst (λ m. b ∣ m) whole (dvd-mul_left b x);
  least = λ n p q.
      let k = n / a in
      let n_is : a * k ≡ n = mul-div_cancel' a p in
      let inner : g * y ∣ g * (x * k) = subst (λ m. m ∣ g * (x * k)) (sym f) (subst (λ m. b ∣ m) (sym n_is ∙ ap (λ m. m * k) (sym e) ∙ regroup g x k) q) in
      let cut : y ∣ x * k = dvd_of_mul y (x * k) g some inner in
      let rest : y ∣ k = divides_other x y k (coprime_parts a b g x y is some e f) cut in
      subst (λ m. a * y ∣ m) n_is (mul-dvd-mul_left y a rest);
}
  where
    whole : x * b ≡ a * y
    whole = ap (λ m. x * m) (sym f) ∙ turn x g y ∙ ap (λ m. m * y) e
      where
        turn : (x g y : ℕ) → x * (g * y) ≡ (g * x) * y
        turn x g y = omega arith

    regroup : (g x k : ℕ) → (g * x) * k ≡ g * (x * k)
    regroup g x k = omega arith

    dvd_of_mul : (m n k : ℕ) → 0 < k → k * m ∣ k * n → m ∣ n
    dvd_of_mul m n k p h = dvd_of_mul-dvd-mul_left m p h

pub lcm_of_gives : (a b : ℕ) → 0 < b → IsLcm a b (lcm_of a b)
unfolding lcm_of
lcm_of_gives a b some =
    let g = gcd_of a b in
    let is = gcd_of_gives a b in
    let e : g * (a / g) ≡ a = mul-div_cancel' g is.0 in
    let f : g * (b / g) ≡ b = mul-div_cancel' g is.1 in
    lcm_parts a b g (a / g) (b / g) is (factor_positive g (b / g) b f some).0 e f

pub lcm_of_is : (a b m : ℕ) → 0 < b → IsLcm a b m → lcm_of a b ≡ m
lcm_of_is a b m some is =
    let r = lcm_of_gives a b some in
    dvd_antisymm (r.least m is.first is.second) (is.least (lcm_of a b) r.first r.second)

pub lcm_of-positive : (a b : ℕ) → 0 < a → 0 < b → 0 < lcm_of a b
unfolding lcm_of
lcm_of-positive a b p q =
    let g = gcd_of a b in
    let f : g * (b / g) ≡ b = mul-div_cancel' g (gcd_of_gives a b).1 in
    product a (b / g) p (factor_positive g (b / g) b f q).1
  where
    product : (m n : ℕ) → 0 < m → 0 < n → 0 < m * n
    product m n p q = grind arith

pub lcm_of-one : (a : ℕ) → lcm_of a 1 ≡ a
lcm_of-one a = lcm_of_is a 1 a (omega arith) (record { first = dvd_refl a; second = one-dvd a; least = λ n p q. p })

pub one-lcm_of : (a : ℕ) → 0 < a → lcm_of 1 a ≡ a
one-lcm_of a some = lcm_of_is 1 a a some (record { first = one-dvd a; second = dvd_refl a; least = λ n p q. q })

pub lcm_of_assoc : (a b c : ℕ) → 0 < b → 0 < c → lcm_of (lcm_of a b) c ≡ lcm_of a (lcm_of b c)
lcm_of_assoc a b c p q =
    let ab = lcm_of_gives a b p in
    let bc = lcm_of_gives b c q in
    let all = lcm_of_gives a (lcm_of b c) (lcm_of-positive b c p q) in
    let m = lcm_of a (lcm_of b c) in
    lcm_of_is (lcm_of a b) c m q (record {
      first = ab.least m all.first (dvd_trans b bc.first all.second);
      second = dvd_trans c bc.second all.second;
      least = λ n h k. all.least n (dvd_trans a ab.first h) (bc.least n (dvd_trans b ab.second h) k);
    })

-- ---- denominators

abbrev pub least_den : List ℚ → ℕ
least_den [] = 1
least_den (q ∷ qs) = lcm_of (unsigned_abs q.den) (least_den qs)

pub size-den : (q : ℚ) → 0 < unsigned_abs q.den
size-den q = some q.den q.low.positive
  where
    some : (z : ℤ) → pos 0 <ℤ z → 0 < unsigned_abs z
    some (pos n) h = omega (arith, ints)
    some (negsuc n) h = absurd (omega (arith, ints))

pub least_den-positive : (qs : List ℚ) → 0 < least_den qs
least_den-positive [] = omega arith
least_den-positive (q ∷ qs) = lcm_of-positive (unsigned_abs q.den) (least_den qs) (size-den q) (least_den-positive qs)

-- a number that the denominators of all fractions divide
abbrev pub Divides : ℕ → List ℚ → Type 0
Divides d [] = Unit {0}
Divides d (q ∷ qs) = (unsigned_abs q.den ∣ d) × Divides d qs

divides_up : (d e : ℕ) (qs : List ℚ) → d ∣ e → Divides d qs → Divides e qs
divides_up d e [] h k = tt
divides_up d e (q ∷ qs) h k = (dvd_trans (unsigned_abs q.den) k.0 h, divides_up d e qs h k.1)

-- the least common denominator is a common one, and divides each other one
pub least_den_divides : (qs : List ℚ) → Divides (least_den qs) qs
least_den_divides [] = tt
least_den_divides (q ∷ qs) =
    let is = lcm_of_gives (unsigned_abs q.den) (least_den qs) (least_den-positive qs) in
    (is.first, divides_up (least_den qs) (lcm_of (unsigned_abs q.den) (least_den qs)) qs is.second (least_den_divides qs))

pub least_den_least : (qs : List ℚ) (d : ℕ) → Divides d qs → least_den qs ∣ d
least_den_least [] d h = one-dvd d
least_den_least (q ∷ qs) d h =
    (lcm_of_gives (unsigned_abs q.den) (least_den qs) (least_den-positive qs)).least d h.0 (least_den_least qs d h.1)
