-- The loops over denominators and numerators, at one fraction.
use Rattle.std.proofs.Common.{ℕ, ◌≡◌, ◌*◌, ◌+◌, ◌<◌, ◌≤◌, arith, refl, sym, ◌∙◌, ap, ap₂, suc, subst, List, [], ◌∷◌, ◌++◌, map, drop, length, get_or, Bool, true, false, ◌&&◌, ℤ, ◌*ℤ◌, unsigned_abs, append_assoc, append-nil, rules, nat_lt}
use Rattle.std.specs.List.{list_all}
use Rattle.std.specs.Int.{◌∣◌, IsGcd}
use Rattle.std.proofs.lemmas.Nat.Gcd.{le_of_dvd}
use Rattle.std.proofs.Math.Seq.{drop-cons}
use Rattle.std.proofs.Math.ListN.{drop_of_length-le}
use Rattle.exact_num.specs.Q.{ℚ}
use Rattle.exact_num.specs.Cross.{abs-*ℤ}
use Rattle.exact_num.specs.Work.{below}
use Rattle.exact_num.specs.Multiples.{lcm_of, lcm_of_parts, lcm_of_gives, lcm_of_assoc, lcm_of-one, one-lcm_of, lcm_of-positive, least_den, least_den-positive, size-den, Divides}
use Rattle.exact_num.specs.Denominators.{num_over, nums_over}
use Rattle.exact_num.proofs.Division.{quotient_is, false_1}

-- the values from place i on
abbrev pub from : {F : Type 0} → (F → ℚ) → ℕ → List F → List ℚ
from value i xs = map value (drop i xs)

pub from_here : {F : Type 0} (value : F → ℚ) (i : ℕ) (xs : List F) (x : F) → i < length xs → x ≡ get_or xs i x → from value i xs ≡ value x ∷ from value (i + 1) xs
from_here value i xs x l e =
    let next : suc i ≡ i + 1 = omega arith in
    ap (map value) (drop-cons xs i x l) ∙ ap₂ (λ y n. value y ∷ from value n xs) (sym e) next

pub from_end : {F : Type 0} (value : F → ℚ) (i : ℕ) (xs : List F) → length xs ≤ i → from value i xs ≡ []
from_end value i xs l = ap (map value) (drop_of_length-le xs l)

-- ---- the least common denominator

abbrev pub rest_den : {F : Type 0} → (F → ℚ) → ℕ → ℕ → List F → ℕ
rest_den value d i xs = lcm_of d (least_den (from value i xs))

-- what one more fraction makes of it
size_both : (den q : ℤ) (other g : ℕ) → IsGcd (unsigned_abs den) other g → 0 < other → unsigned_abs q * g ≡ other → unsigned_abs (den *ℤ q) ≡ lcm_of (unsigned_abs den) other
size_both den q other g is some e = abs-*ℤ den q ∙ lcm_of_parts (unsigned_abs den) other (unsigned_abs q) g is some e

module _ {F : Type 0} (value : F → ℚ) (xs : List F) (i : ℕ) (x : F) (den g q : ℤ)
    (l : i < length xs) (at_i : x ≡ get_or xs i x) (is : IsGcd (unsigned_abs den) (unsigned_abs (value x).den) (unsigned_abs g)) (whole : q *ℤ g ≡ (value x).den) where
  both_is : unsigned_abs (den *ℤ q) ≡ lcm_of (unsigned_abs den) (unsigned_abs (value x).den)
  both_is = size_both den q (unsigned_abs (value x).den) (unsigned_abs g) is (size-den (value x)) (sym (abs-*ℤ q g) ∙ ap unsigned_abs whole)

  pub den_step : rest_den value (unsigned_abs (den *ℤ q)) (i + 1) xs ≡ rest_den value (unsigned_abs den) i xs
  den_step =
      ap (λ m. lcm_of m (least_den (from value (i + 1) xs))) both_is
      ∙ lcm_of_assoc (unsigned_abs den) (unsigned_abs (value x).den) (least_den (from value (i + 1) xs)) (size-den (value x)) (least_den-positive (from value (i + 1) xs))
      ∙ ap (λ qs. lcm_of (unsigned_abs den) (least_den qs)) (sym (from_here value i xs x l at_i))

  pub den_misfit : (bound : ℕ) → 0 < unsigned_abs den → below bound (den *ℤ q) ≡ false → bound ≤ rest_den value (unsigned_abs den) i xs
  den_misfit bound some misfit =
      let m = lcm_of (unsigned_abs den) (unsigned_abs (value x).den) in
      let rest = least_den (from value (i + 1) xs) in
      let some_rest : 0 < rest = least_den-positive (from value (i + 1) xs) in
      let some_m : 0 < m = lcm_of-positive (unsigned_abs den) (unsigned_abs (value x).den) some (size-den (value x)) in
      let over : bound ≤ unsigned_abs (den *ℤ q) = not_below (unsigned_abs (den *ℤ q)) bound misfit in
      let up : m ≤ lcm_of m rest = le_of_dvd (lcm_of-positive m rest some_m some_rest) (lcm_of_gives m rest some_rest).first in
      let same : lcm_of m rest ≡ rest_den value (unsigned_abs den) i xs = ap (λ n. lcm_of n rest) (sym both_is) ∙ den_step in
      omega (arith, over, both_is, up, same)
    where
      not_below : (x y : ℕ) → nat_lt x y ≡ false → y ≤ x
      not_below x y h = search (rules, h)

pub den_end : {F : Type 0} (value : F → ℚ) (xs : List F) (i d m : ℕ) → length xs ≤ i → rest_den value d i xs ≡ m → d ≡ m
den_end value xs i d m l e = sym (lcm_of-one d) ∙ ap (λ qs. lcm_of d (least_den qs)) (sym (from_end value i xs l)) ∙ e

-- ---- numerators

pub divides_here : {F : Type 0} (value : F → ℚ) (d i : ℕ) (xs : List F) (x : F) → i < length xs → x ≡ get_or xs i x → Divides d (from value i xs)
    → (unsigned_abs (value x).den ∣ d) × Divides d (from value (i + 1) xs)
divides_here value d i xs x l e h = subst (λ qs. Divides d qs) (from_here value i xs x l e) h

num_is : (d times : ℤ) (q : ℚ) → times *ℤ q.den ≡ d → q.num *ℤ times ≡ num_over d q
num_is d times q e = ap (λ z. q.num *ℤ z) (sym (quotient_is d q.den times q.low.positive e))

module _ {F : Type 0} (value : F → ℚ) (xs : List F) (i : ℕ) (x : F) (d times : ℤ)
    (l : i < length xs) (at_i : x ≡ get_or xs i x) (whole : times *ℤ (value x).den ≡ d) where
  pub nums_step : (nums all : List ℤ) → nums ++ nums_over d (from value i xs) ≡ all → (nums ++ ((value x).num *ℤ times) ∷ []) ++ nums_over d (from value (i + 1) xs) ≡ all
  nums_step nums all e =
      append_assoc nums (((value x).num *ℤ times) ∷ []) (nums_over d (from value (i + 1) xs))
      ∙ ap (λ n. nums ++ (n ∷ nums_over d (from value (i + 1) xs))) (num_is d times (value x) whole)
      ∙ ap (λ qs. nums ++ nums_over d qs) (sym (from_here value i xs x l at_i)) ∙ e

  tests : (bound : ℕ) → list_all (below bound) (nums_over d (from value i xs)) ≡ (below bound ((value x).num *ℤ times) && list_all (below bound) (nums_over d (from value (i + 1) xs)))
  tests bound =
      ap (λ qs. list_all (below bound) (nums_over d qs)) (from_here value i xs x l at_i)
      ∙ ap (λ n. below bound n && list_all (below bound) (nums_over d (from value (i + 1) xs))) (sym (num_is d times (value x) whole))

  pub fits_step : (bound : ℕ) (all : Bool) → below bound ((value x).num *ℤ times) ≡ true → list_all (below bound) (nums_over d (from value i xs)) ≡ all
      → list_all (below bound) (nums_over d (from value (i + 1) xs)) ≡ all
  fits_step bound all fits e = ap (λ b. b && list_all (below bound) (nums_over d (from value (i + 1) xs))) (sym fits) ∙ sym (tests bound) ∙ e

  pub fits_misfit : (bound : ℕ) (all : Bool) → below bound ((value x).num *ℤ times) ≡ false → list_all (below bound) (nums_over d (from value i xs)) ≡ all → all ≡ false
  fits_misfit bound all misfit e = sym e ∙ tests bound ∙ false_1 _ _ misfit

pub nums_end : {F : Type 0} (value : F → ℚ) (d : ℤ) (i : ℕ) (xs : List F) (nums all : List ℤ) → length xs ≤ i → nums ++ nums_over d (from value i xs) ≡ all → nums ≡ all
nums_end value d i xs nums all l e = sym (append-nil nums) ∙ ap (λ qs. nums ++ nums_over d qs) (sym (from_end value i xs l)) ∙ e

pub fits_end : {F : Type 0} (value : F → ℚ) (d : ℤ) (i : ℕ) (xs : List F) (bound : ℕ) (all : Bool) → length xs ≤ i → list_all (below bound) (nums_over d (from value i xs)) ≡ all → all ≡ true
fits_end value d i xs bound all l e = sym e ∙ ap (λ qs. list_all (below bound) (nums_over d qs)) (from_end value i xs l)

-- at the start nothing is done
pub whole_den : {F : Type 0} (value : F → ℚ) (xs : List F) → rest_den value 1 0 xs ≡ least_den (map value xs)
whole_den value xs = ap (λ ys. lcm_of 1 (least_den (map value ys))) drop_zero ∙ one-lcm_of (least_den (map value xs)) (least_den-positive (map value xs))
  where
    drop_zero : drop 0 xs ≡ xs
    drop_zero = refl
