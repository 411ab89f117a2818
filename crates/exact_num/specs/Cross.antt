-- Fractions by cross multiplication, compared through a common denominator.
use Rattle.std.specs.Prelude.{unsigned_abs}
use Rattle.std.proofs.Common.{ℕ, ◌≡◌, arith, refl, sym, ◌∙◌, ap}
use Rattle.std.specs.Prelude.{ℤ, pos, negsuc, ◌*ℤ◌, ◌<ℤ◌}
use Rattle.std.specs.Ordering.{int_cmp, MatchOrdering}
use Rattle.std.specs.declared.cmp.Ordering.{Ordering}
use Rattle.std.specs.declared.cmp.Ordering.TheVariants.{Less, Equal, Greater}
use Rattle.std.proofs.lemmas.Map.Lookups.{exact_signed}
use Rattle.std.proofs.lemmas.Cmp.{tied_itself}
use Rattle.std.proofs.lemmas.Bool.{and_parts, and_from}
use Rattle.std.specs.Cmp.{both_ways, signed_Decides}
use Rattle.std.specs.Ordering.{int_eq, is_eq}
use Rattle.std.proofs.Common.{zero, suc, ◌*◌, ◌&&◌}
use Rattle.std.proofs.Math.IntN.{neg_ℤ}
use Rattle.numbers.specs.Coprime.{IsCoprime, same_den}
use Rattle.std.specs.Cmp.{IsTotalOrder, int_cmp_total, int_cmp_is, int_ranks}
use Rattle.std.proofs.lemmas.Int.{ints}
use Rattle.std.proofs.Math.IntN.{*ℤ_comm}
use Rattle.numbers.specs.Algebra.{*ℤ_assoc, *ℤ-<ℤ}

abbrev pub cross_cmp : ℤ → ℤ → ℤ → ℤ → Ordering
cross_cmp a b c d = int_cmp (a *ℤ d) (c *ℤ b)

scaled : (r : Ordering) (x y c : ℤ) → pos 0 <ℤ c → MatchOrdering r (x <ℤ y) (x ≡ y) (y <ℤ x) → MatchOrdering r ((x *ℤ c) <ℤ (y *ℤ c)) ((x *ℤ c) ≡ (y *ℤ c)) ((y *ℤ c) <ℤ (x *ℤ c))
scaled Less x y c k h = *ℤ-<ℤ x y c h k
scaled Equal x y c k h = ap (λ t. t *ℤ c) h
scaled Greater x y c k h = *ℤ-<ℤ y x c h k

-- a positive factor on both sides changes nothing
pub int_cmp-scaled : (x y c : ℤ) → pos 0 <ℤ c → int_cmp (x *ℤ c) (y *ℤ c) ≡ int_cmp x y
int_cmp-scaled x y c k = sym (int_cmp_is (x *ℤ c) (y *ℤ c) (int_cmp x y) (scaled (int_cmp x y) x y c k (int_ranks x y)))

pub swap_last : (a b c : ℤ) → (a *ℤ b) *ℤ c ≡ (a *ℤ c) *ℤ b
swap_last a b c = *ℤ_assoc a b c ∙ ap (λ t. a *ℤ t) (*ℤ_comm b c) ∙ sym (*ℤ_assoc a c b)

-- over the denominators of all three, the three comparisons are those of three numbers
module _ {K : Type 0} (num den : K → ℤ) (positive : (x : K) → pos 0 <ℤ den x) where
  abbrev order : K → K → Ordering
  order x y = cross_cmp (num x) (den x) (num y) (den y)

  abbrev over : K → K → K → ℤ
  over x y z = (num x *ℤ den y) *ℤ den z

  first_two : (x y z : K) → order x y ≡ int_cmp (over x y z) (over y x z)
  first_two x y z = sym (int_cmp-scaled (num x *ℤ den y) (num y *ℤ den x) (den z) (positive z))

  last_two : (x y z : K) → order y z ≡ int_cmp (over y x z) (over z x y)
  last_two x y z = first_two y z x ∙ ap (λ t. int_cmp t ((num z *ℤ den y) *ℤ den x)) (swap_last (num y) (den z) (den x)) ∙ ap (λ t. int_cmp (over y x z) t) (swap_last (num z) (den y) (den x))

  outer_two : (x y z : K) → order x z ≡ int_cmp (over x y z) (over z x y)
  outer_two x y z = first_two x z y ∙ ap (λ t. int_cmp t (over z x y)) (swap_last (num x) (den z) (den y))

  pub IsTotalOrder-cross : IsTotalOrder order
  IsTotalOrder-cross = record {
    antisymm = λ x y. int_cmp_total.antisymm (num x *ℤ den y) (num y *ℤ den x);
    trans = λ x y z p q. outer_two x y z ∙ int_cmp_total.trans (over x y z) (over y x z) (over z x y) (sym (first_two x y z) ∙ p) (sym (last_two x y z) ∙ q);
    congr = λ x y z p. outer_two x y z ∙ int_cmp_total.congr (over x y z) (over y x z) (over z x y) (sym (first_two x y z) ∙ p) ∙ sym (last_two x y z);
  }

pub cancel : (x y c : ℤ) → pos 0 <ℤ c → x *ℤ c ≡ y *ℤ c → x ≡ y
cancel x y c k e = exact_signed x y (sym (int_cmp-scaled x y c k) ∙ ap (λ t. int_cmp t (y *ℤ c)) e ∙ tied_itself int_cmp_total (y *ℤ c))

pub abs-neg : (n : ℕ) → unsigned_abs (neg_ℤ (pos n)) ≡ n
abs-neg zero = refl
abs-neg (suc n) = refl

pub abs-*ℤ : (x y : ℤ) → unsigned_abs (x *ℤ y) ≡ unsigned_abs x * unsigned_abs y
abs-*ℤ (pos a) (pos b) = refl
abs-*ℤ (pos a) (negsuc b) = abs-neg (a * suc b)
abs-*ℤ (negsuc a) (pos b) = abs-neg (suc a * b)
abs-*ℤ (negsuc a) (negsuc b) = refl

same_size : (x y : ℤ) → pos 0 <ℤ x → pos 0 <ℤ y → unsigned_abs x ≡ unsigned_abs y → x ≡ y
same_size (pos a) (pos b) p q e = ap pos e
same_size (pos a) (negsuc b) p q e = absurd (omega (arith, ints))
same_size (negsuc a) y p q e = absurd (omega (arith, ints))

-- reduced fractions of one value are one fraction
pub same_fraction : (a b c d : ℤ) → pos 0 <ℤ b → pos 0 <ℤ d → IsCoprime (unsigned_abs a) (unsigned_abs b) → IsCoprime (unsigned_abs c) (unsigned_abs d) → a *ℤ d ≡ c *ℤ b → (a ≡ c) × (b ≡ d)
same_fraction a b c d p q r s e =
    let sizes : unsigned_abs a * unsigned_abs d ≡ unsigned_abs c * unsigned_abs b = sym (abs-*ℤ a d) ∙ ap unsigned_abs e ∙ abs-*ℤ c b in
    let dens : b ≡ d = same_size b d p q (same_den (unsigned_abs a) (unsigned_abs b) (unsigned_abs c) (unsigned_abs d) r s sizes) in
    (cancel a c d q (e ∙ ap (λ t. c *ℤ t) dens), dens)

pub matches_fields : (a b c d : ℤ) → pos 0 <ℤ b → pos 0 <ℤ d → IsCoprime (unsigned_abs a) (unsigned_abs b) → IsCoprime (unsigned_abs c) (unsigned_abs d) → (int_eq a c && int_eq b d) ≡ is_eq (cross_cmp a b c d)
matches_fields a b c d p q r s = both_ways (int_eq a c && int_eq b d) (is_eq (cross_cmp a b c d))
    (λ e. let parts = and_parts (int_eq a c) (int_eq b d) e in
    let nums = (signed_Decides a c).0 parts.0 in let dens = (signed_Decides b d).0 parts.1 in
    (signed_Decides (a *ℤ d) (c *ℤ b)).1 (ap (λ t. t *ℤ d) nums ∙ ap (λ t. c *ℤ t) (sym dens)))
    (λ e. let same = same_fraction a b c d p q r s ((signed_Decides (a *ℤ d) (c *ℤ b)).0 e) in
    and_from (int_eq a c) (int_eq b d) ((signed_Decides a c).1 same.0) ((signed_Decides b d).1 same.1))
