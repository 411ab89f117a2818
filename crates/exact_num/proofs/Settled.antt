-- From parts that were found to the answer of an arithmetic.
use Rattle.std.proofs.Common.{ℕ, ◌≡◌, ◌≢◌, ◌<◌, arith, refl, sym, ◌∙◌, ap, zero, suc, subst, [], ◌∷◌, Bool, true, ◌≤ℤ◌, ℤ, pos, negsuc, ◌<ℤ◌, ◌+ℤ◌, ◌*ℤ◌, neg_ℤ, unsigned_abs, Option, Some, None, Result, Ok, Err, IfSome}
use Rattle.std.specs.List.{list_all}
use Rattle.std.proofs.lemmas.Int.{ints}
use Rattle.std.proofs.Math.IntN.{*ℤ_comm}
use Rattle.numbers.specs.Coprime.{IsCoprime}
use Rattle.exact_num.specs.Q.{ℚ, IsLow, same_parts}
use Rattle.exact_num.specs.Over.{IsOver, over_scaled, over_same}
use Rattle.exact_num.specs.Ops.{◌+ℚ◌, +ℚ-over}
use Rattle.exact_num.specs.Reduced.{size_of_neg, coprime_swap}
use Rattle.exact_num.specs.Work.{below, product_of_parts, quotient_of_parts}
use Rattle.exact_num.specs.Whole.{low_one}
use Rattle.exact_num.proofs.Division.{both_true, below_fits}
use Rattle.exact_num.specs.Signs.{turned_num}
use Rattle.exact_num.specs.Arith.{Finds, Settles, Gives, IsReduced}

pub settled : {N : Type 0} → {E : Type 0} → (value : N → ℚ) (bound : ℕ) (fits : Bool) (x e : ℤ) (exact : ℚ) (before now : ℕ) (found : Option (ℤ × ℤ)) (result : Result N E)
    → Finds bound fits x e found → Settles value found before now result → IsOver exact x e → Gives value fits exact before now result
settled value bound fits x e exact before now (Some p) (Ok r) f s o =
    let q : ℚ = record { num = p.0; den = p.1; low = f.1.low } in
    let is : IsOver q x e = record { positive = o.positive; cross = f.1.value } in
    record {
      all_fit = f.0;
      value = same_parts (value r) q s.0.num_is s.0.den_is ∙ over_same q exact x x e e is o refl refl;
      kept = s.1;
    }
settled value bound fits x e exact before now (Some p) (Err r) f s o = absurd s
settled value bound fits x e exact before now None (Ok r) f s o = absurd s
settled value bound fits x e exact before now None (Err r) f s o = record { some_misfit = f; counted = s }

-- what a fraction is made of
pub found_low : (bound : ℕ) (fits : Bool) (x e : ℤ) (found : Option (ℤ × ℤ)) → Finds bound fits x e found → IfSome found (λ p. IsLow p.0 p.1 × (unsigned_abs p.0 < bound))
found_low bound fits x e (Some p) f = (f.1.low, f.1.num_fits)
found_low bound fits x e None f = tt

pub found_parts : (bound : ℕ) (fits : Bool) (x e : ℤ) (found : Option (ℤ × ℤ)) → Finds bound fits x e found → IfSome found (λ p. IsLow p.0 p.1 × (unsigned_abs p.0 < bound) × (unsigned_abs p.1 < bound))
found_parts bound fits x e (Some p) f = (f.1.low, f.1.num_fits, f.1.den_fits)
found_parts bound fits x e None f = tt

-- the exact values over the products of the denominators
pub sum-over : (p r : ℚ) (a b c d : ℤ) → IsOver p a b → IsOver r c d → IsOver (p +ℚ r) ((a *ℤ d) +ℤ (c *ℤ b)) (b *ℤ d)
sum-over p r a b c d x y =
    +ℚ-over p r (a *ℤ d) (c *ℤ b) (b *ℤ d) (over_scaled p a b d x y.positive)
    (subst (λ k. IsOver r (c *ℤ b) k) (*ℤ_comm d b) (over_scaled r c d b y x.positive))

pub low_neg : (n d : ℤ) → IsLow n d → IsLow (neg_ℤ n) d
low_neg n d h = record { positive = h.positive; reduced = subst (λ m. IsCoprime m (unsigned_abs d)) (sym (size_of_neg n)) h.reduced }

-- ---- quotients

pub low_turned : (c d : ℤ) → c ≢ pos 0 → IsLow c d → IsLow (turned_num c d) (pos (unsigned_abs c))
low_turned (pos zero) d some h = absurd (some refl)
low_turned (pos (suc n)) d some h = record { positive = omega (arith, ints); reduced = coprime_swap (suc n) (unsigned_abs d) h.reduced }
low_turned (negsuc n) d some h = record {
  positive = omega (arith, ints);
  reduced = subst (λ m. IsCoprime m (suc n)) (sym (size_of_neg d)) (coprime_swap (suc n) (unsigned_abs d) h.reduced);
}

pub low_negative : (c d : ℤ) → c <ℤ pos 0 → IsLow c d → IsLow (neg_ℤ d) (neg_ℤ c)
low_negative (pos n) d less h = absurd (omega (arith, ints))
low_negative (negsuc n) d less h = low_turned (negsuc n) d (λ e. cc) h

pub low_positive : (c d : ℤ) → c ≢ pos 0 → pos 0 ≤ℤ c → IsLow c d → IsLow d c
low_positive (pos n) d some more h = low_turned (pos n) d some h
low_positive (negsuc n) d some more h = absurd (omega (arith, ints))

pub quotient_negative : (bound : ℕ) (a b c d : ℤ) (found : Option (ℤ × ℤ)) → c <ℤ pos 0
    → Finds bound (list_all (below bound) (product_of_parts a b (neg_ℤ d) (neg_ℤ c))) (a *ℤ neg_ℤ d) (b *ℤ neg_ℤ c) found
    → Finds bound (list_all (below bound) (quotient_of_parts a b c d)) (a *ℤ turned_num c d) (b *ℤ pos (unsigned_abs c)) found
quotient_negative bound a b (pos n) d found less h = absurd (omega (arith, ints))
quotient_negative bound a b (negsuc n) d found less h = h

pub quotient_positive : (bound : ℕ) (a b c d : ℤ) (found : Option (ℤ × ℤ)) → pos 0 ≤ℤ c
    → Finds bound (list_all (below bound) (product_of_parts a b d c)) (a *ℤ d) (b *ℤ c) found
    → Finds bound (list_all (below bound) (quotient_of_parts a b c d)) (a *ℤ turned_num c d) (b *ℤ pos (unsigned_abs c)) found
quotient_positive bound a b (pos n) d found more h = h
quotient_positive bound a b (negsuc n) d found more h = absurd (omega (arith, ints))

pub int_found : (bound : ℕ) (n m : ℤ) → m ≡ n → below bound n ≡ true → 1 < bound → (list_all (below bound) (n ∷ []) ≡ true) × IsReduced bound m (pos 1) n (pos 1)
int_found bound n m e fits one = (
  both_true _ true fits refl,
  record {
    low = low_one m;
    value = ap (λ z. z *ℤ pos 1) e;
    num_fits = subst (λ z. unsigned_abs z < bound) (sym e) (below_fits bound n fits);
    den_fits = one;
  },
)
