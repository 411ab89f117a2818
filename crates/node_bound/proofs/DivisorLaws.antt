-- Common divisors of a scale and numbers.
use Rattle.std.proofs.Common.{rules, to_z-of_z, ℕ, ◌≡◌, ◌<◌, ◌+◌, ◌*◌, ◌^◌, arith, sym, ◌∙◌, ap, suc, true, inl, inr, subst, List, [], ◌∷◌, ◌++◌, length, SFits}
use Rattle.std.specs.Prelude.{ℤ, pos, negsuc, ◌*ℤ◌, ◌<ℤ◌, unsigned_abs}
use Rattle.std.specs.Int.{◌∣◌, IsGcd}
use mir.Syntax.{w128}
use mir.Val.{to_z, of_z}
use Rattle.duality.proofs.PricedLaws.{all_at}
use Rattle.std.proofs.lemmas.Int.{ints, unsigned_abs-mul}
use Rattle.std.proofs.lemmas.Bool.{cases_eq, ltb-true}
use Rattle.std.proofs.lemmas.List.{get_or_append_left}
use Rattle.std.proofs.Math.Seq.{get_or-append_seam}
use Rattle.std.proofs.lemmas.Nat.Gcd.{dvd_refl, dvd_trans, dvd_antisymm}
use Rattle.std.proofs.Math.Nat.{mul_comm, mul-dvd-mul_left, dvd_of_mul-dvd-mul_left, one-dvd}
use Rattle.exact_num.specs.Work.{below}
use Rattle.exact_simplex.specs.Task.{int_at, AreSmall}
use Rattle.node_bound.specs.Terms.{Divides, IsGreatest, AreParts}

pub greatest_none : (scale : ℤ) (numbers : List ℤ) → IsGreatest (unsigned_abs scale) scale numbers 0
greatest_none scale numbers = record {
  divides = record { of_scale = dvd_refl (unsigned_abs scale); each = λ i l. absurd (omega arith) };
  most = λ e h. h.of_scale;
}

pub greatest_more : (d g : ℕ) (scale : ℤ) (numbers : List ℤ) (n : ℕ) → IsGreatest d scale numbers n → IsGcd (unsigned_abs (int_at numbers n)) d g → IsGreatest g scale numbers (n + 1)
greatest_more d g scale numbers n before is = record {
  divides = record {
    of_scale = dvd_trans g is.1 before.divides.of_scale;
    each = λ i l. elim (cases_eq i n) [
      | inl same ↦ subst (λ m. g ∣ unsigned_abs (int_at numbers m)) (sym same) is.0
      | inr ne ↦ dvd_trans g is.1 (before.divides.each i (omega arith))
    ];
  };
  most = λ e h. is.2 e (h.each n (omega arith)) (before.most e (record { of_scale = h.of_scale; each = λ i l. h.each i (omega arith) }));
}

pub fits_small : (z : ℤ) → below (10 ^ 24 + 1) z ≡ true → SFits w128 z
fits_small (pos n) h = let l : n < 10 ^ 24 + 1 = ltb-true n (10 ^ 24 + 1) h in search rules
fits_small (negsuc n) h = let l : suc n < 10 ^ 24 + 1 = ltb-true (suc n) (10 ^ 24 + 1) h in search rules

-- one part more
pub part_more : (divisor : ℤ) (parts numbers : List ℤ) (n : ℕ) (q : ℤ) → length parts ≡ n → q *ℤ divisor ≡ int_at numbers n → ((i : ℕ) → i < n → int_at parts i *ℤ divisor ≡ int_at numbers i)
    → (i : ℕ) → i < n + 1 → int_at (parts ++ q ∷ []) i *ℤ divisor ≡ int_at numbers i
part_more divisor parts numbers n q len is before i l = elim (cases_eq i n) [
  | inl same ↦
      let here : int_at (parts ++ q ∷ []) i ≡ q = ap (int_at (parts ++ q ∷ [])) (same ∙ sym len) ∙ get_or-append_seam parts q [] (pos 0) in
      ap (λ z. z *ℤ divisor) here ∙ is ∙ ap (int_at numbers) (sym same)
  | inr ne ↦ ap (λ z. z *ℤ divisor) (get_or_append_left parts (q ∷ []) (pos 0) i (omega arith)) ∙ before i (omega arith)
]

pub plain_at : (numbers : List ℤ) (i : ℕ) → AreSmall numbers → i < length numbers → to_z w128 (of_z w128 (int_at numbers i)) ≡ int_at numbers i
plain_at numbers i small l = to_z-of_z (fits_small (int_at numbers i) (all_at (below (10 ^ 24 + 1)) numbers i (pos 0) small l))

pub greatest_step : (d g g' scale scale' x : ℤ) (numbers : List ℤ) (n : ℕ) → g' ≡ g → scale' ≡ scale → x ≡ int_at numbers n → IsGreatest (unsigned_abs d) scale' numbers n → IsGcd (unsigned_abs x) (unsigned_abs d) (unsigned_abs g) → IsGreatest (unsigned_abs g') scale numbers (n + 1)
greatest_step d g g' scale scale' x numbers n e s a before is =
    subst (λ z. IsGreatest (unsigned_abs z) scale numbers (n + 1)) (sym e)
    (greatest_more (unsigned_abs d) (unsigned_abs g) scale numbers n (subst (λ z. IsGreatest (unsigned_abs d) z numbers n) s before) (subst (λ z. IsGcd (unsigned_abs z) (unsigned_abs d) (unsigned_abs g)) a is))

pub gcd_same : (a a' b b' g g' : ℤ) → a' ≡ a → b' ≡ b → g' ≡ g → IsGcd (unsigned_abs a') (unsigned_abs b') (unsigned_abs g) → IsGcd (unsigned_abs a) (unsigned_abs b) (unsigned_abs g')
gcd_same a a' b b' g g' e f h is =
    subst (λ z. IsGcd (unsigned_abs a) (unsigned_abs b) (unsigned_abs z)) (sym h)
    (subst (λ z. IsGcd (unsigned_abs a) (unsigned_abs z) (unsigned_abs g)) f (subst (λ z. IsGcd (unsigned_abs z) (unsigned_abs b') (unsigned_abs g)) e is))

-- ---- the greatest leaves nothing in common

-- what divides a part, times the divisor, divides the number
more_divides : (d part number : ℤ) (e : ℕ) → part *ℤ d ≡ number → e ∣ unsigned_abs part → unsigned_abs d * e ∣ unsigned_abs number
more_divides d part number e is h =
    let size : unsigned_abs d * unsigned_abs part ≡ unsigned_abs number = mul_comm (unsigned_abs d) (unsigned_abs part) ∙ sym (unsigned_abs-mul part d) ∙ ap unsigned_abs is in
    subst (λ n. unsigned_abs d * e ∣ n) size (mul-dvd-mul_left e (unsigned_abs d) h)

size_positive : (d : ℤ) → pos 0 <ℤ d → 0 < unsigned_abs d
size_positive (pos n) h = omega (arith, ints)
size_positive (negsuc n) h = absurd (omega (arith, ints))

pub lowest_parts : (d part scale : ℤ) (parts numbers : List ℤ) → pos 0 <ℤ d → IsGreatest (unsigned_abs d) scale numbers (length numbers) → part *ℤ d ≡ scale → AreParts d parts numbers → (e : ℕ) → Divides e part parts (length parts) → e ≡ 1
lowest_parts d part scale parts numbers some greatest is are e h =
    let more : unsigned_abs d * e ∣ unsigned_abs d = greatest.most (unsigned_abs d * e) (record {
      of_scale = more_divides d part scale e is h.of_scale;
      each = λ i l. more_divides d (int_at parts i) (int_at numbers i) e (are.each i l) (h.each i (omega (arith, are.one_each, l)));
    }) in
    let one : unsigned_abs d * e ∣ unsigned_abs d * 1 = subst (λ n. unsigned_abs d * e ∣ n) (omega arith) more in
    dvd_antisymm (dvd_of_mul-dvd-mul_left e (size_positive d some) one) (one-dvd e)
