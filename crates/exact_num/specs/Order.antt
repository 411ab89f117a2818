-- The order of fractions.
use Rattle.std.specs.declared.cmp.Ordering.{Ordering}
use Rattle.std.specs.declared.cmp.Ordering.TheVariants.{Less, Equal, Greater}
use Rattle.std.specs.Ordering.{MatchOrdering}
use Rattle.std.specs.Cmp.{int_ranks, int_cmp_is}
use Rattle.std.proofs.Common.{◌≢◌}
use Rattle.exact_num.specs.Cross.{cross_cmp}
use Rattle.std.proofs.Common.{ℕ, ◌≡◌, ◌<◌, arith, refl, sym, ◌∙◌, ap, zero, suc, subst, ◌⊎◌, inl, inr}
use Rattle.std.specs.Prelude.{ℤ, pos, negsuc, ◌+ℤ◌, ◌-ℤ◌, ◌*ℤ◌, ◌≤ℤ◌, ◌<ℤ◌}
use Rattle.std.proofs.lemmas.Int.{ints, by_lt_z}
use Rattle.std.proofs.Math.IntN.{*ℤ_comm}
use Rattle.numbers.specs.Algebra.{*ℤ_assoc, *ℤ-positive, *ℤ-<ℤ, -ℤ-*ℤ}
use Rattle.exact_num.specs.Cross.{swap_last}
use Rattle.exact_num.specs.Q.{ℚ, same_value}
use Rattle.exact_num.specs.Over.{IsOver, over_self, over_scaled, over_same, two_over}
use Rattle.exact_num.specs.Ops.{zero_ℚ, neg_ℚ, ◌+ℚ◌, ◌*ℚ◌, zero-over, +ℚ-over, *ℚ-over, +ℚ_comm, +ℚ_assoc, +ℚ-zero, zero-+ℚ, +ℚ-neg, +ℚ-*ℚ, neg-*ℚ, one_ℚ, one-over, inv_ℚ, *ℚ-inv, *ℚ_comm, *ℚ_cancel, +ℚ_cancel, zero-*ℚ}
use Rattle.exact_num.specs.Sums.{sum_ℚ}

infix 4 ◌≤ℚ◌
pub record ◌≤ℚ◌ (a b : ℚ) : Type 0 where
  pub cross : (a.num *ℤ b.den) ≤ℤ (b.num *ℤ a.den)

nonneg : (x c : ℤ) → pos 0 ≤ℤ x → pos 0 ≤ℤ c → pos 0 ≤ℤ (x *ℤ c)
nonneg (pos a) (pos b) p q = omega (arith, ints)
nonneg (pos a) (negsuc b) p q = absurd (omega (arith, ints))
nonneg (negsuc a) c p q = absurd (omega (arith, ints))

scaled : (x y c : ℤ) → pos 0 <ℤ c → x ≤ℤ y → (x *ℤ c) ≤ℤ (y *ℤ c)
scaled x y c k h =
    let rise : pos 0 ≤ℤ ((y -ℤ x) *ℤ c) = nonneg (y -ℤ x) c (omega (arith, ints)) (omega (arith, ints)) in
    omega (arith, ints, -ℤ-*ℤ y x c)

unscaled : (x y c : ℤ) → pos 0 <ℤ c → (x *ℤ c) ≤ℤ (y *ℤ c) → x ≤ℤ y
unscaled x y c k h = by_lt_z y x (λ l. let r : (y *ℤ c) <ℤ (x *ℤ c) = *ℤ-<ℤ y x c l k in absurd (omega (arith, ints))) (λ l. l)

left_part : (a b : ℚ) (n d : ℤ) → IsOver a n d → (a.num *ℤ b.den) *ℤ d ≡ n *ℤ (a.den *ℤ b.den)
left_part a b n d x = swap_last a.num b.den d ∙ ap (λ s. s *ℤ b.den) x.cross ∙ *ℤ_assoc n a.den b.den

-- over one denominator the numerators are compared
pub ≤ℚ-from : (a b : ℚ) (n m d : ℤ) → IsOver a n d → IsOver b m d → n ≤ℤ m → a ≤ℚ b
≤ℚ-from a b n m d x y h = record {
  cross = unscaled (a.num *ℤ b.den) (b.num *ℤ a.den) d x.positive
      (subst (λ s. s ≤ℤ ((b.num *ℤ a.den) *ℤ d)) (sym (left_part a b n d x))
      (subst (λ s. (n *ℤ (a.den *ℤ b.den)) ≤ℤ s) (ap (λ s. m *ℤ s) (*ℤ_comm a.den b.den) ∙ sym (left_part b a m d y))
      (scaled n m (a.den *ℤ b.den) (*ℤ-positive a.den b.den a.low.positive b.low.positive) h)));
}

pub ≤ℚ-to : (a b : ℚ) (n m d : ℤ) → IsOver a n d → IsOver b m d → a ≤ℚ b → n ≤ℤ m
≤ℚ-to a b n m d x y h =
    unscaled n m (a.den *ℤ b.den) (*ℤ-positive a.den b.den a.low.positive b.low.positive)
    (subst (λ s. s ≤ℤ (m *ℤ (a.den *ℤ b.den))) (left_part a b n d x)
    (subst (λ s. ((a.num *ℤ b.den) *ℤ d) ≤ℤ s) (left_part b a m d y ∙ ap (λ s. m *ℤ s) (*ℤ_comm b.den a.den))
    (scaled (a.num *ℤ b.den) (b.num *ℤ a.den) d x.positive h.cross)))

pub ≤ℚ_refl : (a : ℚ) → a ≤ℚ a
≤ℚ_refl a = record { cross = omega (arith, ints) }

pub ≤ℚ_antisymm : (a b : ℚ) → a ≤ℚ b → b ≤ℚ a → a ≡ b
≤ℚ_antisymm a b h k =
    let two = two_over a b in
    let p : two.n ≤ℤ two.m = ≤ℚ-to a b two.n two.m two.d two.first two.second h in
    let q : two.m ≤ℤ two.n = ≤ℚ-to b a two.m two.n two.d two.second two.first k in
    over_same a b two.n two.m two.d two.d two.first two.second (omega (arith, ints)) refl

pub ≤ℚ_total : (a b : ℚ) → (a ≤ℚ b) ⊎ (b ≤ℚ a)
≤ℚ_total a b =
    let two = two_over a b in
    by_lt_z two.n two.m (λ l. inl (≤ℚ-from a b two.n two.m two.d two.first two.second (omega (arith, ints)))) (λ l. inr (≤ℚ-from b a two.m two.n two.d two.second two.first l))

-- three over one denominator
record AreThree (a b c : ℚ) : Type 0 where
  n : ℤ
  m : ℤ
  k : ℤ
  d : ℤ
  first : IsOver a n d
  second : IsOver b m d
  third : IsOver c k d

three : (a b c : ℚ) → AreThree a b c
three a b c =
    let two = two_over a b in record {
      n = two.n *ℤ c.den;
      m = two.m *ℤ c.den;
      k = c.num *ℤ two.d;
      d = two.d *ℤ c.den;
      first = over_scaled a two.n two.d c.den two.first c.low.positive;
      second = over_scaled b two.m two.d c.den two.second c.low.positive;
      third = subst (λ k. IsOver c (c.num *ℤ two.d) k) (*ℤ_comm c.den two.d) (over_scaled c c.num c.den two.d (over_self c) two.first.positive);
    }

pub ≤ℚ_trans : (a b c : ℚ) → a ≤ℚ b → b ≤ℚ c → a ≤ℚ c
≤ℚ_trans a b c h k =
    let t = three a b c in
    let p : t.n ≤ℤ t.m = ≤ℚ-to a b t.n t.m t.d t.first t.second h in
    let q : t.m ≤ℤ t.k = ≤ℚ-to b c t.m t.k t.d t.second t.third k in
    ≤ℚ-from a c t.n t.k t.d t.first t.third (omega (arith, ints))

pub +ℚ-≤ℚ : (a b c : ℚ) → a ≤ℚ b → a +ℚ c ≤ℚ b +ℚ c
+ℚ-≤ℚ a b c h =
    let t = three a b c in
    let p : t.n ≤ℤ t.m = ≤ℚ-to a b t.n t.m t.d t.first t.second h in
    ≤ℚ-from (a +ℚ c) (b +ℚ c) (t.n +ℤ t.k) (t.m +ℤ t.k) t.d (+ℚ-over a c t.n t.k t.d t.first t.third) (+ℚ-over b c t.m t.k t.d t.second t.third) (omega (arith, ints))

pub *ℚ-nonneg : (a b : ℚ) → zero_ℚ ≤ℚ a → zero_ℚ ≤ℚ b → zero_ℚ ≤ℚ a *ℚ b
*ℚ-nonneg a b p q =
    let x = ≤ℚ-to zero_ℚ a (pos 0) a.num a.den (zero-over a.den a.low.positive) (over_self a) p in
    let y = ≤ℚ-to zero_ℚ b (pos 0) b.num b.den (zero-over b.den b.low.positive) (over_self b) q in
    let z = *ℚ-over a b a.num a.den b.num b.den (over_self a) (over_self b) in
    ≤ℚ-from zero_ℚ (a *ℚ b) (pos 0) (a.num *ℤ b.num) (a.den *ℤ b.den) (zero-over (a.den *ℤ b.den) z.positive) z (nonneg a.num b.num x y)

-- from here on only the laws above are used
pub add_both : (a b c d : ℚ) → a ≤ℚ b → c ≤ℚ d → a +ℚ c ≤ℚ b +ℚ d
add_both a b c d h k =
    ≤ℚ_trans (a +ℚ c) (b +ℚ c) (b +ℚ d) (+ℚ-≤ℚ a b c h)
    (subst (λ x. x ≤ℚ b +ℚ d) (+ℚ_comm c b) (subst (λ x. c +ℚ b ≤ℚ x) (+ℚ_comm d b) (+ℚ-≤ℚ c d b k)))

pub to_difference : (a b : ℚ) → a ≤ℚ b → zero_ℚ ≤ℚ b +ℚ neg_ℚ a
to_difference a b h = subst (λ x. x ≤ℚ b +ℚ neg_ℚ a) (+ℚ-neg a) (+ℚ-≤ℚ a b (neg_ℚ a) h)

pub from_difference : (a b : ℚ) → zero_ℚ ≤ℚ b +ℚ neg_ℚ a → a ≤ℚ b
from_difference a b h =
    subst (λ x. x ≤ℚ b) (zero-+ℚ a)
    (subst (λ x. zero_ℚ +ℚ a ≤ℚ x) (+ℚ_assoc b (neg_ℚ a) a ∙ ap (λ x. b +ℚ x) (+ℚ_comm (neg_ℚ a) a ∙ +ℚ-neg a) ∙ +ℚ-zero b) (+ℚ-≤ℚ zero_ℚ (b +ℚ neg_ℚ a) a h))

pub *ℚ-≤ℚ : (a b c : ℚ) → a ≤ℚ b → zero_ℚ ≤ℚ c → a *ℚ c ≤ℚ b *ℚ c
*ℚ-≤ℚ a b c h k =
    from_difference (a *ℚ c) (b *ℚ c)
    (subst (λ x. zero_ℚ ≤ℚ x) (+ℚ-*ℚ b (neg_ℚ a) c ∙ ap (λ x. b *ℚ c +ℚ x) (neg-*ℚ a c)) (*ℚ-nonneg (b +ℚ neg_ℚ a) c (to_difference a b h) k))

pub sum_ℚ-≤ℚ : (f g : ℕ → ℚ) (n : ℕ) → ((i : ℕ) → i < n → f i ≤ℚ g i) → sum_ℚ f n ≤ℚ sum_ℚ g n
sum_ℚ-≤ℚ f g zero h = ≤ℚ_refl zero_ℚ
sum_ℚ-≤ℚ f g (suc n) h = add_both (sum_ℚ f n) (sum_ℚ g n) (f n) (g n) (sum_ℚ-≤ℚ f g n (λ i l. h i (omega arith))) (h n (omega arith))

-- how two fractions compare
abbrev pub cmp_ℚ : ℚ → ℚ → Ordering
cmp_ℚ p q = cross_cmp p.num p.den q.num q.den

-- ---- strictly less, and what a comparison says

infix 4 ◌<ℚ◌
pub record ◌<ℚ◌ (a b : ℚ) : Type 0 where
  pub cross : (a.num *ℤ b.den) <ℤ (b.num *ℤ a.den)

pub cmp-less : (a b : ℚ) → cmp_ℚ a b ≡ Less → a <ℚ b
cmp-less a b e =
    let x = a.num *ℤ b.den in
    let y = b.num *ℤ a.den in
    record { cross = subst (λ o. MatchOrdering o (x <ℤ y) (x ≡ y) (y <ℤ x)) e (int_ranks x y) }

pub cmp-equal : (a b : ℚ) → cmp_ℚ a b ≡ Equal → a ≡ b
cmp-equal a b e =
    let x = a.num *ℤ b.den in
    let y = b.num *ℤ a.den in
    same_value a b (subst (λ o. MatchOrdering o (x <ℤ y) (x ≡ y) (y <ℤ x)) e (int_ranks x y))

pub cmp-greater : (a b : ℚ) → cmp_ℚ a b ≡ Greater → b <ℚ a
cmp-greater a b e =
    let x = a.num *ℤ b.den in
    let y = b.num *ℤ a.den in
    record { cross = subst (λ o. MatchOrdering o (x <ℤ y) (x ≡ y) (y <ℤ x)) e (int_ranks x y) }

pub less-cmp : (a b : ℚ) → a <ℚ b → cmp_ℚ a b ≡ Less
less-cmp a b h = sym (int_cmp_is (a.num *ℤ b.den) (b.num *ℤ a.den) Less h.cross)

pub <ℚ-≤ℚ : (a b : ℚ) → a <ℚ b → a ≤ℚ b
<ℚ-≤ℚ a b h = let l : (a.num *ℤ b.den) <ℤ (b.num *ℤ a.den) = h.cross in record { cross = omega (arith, ints) }

pub <ℚ-not-≤ℚ : (a b : ℚ) → a <ℚ b → b ≤ℚ a → ⊥
<ℚ-not-≤ℚ a b h k =
    let l : (a.num *ℤ b.den) <ℤ (b.num *ℤ a.den) = h.cross in
    let m : (b.num *ℤ a.den) ≤ℤ (a.num *ℤ b.den) = k.cross in
    omega (arith, ints)

pub <ℚ_or_≤ℚ : (a b : ℚ) → (a <ℚ b) ⊎ (b ≤ℚ a)
<ℚ_or_≤ℚ a b = by_lt_z (a.num *ℤ b.den) (b.num *ℤ a.den) (λ l. inl (record { cross = l })) (λ l. inr (record { cross = l }))

pub ≤ℚ-<ℚ : (a b : ℚ) → a ≤ℚ b → a ≢ b → a <ℚ b
≤ℚ-<ℚ a b h ne = elim (<ℚ_or_≤ℚ a b) [ inl l ↦ l | inr k ↦ absurd (ne (≤ℚ_antisymm a b h k)) ]

pub <ℚ-not-≡ : (a b : ℚ) → a <ℚ b → a ≢ b
<ℚ-not-≡ a b h e = <ℚ-not-≤ℚ a b h (subst (λ x. x ≤ℚ a) e (≤ℚ_refl a))

pub <ℚ_trans : (a b c : ℚ) → a <ℚ b → b ≤ℚ c → a <ℚ c
<ℚ_trans a b c h k = elim (<ℚ_or_≤ℚ a c) [ inl l ↦ l | inr m ↦ absurd (<ℚ-not-≤ℚ a b h (≤ℚ_trans b c a k m)) ]

pub +ℚ-<ℚ : (a b c : ℚ) → a <ℚ b → a +ℚ c <ℚ b +ℚ c
+ℚ-<ℚ a b c h = ≤ℚ-<ℚ (a +ℚ c) (b +ℚ c) (+ℚ-≤ℚ a b c (<ℚ-≤ℚ a b h)) (λ e. <ℚ-not-≡ a b h (+ℚ_cancel a b c e))

positive_some : (c : ℚ) → zero_ℚ <ℚ c → c ≢ zero_ℚ
positive_some c h e = <ℚ-not-≡ zero_ℚ c h (sym e)

pub *ℚ-<ℚ : (a b c : ℚ) → a <ℚ b → zero_ℚ <ℚ c → a *ℚ c <ℚ b *ℚ c
*ℚ-<ℚ a b c h k =
    ≤ℚ-<ℚ (a *ℚ c) (b *ℚ c) (*ℚ-≤ℚ a b c (<ℚ-≤ℚ a b h) (<ℚ-≤ℚ zero_ℚ c k)) (λ e. <ℚ-not-≡ a b h (*ℚ_cancel a b c (positive_some c k) e))

pub *ℚ-positive : (a b : ℚ) → zero_ℚ <ℚ a → zero_ℚ <ℚ b → zero_ℚ <ℚ a *ℚ b
*ℚ-positive a b p q = subst (λ x. x <ℚ a *ℚ b) (zero-*ℚ b) (*ℚ-<ℚ zero_ℚ a b p q)

pub zero-<ℚ-one : zero_ℚ <ℚ one_ℚ
zero-<ℚ-one = elim (<ℚ_or_≤ℚ zero_ℚ one_ℚ) [
  | inl l ↦ l
  | inr h ↦
      let one : pos 0 <ℤ pos 1 = omega (arith, ints) in
      let k : pos 1 ≤ℤ pos 0 = ≤ℚ-to one_ℚ zero_ℚ (pos 1) (pos 0) (pos 1) (one-over (pos 1) one) (zero-over (pos 1) one) h in
      absurd (omega (arith, ints))
]

pub inv-positive : (a : ℚ) → zero_ℚ <ℚ a → zero_ℚ <ℚ inv_ℚ a
inv-positive a h = elim (<ℚ_or_≤ℚ zero_ℚ (inv_ℚ a)) [
  | inl l ↦ l
  | inr k ↦
      let below : inv_ℚ a *ℚ a ≤ℚ zero_ℚ *ℚ a = *ℚ-≤ℚ (inv_ℚ a) zero_ℚ a k (<ℚ-≤ℚ zero_ℚ a h) in
      let one : inv_ℚ a *ℚ a ≡ one_ℚ = *ℚ_comm (inv_ℚ a) a ∙ *ℚ-inv a (positive_some a h) in
      absurd (<ℚ-not-≤ℚ zero_ℚ one_ℚ zero-<ℚ-one (subst (λ x. x ≤ℚ zero_ℚ) one (subst (λ x. inv_ℚ a *ℚ a ≤ℚ x) (zero-*ℚ a) below)))
]
