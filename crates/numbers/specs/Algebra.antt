-- Products of whole numbers, which std leaves out.
use Rattle.std.proofs.Common.{ℕ, ◌≡◌, ◌*◌, ◌<◌, arith, refl, sym, ◌∙◌, ap, zero, suc}
use Rattle.std.specs.Prelude.{ℤ, pos, negsuc, ◌+ℤ◌, ◌-ℤ◌, ◌*ℤ◌, ◌≤ℤ◌, ◌<ℤ◌}
use Rattle.std.proofs.lemmas.Int.{ints}
use Rattle.std.proofs.Math.IntN.{suc_ℤ-*ℤ, pred_ℤ-*ℤ, zero-*ℤ, *ℤ_comm}

distrib_pos : (n : ℕ) (b c : ℤ) → pos n *ℤ (b +ℤ c) ≡ (pos n *ℤ b) +ℤ (pos n *ℤ c)
distrib_pos zero b c = omega (arith, ints, zero-*ℤ (b +ℤ c), zero-*ℤ b, zero-*ℤ c)
distrib_pos (suc n) b c = omega (arith, ints, suc_ℤ-*ℤ (pos n) (b +ℤ c), suc_ℤ-*ℤ (pos n) b, suc_ℤ-*ℤ (pos n) c, distrib_pos n b c)

distrib_neg : (n : ℕ) (b c : ℤ) → negsuc n *ℤ (b +ℤ c) ≡ (negsuc n *ℤ b) +ℤ (negsuc n *ℤ c)
distrib_neg zero b c = omega (arith, ints, zero-*ℤ (b +ℤ c), zero-*ℤ b, zero-*ℤ c, pred_ℤ-*ℤ (pos 0) (b +ℤ c), pred_ℤ-*ℤ (pos 0) b, pred_ℤ-*ℤ (pos 0) c)
distrib_neg (suc n) b c = omega (arith, ints, pred_ℤ-*ℤ (negsuc n) (b +ℤ c), pred_ℤ-*ℤ (negsuc n) b, pred_ℤ-*ℤ (negsuc n) c, distrib_neg n b c)

pub *ℤ-+ℤ : (a b c : ℤ) → a *ℤ (b +ℤ c) ≡ (a *ℤ b) +ℤ (a *ℤ c)
*ℤ-+ℤ (pos n) b c = distrib_pos n b c
*ℤ-+ℤ (negsuc n) b c = distrib_neg n b c

pub +ℤ-*ℤ : (a b c : ℤ) → (a +ℤ b) *ℤ c ≡ (a *ℤ c) +ℤ (b *ℤ c)
+ℤ-*ℤ a b c = *ℤ_comm (a +ℤ b) c ∙ *ℤ-+ℤ c a b ∙ ap (λ x. x +ℤ (c *ℤ b)) (*ℤ_comm c a) ∙ ap (λ x. (a *ℤ c) +ℤ x) (*ℤ_comm c b)

assoc_pos : (n : ℕ) (b c : ℤ) → (pos n *ℤ b) *ℤ c ≡ pos n *ℤ (b *ℤ c)
assoc_pos zero b c = rw (zero-*ℤ b, zero-*ℤ c, zero-*ℤ (b *ℤ c)) refl
assoc_pos (suc n) b c = ap (λ x. x *ℤ c) (suc_ℤ-*ℤ (pos n) b) ∙ +ℤ-*ℤ (pos n *ℤ b) b c ∙ ap (λ x. x +ℤ (b *ℤ c)) (assoc_pos n b c) ∙ sym (suc_ℤ-*ℤ (pos n) (b *ℤ c))

pub -ℤ-*ℤ : (a b c : ℤ) → (a -ℤ b) *ℤ c ≡ (a *ℤ c) -ℤ (b *ℤ c)
-ℤ-*ℤ a b c =
    let whole : a ≡ (a -ℤ b) +ℤ b = omega (arith, ints) in
    let split : ((a -ℤ b) +ℤ b) *ℤ c ≡ ((a -ℤ b) *ℤ c) +ℤ (b *ℤ c) = +ℤ-*ℤ (a -ℤ b) b c in
    omega (arith, ints, split, ap (λ x. x *ℤ c) whole)

assoc_neg : (n : ℕ) (b c : ℤ) → (negsuc n *ℤ b) *ℤ c ≡ negsuc n *ℤ (b *ℤ c)
assoc_neg zero b c =
    let e : negsuc 0 *ℤ b ≡ pos 0 -ℤ b = omega (arith, ints, pred_ℤ-*ℤ (pos 0) b, zero-*ℤ b) in
    ap (λ x. x *ℤ c) e ∙ -ℤ-*ℤ (pos 0) b c ∙ omega (arith, ints, zero-*ℤ c, pred_ℤ-*ℤ (pos 0) (b *ℤ c), zero-*ℤ (b *ℤ c))
assoc_neg (suc n) b c =
    ap (λ x. x *ℤ c) (pred_ℤ-*ℤ (negsuc n) b) ∙ -ℤ-*ℤ (negsuc n *ℤ b) b c ∙ ap (λ x. x -ℤ (b *ℤ c)) (assoc_neg n b c) ∙ sym (pred_ℤ-*ℤ (negsuc n) (b *ℤ c))

pub *ℤ_assoc : (a b c : ℤ) → (a *ℤ b) *ℤ c ≡ a *ℤ (b *ℤ c)
*ℤ_assoc (pos n) b c = assoc_pos n b c
*ℤ_assoc (negsuc n) b c = assoc_neg n b c

pos_mul : (m n : ℕ) → 0 < m → 0 < n → 0 < m * n
pos_mul m n p q = grind arith

pub *ℤ-positive : (a b : ℤ) → pos 0 <ℤ a → pos 0 <ℤ b → pos 0 <ℤ (a *ℤ b)
*ℤ-positive (pos m) (pos n) p q = let r : 0 < m * n = pos_mul m n (omega (arith, ints)) (omega (arith, ints)) in omega (arith, ints)
*ℤ-positive (pos m) (negsuc n) p q = absurd (omega (arith, ints))
*ℤ-positive (negsuc m) b p q = absurd (omega (arith, ints))

pub *ℤ-<ℤ : (a b c : ℤ) → a <ℤ b → pos 0 <ℤ c → (a *ℤ c) <ℤ (b *ℤ c)
*ℤ-<ℤ a b c h k =
    let more : pos 0 <ℤ (b -ℤ a) = omega (arith, ints) in
    let rise : pos 0 <ℤ ((b -ℤ a) *ℤ c) = *ℤ-positive (b -ℤ a) c more k in
    let split : (b -ℤ a) *ℤ c ≡ (b *ℤ c) -ℤ (a *ℤ c) = -ℤ-*ℤ b a c in
    omega (arith, ints)

pub nonneg_product : (a b : ℤ) → pos 0 ≤ℤ a → pos 0 ≤ℤ b → pos 0 ≤ℤ (a *ℤ b)
nonneg_product (pos m) (pos n) p q = omega (arith, ints)
nonneg_product (pos m) (negsuc n) p q = absurd (omega (arith, ints))
nonneg_product (negsuc m) b p q = absurd (omega (arith, ints))

pub *ℤ-≤ℤ : (c a b : ℤ) → pos 0 ≤ℤ c → a ≤ℤ b → (c *ℤ a) ≤ℤ (c *ℤ b)
*ℤ-≤ℤ c a b k h =
    let more : pos 0 ≤ℤ (b -ℤ a) = omega (arith, ints) in
    let rise : pos 0 ≤ℤ (c *ℤ (b -ℤ a)) = nonneg_product c (b -ℤ a) k more in
    let whole : (b -ℤ a) +ℤ a ≡ b = omega (arith, ints) in
    let split : c *ℤ b ≡ (c *ℤ (b -ℤ a)) +ℤ (c *ℤ a) = ap (λ x. c *ℤ x) (sym whole) ∙ *ℤ-+ℤ c (b -ℤ a) a in
    omega (arith, ints)

-- how an identity of products goes: list the instances, and the rest is linear
pub cross : (a b c d e : ℤ) → ((a *ℤ d) +ℤ (c *ℤ b)) *ℤ e ≡ (a *ℤ (d *ℤ e)) +ℤ ((c *ℤ e) *ℤ b)
cross a b c d e = omega (arith, ints, +ℤ-*ℤ (a *ℤ d) (c *ℤ b) e, *ℤ_assoc a d e, *ℤ_assoc c b e, *ℤ_assoc c e b, ap (λ x. c *ℤ x) (*ℤ_comm b e))
