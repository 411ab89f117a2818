-- Sums and products of fractions, and their laws.
use Rattle.std.proofs.Common.{ℕ, ◌≡◌, arith, refl, sym, ◌∙◌, ap, ap₂, zero, suc, ◌≢◌, subst, mul-one}
use Rattle.std.specs.Prelude.{ℤ, pos, negsuc, ◌+ℤ◌, ◌*ℤ◌, ◌<ℤ◌, neg_ℤ}
use Rattle.std.proofs.lemmas.Int.{ints}
use Rattle.std.proofs.Math.IntN.{*ℤ_comm, zero-*ℤ, *ℤ-negsuc, neg_ℤ-neg_ℤ}
use Rattle.numbers.specs.Algebra.{*ℤ-+ℤ, +ℤ-*ℤ, *ℤ_assoc, *ℤ-positive}
use Rattle.exact_num.specs.Cross.{swap_last}
use Rattle.std.specs.Prelude.{unsigned_abs}
use Rattle.exact_num.specs.Signs.{turned_num}
use Rattle.exact_num.specs.Q.{ℚ}
use Rattle.exact_num.specs.Over.{lowest, IsOver, over_self, over_moved, over_scaled, over_same, two_over, *ℤ_middle, neg-*ℤ}

infixl 6 ◌+ℚ◌
infixl 7 ◌*ℚ◌
-- a proof that stands in a definition needs a name: two calls of a tactic are two terms
suc-positive : (k : ℕ) → pos 0 <ℤ pos (suc k)
suc-positive k = omega (arith, ints)

pub zero_ℚ : ℚ
zero_ℚ = (lowest (pos 0) (pos 1) (suc-positive zero)).0

pub one_ℚ : ℚ
one_ℚ = (lowest (pos 1) (pos 1) (suc-positive zero)).0

pub ◌+ℚ◌ : ℚ → ℚ → ℚ
a +ℚ b = (lowest ((a.num *ℤ b.den) +ℤ (b.num *ℤ a.den)) (a.den *ℤ b.den) (*ℤ-positive a.den b.den a.low.positive b.low.positive)).0

pub ◌*ℚ◌ : ℚ → ℚ → ℚ
a *ℚ b = (lowest (a.num *ℤ b.num) (a.den *ℤ b.den) (*ℤ-positive a.den b.den a.low.positive b.low.positive)).0

pub neg_ℚ : ℚ → ℚ
neg_ℚ a = (lowest (neg_ℤ a.num) a.den a.low.positive).0

pub times_one : (a : ℤ) → a *ℤ pos 1 ≡ a
times_one (pos n) = ap pos (mul-one n)
times_one (negsuc n) = ap (λ x. neg_ℤ (pos x)) (mul-one (suc n))

turned : ℤ → ℤ → ℚ
turned (pos zero) d = zero_ℚ
turned (pos (suc k)) d = (lowest d (pos (suc k)) (suc-positive k)).0
turned (negsuc k) d = (lowest (neg_ℤ d) (pos (suc k)) (suc-positive k)).0

pub inv_ℚ : ℚ → ℚ
inv_ℚ a = turned a.num a.den

-- what the definitions say, over any denominators
pub zero-over : (d : ℤ) → pos 0 <ℤ d → IsOver zero_ℚ (pos 0) d
unfolding zero_ℚ
zero-over d p =
    let is = (lowest (pos 0) (pos 1) (omega (arith, ints))).1 in
    over_moved _ (pos 0) (pos 1) (pos 0) d is p (zero-*ℤ d ∙ sym (zero-*ℤ (pos 1)))

pub one-over : (d : ℤ) → pos 0 <ℤ d → IsOver one_ℚ d d
unfolding one_ℚ
one-over d p = over_moved _ (pos 1) (pos 1) d d (lowest (pos 1) (pos 1) (omega (arith, ints))).1 p (*ℤ_comm (pos 1) d)

pub +ℚ-over : (a b : ℚ) (n m d : ℤ) → IsOver a n d → IsOver b m d → IsOver (a +ℚ b) (n +ℤ m) d
unfolding ◌+ℚ◌
+ℚ-over a b n m d x y =
    let is = (lowest ((a.num *ℤ b.den) +ℤ (b.num *ℤ a.den)) (a.den *ℤ b.den) (*ℤ-positive a.den b.den a.low.positive b.low.positive)).1 in
    over_moved _ ((a.num *ℤ b.den) +ℤ (b.num *ℤ a.den)) (a.den *ℤ b.den) (n +ℤ m) d is x.positive
    (+ℤ-*ℤ (a.num *ℤ b.den) (b.num *ℤ a.den) d
    ∙ ap₂ (λ s t. s +ℤ t)
    (swap_last a.num b.den d ∙ ap (λ s. s *ℤ b.den) x.cross ∙ *ℤ_assoc n a.den b.den)
    (swap_last b.num a.den d ∙ ap (λ s. s *ℤ a.den) y.cross ∙ swap_last m b.den a.den ∙ *ℤ_assoc m a.den b.den)
    ∙ sym (+ℤ-*ℤ n m (a.den *ℤ b.den)))

pub *ℚ-over : (a b : ℚ) (n d m e : ℤ) → IsOver a n d → IsOver b m e → IsOver (a *ℚ b) (n *ℤ m) (d *ℤ e)
unfolding ◌*ℚ◌
*ℚ-over a b n d m e x y =
    let is = (lowest (a.num *ℤ b.num) (a.den *ℤ b.den) (*ℤ-positive a.den b.den a.low.positive b.low.positive)).1 in
    over_moved _ (a.num *ℤ b.num) (a.den *ℤ b.den) (n *ℤ m) (d *ℤ e) is (*ℤ-positive d e x.positive y.positive)
    (*ℤ_middle a.num b.num d e ∙ ap₂ (λ s t. s *ℤ t) x.cross y.cross ∙ *ℤ_middle n a.den m b.den)

pub neg-over : (a : ℚ) (n d : ℤ) → IsOver a n d → IsOver (neg_ℚ a) (neg_ℤ n) d
unfolding neg_ℚ
neg-over a n d x =
    over_moved _ (neg_ℤ a.num) a.den (neg_ℤ n) d (lowest (neg_ℤ a.num) a.den a.low.positive).1 x.positive
    (neg-*ℤ a.num d ∙ ap neg_ℤ x.cross ∙ sym (neg-*ℤ n a.den))

-- the laws
pub +ℚ_assoc : (a b c : ℚ) → (a +ℚ b) +ℚ c ≡ a +ℚ (b +ℚ c)
+ℚ_assoc a b c =
    let two = two_over a b in
    let x = over_scaled a two.n two.d c.den two.first c.low.positive in
    let y = over_scaled b two.m two.d c.den two.second c.low.positive in
    let z = subst (λ k. IsOver c (c.num *ℤ two.d) k) (*ℤ_comm c.den two.d) (over_scaled c c.num c.den two.d (over_self c) two.first.positive) in
    let d = two.d *ℤ c.den in
    over_same ((a +ℚ b) +ℚ c) (a +ℚ (b +ℚ c)) _ _ d d
    (+ℚ-over (a +ℚ b) c _ _ d (+ℚ-over a b _ _ d x y) z)
    (+ℚ-over a (b +ℚ c) _ _ d x (+ℚ-over b c _ _ d y z))
    (sums (two.n *ℤ c.den) (two.m *ℤ c.den) (c.num *ℤ two.d)) refl
  where
    sums : (x y z : ℤ) → (x +ℤ y) +ℤ z ≡ x +ℤ (y +ℤ z)
    sums x y z = omega (arith, ints)

pub +ℚ_comm : (a b : ℚ) → a +ℚ b ≡ b +ℚ a
+ℚ_comm a b =
    let two = two_over a b in
    over_same (a +ℚ b) (b +ℚ a) (two.n +ℤ two.m) (two.m +ℤ two.n) two.d two.d (+ℚ-over a b two.n two.m two.d two.first two.second) (+ℚ-over b a two.m two.n two.d two.second two.first) (sums two.n two.m) refl
  where
    sums : (x y : ℤ) → x +ℤ y ≡ y +ℤ x
    sums x y = omega (arith, ints)

pub +ℚ-zero : (a : ℚ) → a +ℚ zero_ℚ ≡ a
+ℚ-zero a =
    over_same (a +ℚ zero_ℚ) a (a.num +ℤ pos 0) a.num a.den a.den (+ℚ-over a zero_ℚ a.num (pos 0) a.den (over_self a) (zero-over a.den a.low.positive)) (over_self a) (omega (arith, ints)) refl

pub +ℚ-neg : (a : ℚ) → a +ℚ neg_ℚ a ≡ zero_ℚ
+ℚ-neg a =
    over_same (a +ℚ neg_ℚ a) zero_ℚ (a.num +ℤ neg_ℤ a.num) (pos 0) a.den a.den (+ℚ-over a (neg_ℚ a) a.num (neg_ℤ a.num) a.den (over_self a) (neg-over a a.num a.den (over_self a))) (zero-over a.den a.low.positive) (omega (arith, ints)) refl

pub *ℚ_assoc : (a b c : ℚ) → (a *ℚ b) *ℚ c ≡ a *ℚ (b *ℚ c)
*ℚ_assoc a b c =
    over_same ((a *ℚ b) *ℚ c) (a *ℚ (b *ℚ c)) _ _ _ _
    (*ℚ-over (a *ℚ b) c _ _ _ _ (*ℚ-over a b _ _ _ _ (over_self a) (over_self b)) (over_self c))
    (*ℚ-over a (b *ℚ c) _ _ _ _ (over_self a) (*ℚ-over b c _ _ _ _ (over_self b) (over_self c)))
    (*ℤ_assoc a.num b.num c.num) (*ℤ_assoc a.den b.den c.den)

pub *ℚ_comm : (a b : ℚ) → a *ℚ b ≡ b *ℚ a
*ℚ_comm a b =
    over_same (a *ℚ b) (b *ℚ a) _ _ _ _ (*ℚ-over a b _ _ _ _ (over_self a) (over_self b)) (*ℚ-over b a _ _ _ _ (over_self b) (over_self a)) (*ℤ_comm a.num b.num) (*ℤ_comm a.den b.den)

pub *ℚ-one : (a : ℚ) → a *ℚ one_ℚ ≡ a
*ℚ-one a =
    over_same (a *ℚ one_ℚ) a (a.num *ℤ pos 1) a.num (a.den *ℤ pos 1) a.den (*ℚ-over a one_ℚ a.num a.den (pos 1) (pos 1) (over_self a) (one-over (pos 1) (omega (arith, ints)))) (over_self a) (times_one a.num) (times_one a.den)

pub *ℚ-+ℚ : (a b c : ℚ) → a *ℚ (b +ℚ c) ≡ (a *ℚ b) +ℚ (a *ℚ c)
*ℚ-+ℚ a b c =
    let two = two_over b c in
    let d = a.den *ℤ two.d in
    over_same (a *ℚ (b +ℚ c)) ((a *ℚ b) +ℚ (a *ℚ c)) (a.num *ℤ (two.n +ℤ two.m)) ((a.num *ℤ two.n) +ℤ (a.num *ℤ two.m)) d d
    (*ℚ-over a (b +ℚ c) a.num a.den (two.n +ℤ two.m) two.d (over_self a) (+ℚ-over b c two.n two.m two.d two.first two.second))
    (+ℚ-over (a *ℚ b) (a *ℚ c) (a.num *ℤ two.n) (a.num *ℤ two.m) d
    (*ℚ-over a b a.num a.den two.n two.d (over_self a) two.first)
    (*ℚ-over a c a.num a.den two.m two.d (over_self a) two.second))
    (*ℤ-+ℤ a.num two.n two.m) refl

turned_times : (a : ℚ) (n : ℤ) → a.num ≡ n → a ≢ zero_ℚ → a *ℚ turned n a.den ≡ one_ℚ
unfolding turned
turned_times a (pos zero) e h =
    absurd (h (over_same a zero_ℚ a.num (pos 0) a.den a.den (over_self a) (zero-over a.den a.low.positive) e refl))
turned_times a (pos (suc k)) e h =
    let is = (lowest a.den (pos (suc k)) (suc-positive k)).1 in
    let d = a.den *ℤ pos (suc k) in
    let x = *ℚ-over a _ a.num a.den a.den (pos (suc k)) (over_self a) is in
    over_same _ one_ℚ (a.num *ℤ a.den) d d d x (one-over d x.positive) (ap (λ z. z *ℤ a.den) e ∙ *ℤ_comm (pos (suc k)) a.den) refl
turned_times a (negsuc k) e h =
    let is = (lowest (neg_ℤ a.den) (pos (suc k)) (suc-positive k)).1 in
    let d = a.den *ℤ pos (suc k) in
    let x = *ℚ-over a _ a.num a.den (neg_ℤ a.den) (pos (suc k)) (over_self a) is in
    over_same _ one_ℚ (a.num *ℤ neg_ℤ a.den) d d d x (one-over d x.positive)
    (ap (λ z. z *ℤ neg_ℤ a.den) e ∙ *ℤ_comm (negsuc k) (neg_ℤ a.den) ∙ neg-*ℤ a.den (negsuc k) ∙ ap neg_ℤ (*ℤ-negsuc a.den k) ∙ neg_ℤ-neg_ℤ (a.den *ℤ pos (suc k))) refl

pub *ℚ-inv : (a : ℚ) → a ≢ zero_ℚ → a *ℚ inv_ℚ a ≡ one_ℚ
unfolding inv_ℚ
*ℚ-inv a h = turned_times a a.num refl h

turned-over : (n d : ℤ) → n ≢ pos 0 → IsOver (turned n d) (turned_num n d) (pos (unsigned_abs n))
unfolding turned
turned-over (pos zero) d h = absurd (h refl)
turned-over (pos (suc k)) d h = (lowest d (pos (suc k)) (suc-positive k)).1
turned-over (negsuc k) d h = (lowest (neg_ℤ d) (pos (suc k)) (suc-positive k)).1

pub inv-over : (a : ℚ) → a.num ≢ pos 0 → IsOver (inv_ℚ a) (turned_num a.num a.den) (pos (unsigned_abs a.num))
unfolding inv_ℚ
inv-over a h = turned-over a.num a.den h

-- what follows from these
pub zero-+ℚ : (a : ℚ) → zero_ℚ +ℚ a ≡ a
zero-+ℚ a = +ℚ_comm zero_ℚ a ∙ +ℚ-zero a

pub +ℚ-*ℚ : (a b c : ℚ) → (a +ℚ b) *ℚ c ≡ (a *ℚ c) +ℚ (b *ℚ c)
+ℚ-*ℚ a b c = *ℚ_comm (a +ℚ b) c ∙ *ℚ-+ℚ c a b ∙ ap₂ (λ x y. x +ℚ y) (*ℚ_comm c a) (*ℚ_comm c b)

-- (a + b) + (c + d) with b and c changed over
pub +ℚ_middle : (a b c d : ℚ) → (a +ℚ b) +ℚ (c +ℚ d) ≡ (a +ℚ c) +ℚ (b +ℚ d)
+ℚ_middle a b c d =
    +ℚ_assoc a b (c +ℚ d) ∙ ap (λ x. a +ℚ x) (sym (+ℚ_assoc b c d) ∙ ap (λ x. x +ℚ d) (+ℚ_comm b c) ∙ +ℚ_assoc c b d) ∙ sym (+ℚ_assoc a c (b +ℚ d))

pub +ℚ-last : (a b c : ℚ) → (a +ℚ b) +ℚ c ≡ (a +ℚ c) +ℚ b
+ℚ-last a b c = +ℚ_assoc a b c ∙ ap (λ x. a +ℚ x) (+ℚ_comm b c) ∙ sym (+ℚ_assoc a c b)

pub *ℚ-last : (a b c : ℚ) → (a *ℚ b) *ℚ c ≡ (a *ℚ c) *ℚ b
*ℚ-last a b c = *ℚ_assoc a b c ∙ ap (λ x. a *ℚ x) (*ℚ_comm b c) ∙ sym (*ℚ_assoc a c b)

pub +ℚ_cancel : (a b c : ℚ) → a +ℚ c ≡ b +ℚ c → a ≡ b
+ℚ_cancel a b c e =
    let back : (x : ℚ) → (x +ℚ c) +ℚ neg_ℚ c ≡ x = λ x. +ℚ_assoc x c (neg_ℚ c) ∙ ap (λ y. x +ℚ y) (+ℚ-neg c) ∙ +ℚ-zero x in
    sym (back a) ∙ ap (λ y. y +ℚ neg_ℚ c) e ∙ back b

pub *ℚ-zero : (a : ℚ) → a *ℚ zero_ℚ ≡ zero_ℚ
*ℚ-zero a = +ℚ_cancel (a *ℚ zero_ℚ) zero_ℚ (a *ℚ zero_ℚ)
    (sym (*ℚ-+ℚ a zero_ℚ zero_ℚ) ∙ ap (λ x. a *ℚ x) (+ℚ-zero zero_ℚ) ∙ sym (zero-+ℚ (a *ℚ zero_ℚ)))

pub zero-*ℚ : (a : ℚ) → zero_ℚ *ℚ a ≡ zero_ℚ
zero-*ℚ a = *ℚ_comm zero_ℚ a ∙ *ℚ-zero a

pub neg-*ℚ : (a b : ℚ) → neg_ℚ a *ℚ b ≡ neg_ℚ (a *ℚ b)
neg-*ℚ a b = +ℚ_cancel (neg_ℚ a *ℚ b) (neg_ℚ (a *ℚ b)) (a *ℚ b)
    (sym (+ℚ-*ℚ (neg_ℚ a) a b) ∙ ap (λ x. x *ℚ b) (+ℚ_comm (neg_ℚ a) a ∙ +ℚ-neg a) ∙ zero-*ℚ b ∙ sym (+ℚ_comm (neg_ℚ (a *ℚ b)) (a *ℚ b) ∙ +ℚ-neg (a *ℚ b)))

pub neg-swap : (a b : ℚ) → neg_ℚ a *ℚ b ≡ neg_ℚ b *ℚ a
neg-swap a b = neg-*ℚ a b ∙ ap neg_ℚ (*ℚ_comm a b) ∙ sym (neg-*ℚ b a)

pub *ℚ_cancel : (a b c : ℚ) → c ≢ zero_ℚ → a *ℚ c ≡ b *ℚ c → a ≡ b
*ℚ_cancel a b c h e =
    let back : (x : ℚ) → (x *ℚ c) *ℚ inv_ℚ c ≡ x = λ x. *ℚ_assoc x c (inv_ℚ c) ∙ ap (λ y. x *ℚ y) (*ℚ-inv c h) ∙ *ℚ-one x in
    sym (back a) ∙ ap (λ y. y *ℚ inv_ℚ c) e ∙ back b

pub one-*ℚ : (a : ℚ) → one_ℚ *ℚ a ≡ a
one-*ℚ a = *ℚ_comm one_ℚ a ∙ *ℚ-one a
