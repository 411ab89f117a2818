-- Laws of specs/States.
use Rattle.std.proofs.Common.{◌≡◌, ◌≢◌, sym, ◌∙◌, ap, ap₂, subst, inl, inr}
use Rattle.exact_num.specs.Q.{ℚ}
use Rattle.exact_num.specs.Ops.{zero_ℚ, neg_ℚ, inv_ℚ, ◌+ℚ◌, ◌*ℚ◌, +ℚ_assoc, +ℚ_comm, +ℚ-zero, zero-+ℚ, +ℚ-neg, *ℚ_comm, *ℚ_assoc, *ℚ-one, *ℚ-zero, zero-*ℚ, neg-*ℚ, *ℚ-inv, *ℚ_cancel}
use Rattle.exact_num.specs.Order.{◌≤ℚ◌, ◌<ℚ◌, ≤ℚ_refl, ≤ℚ_antisymm, +ℚ-≤ℚ, *ℚ-nonneg, <ℚ_or_≤ℚ, <ℚ-≤ℚ, ≤ℚ-<ℚ, <ℚ-not-≤ℚ, <ℚ-not-≡, inv-positive}
use Rattle.simplex_tableau.proofs.DualityLaws.{ratio_keeps, ratio_least, ratio_free}
use Rattle.simplex_tableau.specs.declared.state.RowState.{RowState}
use Rattle.simplex_tableau.specs.declared.state.RowState.TheVariants as state
use Rattle.simplex_tableau.specs.States.{Limited, Limits, Okay, limited_above, limited_below}

-- ---- signs
pub neg_neg : (a : ℚ) → neg_ℚ (neg_ℚ a) ≡ a
neg_neg a = sym (+ℚ-zero (neg_ℚ (neg_ℚ a))) ∙ ap (λ u. neg_ℚ (neg_ℚ a) +ℚ u) (sym (+ℚ_comm (neg_ℚ a) a ∙ +ℚ-neg a)) ∙ sym (+ℚ_assoc (neg_ℚ (neg_ℚ a)) (neg_ℚ a) a)
    ∙ ap (λ u. u +ℚ a) (+ℚ_comm (neg_ℚ (neg_ℚ a)) (neg_ℚ a) ∙ +ℚ-neg (neg_ℚ a)) ∙ zero-+ℚ a

pub neg-zero : neg_ℚ zero_ℚ ≡ zero_ℚ
neg-zero = sym (zero-+ℚ (neg_ℚ zero_ℚ)) ∙ +ℚ-neg zero_ℚ

pub neg-≤ℚ : (a b : ℚ) → a ≤ℚ b → neg_ℚ b ≤ℚ neg_ℚ a
neg-≤ℚ a b h =
    let c = neg_ℚ a +ℚ neg_ℚ b in
    let left : a +ℚ c ≡ neg_ℚ b = sym (+ℚ_assoc a (neg_ℚ a) (neg_ℚ b)) ∙ ap (λ u. u +ℚ neg_ℚ b) (+ℚ-neg a) ∙ zero-+ℚ (neg_ℚ b) in
    let right : b +ℚ c ≡ neg_ℚ a = ap (λ u. b +ℚ u) (+ℚ_comm (neg_ℚ a) (neg_ℚ b)) ∙ sym (+ℚ_assoc b (neg_ℚ b) (neg_ℚ a)) ∙ ap (λ u. u +ℚ neg_ℚ a) (+ℚ-neg b) ∙ zero-+ℚ (neg_ℚ a) in
    subst (λ u. u ≤ℚ neg_ℚ a) left (subst (λ u. a +ℚ c ≤ℚ u) right (+ℚ-≤ℚ a b c h))

-- of a number that is not positive, the opposite is not negative, and back
pub neg_up : (a : ℚ) → a ≤ℚ zero_ℚ → zero_ℚ ≤ℚ neg_ℚ a
neg_up a h = subst (λ u. u ≤ℚ neg_ℚ a) neg-zero (neg-≤ℚ a zero_ℚ h)

pub neg_down : (a : ℚ) → zero_ℚ ≤ℚ neg_ℚ a → a ≤ℚ zero_ℚ
neg_down a h = subst (λ u. u ≤ℚ zero_ℚ) (neg_neg a) (subst (λ u. neg_ℚ (neg_ℚ a) ≤ℚ u) neg-zero (neg-≤ℚ zero_ℚ (neg_ℚ a) h))

pub neg-some : (a : ℚ) → a ≢ zero_ℚ → neg_ℚ a ≢ zero_ℚ
neg-some a h e = h (sym (neg_neg a) ∙ ap neg_ℚ e ∙ neg-zero)

pub times-neg : (a b : ℚ) → a *ℚ neg_ℚ b ≡ neg_ℚ (a *ℚ b)
times-neg a b = *ℚ_comm a (neg_ℚ b) ∙ neg-*ℚ b a ∙ ap neg_ℚ (*ℚ_comm b a)

neg-sum : (a b : ℚ) → neg_ℚ (a +ℚ b) ≡ neg_ℚ a +ℚ neg_ℚ b
neg-sum a b =
    let c = neg_ℚ a +ℚ neg_ℚ b in
    let none : (a +ℚ b) +ℚ c ≡ zero_ℚ
    = +ℚ_assoc a b c ∙ ap (λ u. a +ℚ u) (ap (λ u. b +ℚ u) (+ℚ_comm (neg_ℚ a) (neg_ℚ b)) ∙ sym (+ℚ_assoc b (neg_ℚ b) (neg_ℚ a)) ∙ ap (λ u. u +ℚ neg_ℚ a) (+ℚ-neg b) ∙ zero-+ℚ (neg_ℚ a)) ∙ +ℚ-neg a in
    sym (+ℚ-zero (neg_ℚ (a +ℚ b))) ∙ ap (λ u. neg_ℚ (a +ℚ b) +ℚ u) (sym none) ∙ sym (+ℚ_assoc (neg_ℚ (a +ℚ b)) (a +ℚ b) c)
    ∙ ap (λ u. u +ℚ c) (+ℚ_comm (neg_ℚ (a +ℚ b)) (a +ℚ b) ∙ +ℚ-neg (a +ℚ b)) ∙ zero-+ℚ c

-- a quotient of opposites
quotient-neg : (x d : ℚ) → d ≢ zero_ℚ → neg_ℚ x *ℚ inv_ℚ (neg_ℚ d) ≡ x *ℚ inv_ℚ d
quotient-neg x d some =
    let e = neg_ℚ d in
    let left : (neg_ℚ x *ℚ inv_ℚ e) *ℚ e ≡ neg_ℚ x = *ℚ_assoc (neg_ℚ x) (inv_ℚ e) e ∙ ap (λ u. neg_ℚ x *ℚ u) (*ℚ_comm (inv_ℚ e) e ∙ *ℚ-inv e (neg-some d some)) ∙ *ℚ-one (neg_ℚ x) in
    let right : (x *ℚ inv_ℚ d) *ℚ e ≡ neg_ℚ x = times-neg (x *ℚ inv_ℚ d) d ∙ ap neg_ℚ (*ℚ_assoc x (inv_ℚ d) d ∙ ap (λ u. x *ℚ u) (*ℚ_comm (inv_ℚ d) d ∙ *ℚ-inv d some) ∙ *ℚ-one x) in
    *ℚ_cancel (neg_ℚ x *ℚ inv_ℚ e) (x *ℚ inv_ℚ d) e (neg-some d some) (left ∙ sym right)

-- ---- steps
positive_some : (d : ℚ) → zero_ℚ <ℚ d → d ≢ zero_ℚ
positive_some d h e = <ℚ-not-≡ zero_ℚ d h (sym e)

stays_up : (x d t : ℚ) → zero_ℚ ≤ℚ x → zero_ℚ ≤ℚ t → (zero_ℚ <ℚ d → t ≤ℚ x *ℚ inv_ℚ d) → zero_ℚ ≤ℚ x +ℚ neg_ℚ t *ℚ d
stays_up x d t h k least = elim (<ℚ_or_≤ℚ zero_ℚ d) [
  | inl p ↦ ratio_keeps x d t h (ratio_least x d t (<ℚ-≤ℚ zero_ℚ d p) (positive_some d p) (least p))
  | inr p ↦ ratio_keeps x d t h (ratio_free x d t h p k)
]

neg-<ℚ : (d : ℚ) → zero_ℚ <ℚ neg_ℚ d → d <ℚ zero_ℚ
neg-<ℚ d h = ≤ℚ-<ℚ d zero_ℚ (neg_down d (<ℚ-≤ℚ zero_ℚ (neg_ℚ d) h)) (λ e. <ℚ-not-≡ zero_ℚ (neg_ℚ d) h (sym (ap neg_ℚ e ∙ neg-zero)))

pub neg-positive : (d : ℚ) → d <ℚ zero_ℚ → zero_ℚ <ℚ neg_ℚ d
neg-positive d h = ≤ℚ-<ℚ zero_ℚ (neg_ℚ d) (neg_up d (<ℚ-≤ℚ d zero_ℚ h)) (λ e. <ℚ-not-≡ d zero_ℚ h (sym (neg_neg d) ∙ ap neg_ℚ (sym e) ∙ neg-zero))

stays_down : (x d t : ℚ) → x ≤ℚ zero_ℚ → zero_ℚ ≤ℚ t → (d <ℚ zero_ℚ → t ≤ℚ x *ℚ inv_ℚ d) → x +ℚ neg_ℚ t *ℚ d ≤ℚ zero_ℚ
stays_down x d t h k least =
    let up : zero_ℚ ≤ℚ neg_ℚ x +ℚ neg_ℚ t *ℚ neg_ℚ d
    = stays_up (neg_ℚ x) (neg_ℚ d) t (neg_up x h) k (λ p. let q = neg-<ℚ d p in subst (λ u. t ≤ℚ u) (sym (quotient-neg x d (<ℚ-not-≡ d zero_ℚ q))) (least q)) in
    neg_down (x +ℚ neg_ℚ t *ℚ d) (subst (λ u. zero_ℚ ≤ℚ u) (ap (λ u. neg_ℚ x +ℚ u) (times-neg (neg_ℚ t) d) ∙ sym (neg-sum x (neg_ℚ t *ℚ d))) up)

stays_zero : (x d t : ℚ) → x ≡ zero_ℚ → zero_ℚ ≤ℚ t → (d ≢ zero_ℚ → t ≤ℚ x *ℚ inv_ℚ d) → x +ℚ neg_ℚ t *ℚ d ≡ zero_ℚ
stays_zero x d t e k least =
    let none : d ≢ zero_ℚ → t ≡ zero_ℚ = λ s. ≤ℚ_antisymm t zero_ℚ (subst (λ u. t ≤ℚ u) (ap (λ u. u *ℚ inv_ℚ d) e ∙ zero-*ℚ (inv_ℚ d)) (least s)) k in
    let moved : d ≢ zero_ℚ → neg_ℚ t *ℚ d ≡ zero_ℚ = λ s. ap (λ u. neg_ℚ u *ℚ d) (none s) ∙ ap (λ u. u *ℚ d) neg-zero ∙ zero-*ℚ d in
    let go : neg_ℚ t *ℚ d ≡ zero_ℚ = elim (<ℚ_or_≤ℚ zero_ℚ d) [
      | inl p ↦ moved (positive_some d p)
      | inr p ↦ elim (<ℚ_or_≤ℚ d zero_ℚ) [
        | inl q ↦ moved (<ℚ-not-≡ d zero_ℚ q)
        | inr q ↦ ap (λ u. neg_ℚ t *ℚ u) (≤ℚ_antisymm d zero_ℚ p q) ∙ *ℚ-zero (neg_ℚ t)
      ]
    ] in
    ap₂ (λ a b. a +ℚ b) e go ∙ +ℚ-zero zero_ℚ

pub stays : (s : RowState) (x d t : ℚ) → Okay s x → zero_ℚ ≤ℚ t → (Limits s d → t ≤ℚ x *ℚ inv_ℚ d) → Okay s (x +ℚ neg_ℚ t *ℚ d)
stays state.Waiting x d t h k least = tt
stays state.Above x d t h k least = stays_up x d t h k least
stays state.Below x d t h k least = stays_down x d t h k least
stays state.AtLeast x d t h k least = stays_up x d t h k least
stays state.Zero x d t h k least = stays_zero x d t h k least

sign_up : (x d : ℚ) → zero_ℚ ≤ℚ x → zero_ℚ <ℚ d → zero_ℚ ≤ℚ x *ℚ inv_ℚ d
sign_up x d h p = *ℚ-nonneg x (inv_ℚ d) h (<ℚ-≤ℚ zero_ℚ (inv_ℚ d) (inv-positive d p))

pub step_sign : (s : RowState) (x d : ℚ) → Okay s x → Limits s d → zero_ℚ ≤ℚ x *ℚ inv_ℚ d
step_sign state.Waiting x d h p = absurd p
step_sign state.Above x d h p = sign_up x d h p
step_sign state.Below x d h p = subst (λ u. zero_ℚ ≤ℚ u) (quotient-neg x d (<ℚ-not-≡ d zero_ℚ p)) (sign_up (neg_ℚ x) (neg_ℚ d) (neg_up x h) (neg-positive d p))
step_sign state.AtLeast x d h p = sign_up x d h p
step_sign state.Zero x d h p = subst (λ u. zero_ℚ ≤ℚ u) (sym (ap (λ u. u *ℚ inv_ℚ d) h ∙ zero-*ℚ (inv_ℚ d))) (≤ℚ_refl zero_ℚ)

pub limits_some : (s : RowState) (d : ℚ) → Limits s d → d ≢ zero_ℚ
limits_some state.Waiting d p = absurd p
limits_some state.Above d p = positive_some d p
limits_some state.Below d p = <ℚ-not-≡ d zero_ℚ p
limits_some state.AtLeast d p = positive_some d p
limits_some state.Zero d p = p

-- ---- the test
pub limited_none : (s : RowState) (d : ℚ) → d ≡ zero_ℚ → Limits s d → ⊥
limited_none s d e h = limits_some s d h e

both_ways : (d : ℚ) → d <ℚ zero_ℚ → zero_ℚ <ℚ d → ⊥
both_ways d p q = <ℚ-not-≤ℚ d zero_ℚ p (<ℚ-≤ℚ zero_ℚ d q)

pub limited_up : (s : RowState) (d : ℚ) → zero_ℚ <ℚ d → Limited s d (limited_above s)
limited_up state.Waiting d p = λ h. h
limited_up state.Above d p = p
limited_up state.Below d p = λ h. both_ways d h p
limited_up state.AtLeast d p = p
limited_up state.Zero d p = positive_some d p

pub limited_down : (s : RowState) (d : ℚ) → d <ℚ zero_ℚ → Limited s d (limited_below s)
limited_down state.Waiting d p = λ h. h
limited_down state.Above d p = λ h. both_ways d p h
limited_down state.Below d p = p
limited_down state.AtLeast d p = λ h. both_ways d p h
limited_down state.Zero d p = <ℚ-not-≡ d zero_ℚ p
