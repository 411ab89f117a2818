-- Laws of specs/Scaled.
use Rattle.std.proofs.Common.{ℕ, ◌≡◌, ◌/◌, ◌+◌, ◌<◌, ◌^◌, refl, sym, ◌∙◌, ap, ap₂, zero, suc, subst, List, [], ◌∷◌, length, Bool, true, arith, mul_comm, ℤ, pos, negsuc, ◌*ℤ◌, ◌≤ℤ◌, ◌<ℤ◌, unsigned_abs, ◌&&◌}
use Rattle.std.specs.Int.{◌∣◌}
use Rattle.std.specs.Int.RustNames.{int_div}
use Rattle.std.specs.List.{list_all}
use Rattle.std.proofs.lemmas.Int.{ints}
use Rattle.std.proofs.lemmas.Bool.{and_parts, and_from}
use Rattle.std.proofs.lemmas.List.{get_or-map, length-map}
use Rattle.std.proofs.Math.Nat.{mul-div_cancel'}
use Rattle.std.proofs.Math.IntN.{*ℤ_comm}
use Rattle.numbers.specs.Algebra.{*ℤ_assoc}
use Rattle.numbers.specs.Sums.{sum_below}
use Rattle.exact_num.specs.Q.{ℚ}
use Rattle.exact_num.specs.Ops.{zero_ℚ, ◌+ℚ◌, ◌*ℚ◌, *ℚ-over, *ℚ_assoc, *ℚ_comm}
use Rattle.exact_num.specs.Over.{over_self, over_scaled, over_same}
use Rattle.exact_num.specs.Order.{◌≤ℚ◌, *ℚ-≤ℚ, *ℚ-nonneg}
use Rattle.exact_num.specs.Sums.{sum_ℚ, sum_ℚ-same, sum_ℚ-scale, entry_ℚ}
use Rattle.exact_num.specs.Whole.{int_ℚ, int-over, int_ℚ-zero, int_ℚ-+ℤ, int_ℚ-*ℤ, int_ℚ-≤ℤ, int_ℚ-≤ℚ}
use Rattle.exact_num.specs.Multiples.{Divides, least_den, least_den_divides, least_den-positive}
use Rattle.exact_num.specs.Denominators.{num_over, nums_over, common_fits, IsCommon}
use Rattle.exact_num.specs.Work.{below}
use Rattle.exact_simplex.specs.Task.{int_at, cell, row_at, row_sum, column_sum, side_sum, gain_sum, Meets, IsMultiplier, IsBest}
use Rattle.exact_simplex.specs.declared.task.Lp.{Lp}
use Rattle.exact_simplex.specs.declared.task.RowKind.{RowKind}
use Rattle.exact_simplex.specs.declared.task.RowKind.TheVariants as kind
use Rattle.exact_simplex.specs.Scaled.{IsMultiplierFraction, IsOptimum, MeetsFraction, StandFor}

-- ---- one number over a common denominator
exact : (d : ℕ) (k : ℤ) → pos 0 <ℤ k → unsigned_abs k ∣ d → int_div (pos d) k *ℤ k ≡ pos d
exact d (pos b) p h = ap pos (mul_comm (d / b) b ∙ mul-div_cancel' b h)
exact d (negsuc b) p h = absurd (omega (arith, ints))

pub num_over_is : (d : ℕ) (q : ℚ) → unsigned_abs q.den ∣ d → int_ℚ (num_over (pos d) q) ≡ int_ℚ (pos d) *ℚ q
num_over_is d q h =
    let t = int_div (pos d) q.den in
    let e : t *ℤ q.den ≡ pos d = exact d q.den q.low.positive h in
    over_same (int_ℚ (q.num *ℤ t)) (int_ℚ (pos d) *ℚ q) _ _ _ _
    (over_scaled (int_ℚ (q.num *ℤ t)) (q.num *ℤ t) (pos 1) q.den (int-over (q.num *ℤ t)) q.low.positive)
    (*ℚ-over (int_ℚ (pos d)) q (pos d) (pos 1) q.num q.den (int-over (pos d)) (over_self q))
    (*ℤ_assoc q.num t q.den ∙ ap (λ z. q.num *ℤ z) e ∙ *ℤ_comm q.num (pos d)) refl

divides_at : (d : ℕ) (qs : List ℚ) (j : ℕ) → j < length qs → Divides d qs → unsigned_abs (entry_ℚ qs j).den ∣ d
divides_at d [] j l h = absurd (omega (arith, l))
divides_at d (q ∷ qs) zero l h = h.0
divides_at d (q ∷ qs) (suc j) l h = divides_at d qs j (omega (arith, l)) h.1

pub nums_stand : (qs : List ℚ) → StandFor (least_den qs) (nums_over (pos (least_den qs)) qs) (entry_ℚ qs) (length qs)
nums_stand qs j l =
    ap int_ℚ (get_or-map (num_over (pos (least_den qs))) qs j zero_ℚ (pos 0) l)
    ∙ num_over_is (least_den qs) (entry_ℚ qs j) (divides_at (least_den qs) qs j l (least_den_divides qs))

-- ---- sums
int_ℚ-sum : (f : ℕ → ℤ) (n : ℕ) → int_ℚ (sum_below f n) ≡ sum_ℚ (λ i. int_ℚ (f i)) n
int_ℚ-sum f zero = int_ℚ-zero
int_ℚ-sum f (suc n) = int_ℚ-+ℤ (sum_below f n) (f n) ∙ ap (λ a. a +ℚ int_ℚ (f n)) (int_ℚ-sum f n)

pub sum_stands : (d : ℕ) (zs : List ℤ) (X : ℕ → ℚ) (a : ℕ → ℤ) (n : ℕ) → StandFor d zs X n → int_ℚ (sum_below (λ j. int_at zs j *ℤ a j) n) ≡ int_ℚ (pos d) *ℚ sum_ℚ (λ j. X j *ℚ int_ℚ (a j)) n
sum_stands d zs X a n stand =
    int_ℚ-sum (λ j. int_at zs j *ℤ a j) n
    ∙ sum_ℚ-same (λ j. int_ℚ (int_at zs j *ℤ a j)) (λ j. int_ℚ (pos d) *ℚ (X j *ℚ int_ℚ (a j))) n
    (λ j l. int_ℚ-*ℤ (int_at zs j) (a j) ∙ ap (λ u. u *ℚ int_ℚ (a j)) (stand j l) ∙ *ℚ_assoc (int_ℚ (pos d)) (X j) (int_ℚ (a j)))
    ∙ sum_ℚ-scale (int_ℚ (pos d)) (λ j. X j *ℚ int_ℚ (a j)) n

d_nonneg : (d : ℕ) → zero_ℚ ≤ℚ int_ℚ (pos d)
d_nonneg d = subst (λ z. z ≤ℚ int_ℚ (pos d)) int_ℚ-zero (int_ℚ-≤ℤ (pos 0) (pos d) (omega (arith, ints)))

times_side : (d : ℕ) (b : ℤ) → int_ℚ (b *ℤ pos d) ≡ int_ℚ b *ℚ int_ℚ (pos d)
times_side d b = int_ℚ-*ℤ b (pos d)

pub stands_le : (d : ℕ) (z b : ℤ) (q : ℚ) → int_ℚ z ≡ int_ℚ (pos d) *ℚ q → q ≤ℚ int_ℚ b → z ≤ℤ (b *ℤ pos d)
stands_le d z b q e h =
    int_ℚ-≤ℚ z (b *ℤ pos d)
    (subst (λ u. u ≤ℚ int_ℚ (b *ℤ pos d)) (sym e) (subst (λ u. int_ℚ (pos d) *ℚ q ≤ℚ u) (sym (times_side d b)) (subst (λ u. u ≤ℚ int_ℚ b *ℚ int_ℚ (pos d)) (*ℚ_comm q (int_ℚ (pos d))) (*ℚ-≤ℚ q (int_ℚ b) (int_ℚ (pos d)) h (d_nonneg d)))))

pub stands_ge : (d : ℕ) (z b : ℤ) (q : ℚ) → int_ℚ z ≡ int_ℚ (pos d) *ℚ q → int_ℚ b ≤ℚ q → (b *ℤ pos d) ≤ℤ z
stands_ge d z b q e h =
    int_ℚ-≤ℚ (b *ℤ pos d) z
    (subst (λ u. int_ℚ (b *ℤ pos d) ≤ℚ u) (sym e) (subst (λ u. u ≤ℚ int_ℚ (pos d) *ℚ q) (sym (times_side d b)) (subst (λ u. int_ℚ b *ℚ int_ℚ (pos d) ≤ℚ u) (*ℚ_comm q (int_ℚ (pos d))) (*ℚ-≤ℚ (int_ℚ b) q (int_ℚ (pos d)) h (d_nonneg d)))))

int_same : (a b : ℤ) → int_ℚ a ≡ int_ℚ b → a ≡ b
int_same a b e = ap (λ (q : ℚ). q.num) e

pub stands_eq : (d : ℕ) (z b : ℤ) (q : ℚ) → int_ℚ z ≡ int_ℚ (pos d) *ℚ q → q ≡ int_ℚ b → z ≡ b *ℤ pos d
stands_eq d z b q e h = int_same z (b *ℤ pos d) (e ∙ *ℚ_comm (int_ℚ (pos d)) q ∙ ap (λ u. u *ℚ int_ℚ (pos d)) h ∙ sym (times_side d b))

pub stands_nonneg : (d : ℕ) (z : ℤ) (q : ℚ) → int_ℚ z ≡ int_ℚ (pos d) *ℚ q → zero_ℚ ≤ℚ q → pos 0 ≤ℤ z
stands_nonneg d z q e h =
    int_ℚ-≤ℚ (pos 0) z (subst (λ u. u ≤ℚ int_ℚ z) (sym int_ℚ-zero) (subst (λ u. zero_ℚ ≤ℚ u) (sym e) (*ℚ-nonneg (int_ℚ (pos d)) q (d_nonneg d) h)))

-- two values that are equal, over two denominators
pub stands_same : (c d : ℕ) (x y : ℤ) (p q : ℚ) → int_ℚ x ≡ int_ℚ (pos c) *ℚ p → int_ℚ y ≡ int_ℚ (pos d) *ℚ q → p ≡ q → x *ℤ pos d ≡ y *ℤ pos c
stands_same c d x y p q e f h =
    let C = int_ℚ (pos c) in
    let D = int_ℚ (pos d) in
    int_same (x *ℤ pos d) (y *ℤ pos c)
    (int_ℚ-*ℤ x (pos d) ∙ ap (λ u. u *ℚ D) (e ∙ ap (λ u. C *ℚ u) h) ∙ *ℚ_assoc C q D ∙ *ℚ_comm C (q *ℚ D) ∙ ap (λ u. u *ℚ C) (*ℚ_comm q D ∙ sym f) ∙ sym (int_ℚ-*ℤ y (pos c)))

-- ---- sizes
pub small : (f g : ℤ → Bool) (zs : List ℤ) → list_all (λ z. f z && g z) zs ≡ true → list_all g zs ≡ true
small f g [] h = refl
small f g (z ∷ zs) h =
    let parts = and_parts (f z && g z) (list_all (λ z. f z && g z) zs) h in
    and_from (g z) (list_all g zs) (and_parts (f z) (g z) parts.0).1 (small f g zs parts.1)

pub row_stands : (d : ℕ) (k : RowKind) (z b : ℤ) (q : ℚ) → int_ℚ z ≡ int_ℚ (pos d) *ℚ q → MeetsFraction k q (int_ℚ b) → Meets k z (b *ℤ pos d)
row_stands d kind.AtMost z b q e h = stands_le d z b q e h
row_stands d kind.Equal z b q e h = stands_eq d z b q e h

pub sign_stands : (d : ℕ) (k : RowKind) (z : ℤ) (q : ℚ) → int_ℚ z ≡ int_ℚ (pos d) *ℚ q → IsMultiplierFraction k q → IsMultiplier k z
sign_stands d kind.AtMost z q e h = stands_nonneg d z q e h
sign_stands d kind.Equal z q e h = tt

pos_positive : (d : ℕ) → 0 < d → pos 0 <ℤ pos d
pos_positive d h = omega (arith, ints)

pub best_whole : (lp : Lp) (xs ys : List ℚ) (fits : ℤ → Bool) (x y : List ℤ) (xden yden : ℤ) (a b c d : ℕ) → length xs ≡ lp.columns → length ys ≡ length lp.rows
    → IsCommon (common_fits fits xs) xs x xden a b → IsCommon (common_fits fits ys) ys y yden c d → IsOptimum lp (entry_ℚ xs) (entry_ℚ ys) → IsBest lp x xden y yden
best_whole lp xs ys fits x y xden yden a b c d x_length y_length xc yc is =
    let C = least_den xs in
    let D = least_den ys in
    let X : StandFor C x (entry_ℚ xs) lp.columns = λ j l. ap (λ zs. int_ℚ (int_at zs j)) xc.nums_are ∙ nums_stand xs j (omega arith) in
    let Y : StandFor D y (entry_ℚ ys) (length lp.rows) = λ j l. ap (λ zs. int_ℚ (int_at zs j)) yc.nums_are ∙ nums_stand ys j (omega arith) in
    record {
      x_length = ap length xc.nums_are ∙ length-map xs (num_over (pos C)) ∙ x_length;
      y_length = ap length yc.nums_are ∙ length-map ys (num_over (pos D)) ∙ y_length;
      x_small = ap₂ (λ e zs. list_all (below (10 ^ 24 + 1)) (e ∷ zs)) xc.den_is xc.nums_are ∙ small fits (below (10 ^ 24 + 1)) (pos C ∷ nums_over (pos C) xs) xc.all_fit;
      y_small = ap₂ (λ e zs. list_all (below (10 ^ 24 + 1)) (e ∷ zs)) yc.den_is yc.nums_are ∙ small fits (below (10 ^ 24 + 1)) (pos D ∷ nums_over (pos D) ys) yc.all_fit;
      xden_positive = subst (λ z. pos 0 <ℤ z) (sym xc.den_is) (pos_positive C (least_den-positive xs));
      yden_positive = subst (λ z. pos 0 <ℤ z) (sym yc.den_is) (pos_positive D (least_den-positive ys));
      x_sign = λ j l. stands_nonneg C (int_at x j) (entry_ℚ xs j) (X j l) (is.x_sign j l);
      rows = λ i l. subst (λ e. Meets (row_at lp i).kind (row_sum lp i x) ((row_at lp i).side *ℤ e)) (sym xc.den_is)
          (row_stands C (row_at lp i).kind (row_sum lp i x) (row_at lp i).side (sum_ℚ (λ j. entry_ℚ xs j *ℚ int_ℚ (cell lp i j)) lp.columns) (sum_stands C x (entry_ℚ xs) (cell lp i) lp.columns X) (is.rows i l));
      y_sign = λ i l. sign_stands D (row_at lp i).kind (int_at y i) (entry_ℚ ys i) (Y i l) (is.y_sign i l);
      covers = λ j l. subst (λ e. (int_at lp.gain j *ℤ e) ≤ℤ column_sum lp j y) (sym yc.den_is)
          (stands_ge D (column_sum lp j y) (int_at lp.gain j) (sum_ℚ (λ i. entry_ℚ ys i *ℚ int_ℚ (cell lp i j)) (length lp.rows)) (sum_stands D y (entry_ℚ ys) (λ i. cell lp i j) (length lp.rows) Y) (is.covers j l));
      same_value = subst (λ e. gain_sum lp x *ℤ e ≡ side_sum lp y *ℤ xden) (sym yc.den_is) (subst (λ e. gain_sum lp x *ℤ pos D ≡ side_sum lp y *ℤ e) (sym xc.den_is)
          (stands_same C D (gain_sum lp x) (side_sum lp y) _ _ (sum_stands C x (entry_ℚ xs) (int_at lp.gain) lp.columns X) (sum_stands D y (entry_ℚ ys) (λ i. (row_at lp i).side) (length lp.rows) Y) is.same_value));
    }

pub best_as : (lp : Lp) (x x' : List ℤ) (d d' : ℤ) (y y' : List ℤ) (e e' : ℤ) → x' ≡ x → d' ≡ d → y' ≡ y → e' ≡ e → IsBest lp x d y e → IsBest lp x' d' y' e'
best_as lp x x' d d' y y' e e' p q r s is =
    subst (λ z. IsBest lp x' d' y' z) (sym s) (subst (λ zs. IsBest lp x' d' zs e) (sym r) (subst (λ z. IsBest lp x' z y e) (sym q) (subst (λ zs. IsBest lp zs d y e) (sym p) is)))
