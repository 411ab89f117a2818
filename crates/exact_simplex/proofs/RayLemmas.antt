-- A variable that may grow without end gives a direction that keeps each row and has a positive gain.
use Rattle.std.proofs.Common.{ℕ, ◌≡◌, ◌+◌, ◌<◌, sym, ◌∙◌, ap, ap₂, subst, inl, inr, ◌⊎◌, List, ◌∷◌, length, get_or, arith, true, Bool, ℤ, pos, ◌≤ℤ◌, ◌<ℤ◌, ◌^◌}
use Rattle.std.specs.List.{list_all}
use Rattle.std.proofs.Math.IntN.{zero-*ℤ}
use Rattle.std.proofs.lemmas.Int.{ints, by_lt_z}
use Rattle.std.proofs.lemmas.Bool.{and_parts}
use Rattle.std.proofs.lemmas.List.{length-map}
use Rattle.exact_num.specs.Q.{ℚ}
use Rattle.exact_num.specs.Ops.{zero_ℚ, one_ℚ, neg_ℚ, ◌+ℚ◌, ◌*ℚ◌, +ℚ_comm, +ℚ-neg, *ℚ-zero, *ℚ-one, one-*ℚ, neg-*ℚ, *ℚ_comm}
use Rattle.exact_num.specs.Sums.{sum_ℚ, sum_ℚ-same, sum_ℚ-more, sum_ℚ-scale, sum_ℚ-one, entry_ℚ}
use Rattle.exact_num.specs.Order.{◌≤ℚ◌, ◌<ℚ◌, ≤ℚ_antisymm, <ℚ-≤ℚ, <ℚ_or_≤ℚ, <ℚ-not-≤ℚ, <ℚ-not-≡, *ℚ-positive, zero-<ℚ-one}
use Rattle.exact_num.specs.Whole.{int_ℚ, int_ℚ-zero, int_ℚ-≤ℤ, int_ℚ-≤ℚ}
use Rattle.exact_num.specs.Multiples.{least_den, least_den-positive}
use Rattle.exact_num.specs.Denominators.{num_over, nums_over, common_fits, IsCommon}
use Rattle.exact_num.specs.Work.{below}
use Rattle.simplex_tableau.specs.declared.sparse.Entry.{Entry}
use Rattle.exact_simplex.specs.declared.progress.Task.{Task}
use Rattle.exact_simplex.specs.declared.progress.Progress.{Progress}
use Rattle.exact_simplex.specs.declared.task.Lp.{Lp}
use Rattle.exact_simplex.specs.declared.task.RowKind.{RowKind}
use Rattle.exact_simplex.specs.declared.task.RowKind.TheVariants as kind
use Rattle.simplex_tableau.specs.declared.state.RowState.{RowState}
use Rattle.simplex_tableau.specs.declared.state.RowState.TheVariants as state
use Rattle.simplex_tableau.specs.Sparse.{at}
use Rattle.simplex_tableau.proofs.SparseLaws.{sum-at}
use Rattle.simplex_tableau.specs.Dense.{num}
use Rattle.simplex_tableau.specs.Inverse.{inv_of, list_at}
use Rattle.simplex_tableau.proofs.DualityLaws.{ftran_sums}
use Rattle.exact_simplex.specs.Point.{HasSlacks, variable_value}
use Rattle.exact_simplex.proofs.PointLaws.{sum_variable_value, sum-split, variable_value-nonneg, variable_value-zero, variable_value-one}
use Rattle.simplex_tableau.specs.States.{Limits, state_of}
use Rattle.exact_simplex.specs.InForce.{in_force}
use Rattle.simplex_tableau.proofs.StatesLaws.{neg_up, neg-zero, neg-positive}
use Rattle.simplex_tableau.proofs.SimplexLaws.{state_of-column, state_of-slack}
use Rattle.exact_simplex.specs.Enter.{product}
use Rattle.exact_simplex.specs.Drive.{IsUnbounded}
use Rattle.exact_simplex.proofs.DriveLaws.{only_place}
use Rattle.exact_simplex.proofs.OptimumLaws.{below_side, meets_side, gain_is}
use Rattle.simplex_tableau.specs.Tableau.{basis_of, inverse_of}
use Rattle.exact_simplex.specs.Progress.{size_of, column_of, IsProgress, IsRow}
use Rattle.exact_simplex.proofs.ProgressLaws.{made_is}
use Rattle.exact_simplex.specs.Final.{Describes, AreSettled}
use Rattle.exact_simplex.specs.Scaled.{MeetsFraction, StandFor}
use Rattle.exact_simplex.proofs.ScaledLaws.{nums_stand, sum_stands, stands_nonneg, row_stands, small}
use Rattle.exact_simplex.specs.Task.{int_at, cell, row_at, row_sum, gain_sum, Meets, IsRay}
use Rattle.exact_simplex.specs.Ray.{IsRayFraction}

-- ---- whole numbers

-- a number that stands for a positive one is positive
stands_positive : (d : ℕ) (z : ℤ) (q : ℚ) → 0 < d → int_ℚ z ≡ int_ℚ (pos d) *ℚ q → zero_ℚ <ℚ q → pos 0 <ℤ z
stands_positive d z q some e h = by_lt_z (pos 0) z (λ l. l) (λ l. absurd (bad l))
  where
    d_positive : zero_ℚ <ℚ int_ℚ (pos d)
    d_positive = elim (<ℚ_or_≤ℚ zero_ℚ (int_ℚ (pos d))) [
      | inl l ↦ l
      | inr l ↦ let k : pos d ≤ℤ pos 0 = int_ℚ-≤ℚ (pos d) (pos 0) (subst (λ u. int_ℚ (pos d) ≤ℚ u) (sym int_ℚ-zero) l) in absurd (omega (arith, ints))
    ]

    above_zero : zero_ℚ <ℚ int_ℚ z
    above_zero = subst (λ u. zero_ℚ <ℚ u) (*ℚ_comm q (int_ℚ (pos d)) ∙ sym e) (*ℚ-positive q (int_ℚ (pos d)) h d_positive)

    bad : z ≤ℤ pos 0 → ⊥
    bad l = <ℚ-not-≤ℚ zero_ℚ (int_ℚ z) above_zero (subst (λ u. int_ℚ z ≤ℚ u) int_ℚ-zero (int_ℚ-≤ℤ z (pos 0) l))

row_keeps : (d : ℕ) (k : RowKind) (z : ℤ) (q : ℚ) → int_ℚ z ≡ int_ℚ (pos d) *ℚ q → MeetsFraction k q zero_ℚ → Meets k z (pos 0)
row_keeps d k z q e h = subst (λ b. Meets k z b) (zero-*ℤ (pos d)) (row_stands d k z (pos 0) q e (subst (λ b. MeetsFraction k q b) (sym int_ℚ-zero) h))

pub ray_whole : (lp : Lp) (xs : List ℚ) (fits : ℤ → Bool) (x : List ℤ) (den : ℤ) (a b : ℕ) → length xs ≡ lp.columns → IsCommon (common_fits fits xs) xs x den a b → IsRayFraction lp (entry_ℚ xs) → IsRay lp x
ray_whole lp xs fits x den a b same xc is =
    let D = least_den xs in
    let X : StandFor D x (entry_ℚ xs) lp.columns = λ j l. ap (λ zs. int_ℚ (int_at zs j)) xc.nums_are ∙ nums_stand xs j (omega arith) in
    let all = ap (λ zs. list_all (below (10 ^ 24 + 1)) (pos D ∷ zs)) xc.nums_are ∙ small fits (below (10 ^ 24 + 1)) (pos D ∷ nums_over (pos D) xs) xc.all_fit in
    record {
      one_each = ap length xc.nums_are ∙ length-map xs (num_over (pos D)) ∙ same;
      small = (and_parts (below (10 ^ 24 + 1) (pos D)) (list_all (below (10 ^ 24 + 1)) x) all).1;
      sign = λ j l. stands_nonneg D (int_at x j) (entry_ℚ xs j) (X j l) (is.sign j l);
      rows = λ i l. row_keeps D (row_at lp i).kind (row_sum lp i x) (sum_ℚ (λ j. entry_ℚ xs j *ℚ int_ℚ (cell lp i j)) lp.columns) (sum_stands D x (entry_ℚ xs) (cell lp i) lp.columns X) (is.rows i l);
      gains = stands_positive D (gain_sum lp x) (sum_ℚ (λ j. entry_ℚ xs j *ℚ int_ℚ (int_at lp.gain j)) lp.columns) (least_den-positive xs) (sum_stands D x (entry_ℚ xs) (int_at lp.gain) lp.columns X) is.gains;
    }

-- ---- the direction

-- row k of numbers at places: the columns' part, and the slack's
row_of_places : (places size n k : ℕ) (column : ℕ → ℕ → ℚ) (variables : ℕ → ℕ) (x : ℕ → ℚ) (side : ℚ) → HasSlacks size n column → k < size
    → ((p : ℕ) → p < places → variables p < n + size) → sum_ℚ (λ p. x p *ℚ column (variables p) k) places ≡ side
    → sum_ℚ (λ j. variable_value variables x places j *ℚ column j k) n +ℚ variable_value variables x places (n + k) ≡ side
row_of_places places size n k column variables x side slacks l within row =
    let X = variable_value variables x places in
    let last : sum_ℚ (λ i. X (n + i) *ℚ column (n + i) k) size ≡ X (n + k)
    = sum_ℚ-one (λ i. X (n + i) *ℚ column (n + i) k) k size l (λ i j s. ap (λ u. X (n + i) *ℚ u) (slacks.other i k j l s) ∙ *ℚ-zero (X (n + i)))
    ∙ ap (λ u. X (n + k) *ℚ u) (slacks.same k l) ∙ *ℚ-one (X (n + k)) in
    ap (λ u. sum_ℚ (λ j. X j *ℚ column j k) n +ℚ u) (sym last) ∙ sym (sum-split (λ v. X v *ℚ column v k) n size)
    ∙ sum_variable_value places (n + size) variables x (λ v. column v k) within ∙ row

ends_rows : (k : RowKind) (s : RowState) (a slack : ℚ) → s ≡ in_force k → a +ℚ slack ≡ zero_ℚ → (s ≡ state.AtLeast → zero_ℚ ≤ℚ slack) → (s ≡ state.Zero → slack ≡ zero_ℚ) → MeetsFraction k a zero_ℚ
ends_rows kind.AtMost s a slack is e sign none = below_side a slack zero_ℚ e (sign is)
ends_rows kind.Equal s a slack is e sign none = meets_side a slack zero_ℚ e (none is)

-- which steps a state that ends none leaves
free_up : (d : ℚ) → (Limits state.AtLeast d → ⊥) → zero_ℚ ≤ℚ neg_ℚ d
free_up d h = elim (<ℚ_or_≤ℚ zero_ℚ d) [ inl l ↦ absurd (h l) | inr l ↦ neg_up d l ]

free_zero : (d : ℚ) → (Limits state.Zero d → ⊥) → neg_ℚ d ≡ zero_ℚ
free_zero d h = ap neg_ℚ (elim (<ℚ_or_≤ℚ zero_ℚ d) [
  | inl l ↦ absurd (h (λ e. <ℚ-not-≡ zero_ℚ d l (sym e)))
  | inr l ↦ elim (<ℚ_or_≤ℚ d zero_ℚ) [ inl k ↦ absurd (h (<ℚ-not-≡ d zero_ℚ k)) | inr k ↦ ≤ℚ_antisymm d zero_ℚ l k ]
]) ∙ neg-zero

abbrev IsAtLeast : RowState → Type 0
IsAtLeast state.AtLeast = Unit {0}
IsAtLeast state.Waiting = ⊥
IsAtLeast state.Above = ⊥
IsAtLeast state.Below = ⊥
IsAtLeast state.Zero = ⊥

module _ {N : Type 0} (value : N → ℚ) (lp : Lp) (task : Task N) (p : Progress N) (y : List N) (entering : ℕ) (made : List (Entry N)) (b : ℕ → ℕ) (x : ℕ → ℚ)
    (describes : Describes value lp task) (is : IsProgress value task p) (settled : AreSettled lp p.states.items) (row : IsRow value (size_of task) p.tableau (length lp.rows) y)
    (free : IsUnbounded value task p y true entering made)
    (places : (q : ℕ) → q < size_of task → b q ≡ basis_of p.tableau q) (last : b (size_of task) ≡ entering)
    (steps : (q : ℕ) → q < size_of task → x q ≡ neg_ℚ (at value made q)) (one : x (size_of task) ≡ one_ℚ) where
  below_all : entering < task.columns + size_of task
  below_all = let e = describes.lists.each in let k = free.below in omega arith

  m_below : length lp.rows < size_of task
  m_below = let e = describes.size in omega arith

  -- the last place, or one of the basis
  last_or : (q : ℕ) → q < size_of task + 1 → (q < size_of task) ⊎ (q ≡ size_of task)
  last_or q l = search (arith)

  made_of : (i : ℕ) → i < size_of task → sum_ℚ (λ q. at value made q *ℚ column_of value task (basis_of p.tableau q) i) (size_of task) ≡ column_of value task entering i
  made_of i l = ftran_sums (size_of task) (size_of task) (inverse_of value p.tableau) (λ q. column_of value task (basis_of p.tableau q)) (at value made) (column_of value task entering) is.basis.right
      (λ q j. made_is value (size_of task) p.tableau.inverse.items (list_at task.lists.items entering) made (describes.lists.below entering below_all) free.makes q) i l

  no_change : (k : ℕ) → k < size_of task → sum_ℚ (λ q. x q *ℚ column_of value task (b q) k) (size_of task + 1) ≡ zero_ℚ
  no_change k l =
      let size = size_of task in
      let c = column_of value task in
      let w = c entering k in
      sum_ℚ-more (λ q. x q *ℚ c (b q) k) size w (sym (ap₂ (λ u v. u *ℚ c v k) one last ∙ one-*ℚ w))
      ∙ ap (λ u. u +ℚ w)
      (sum_ℚ-same (λ q. x q *ℚ c (b q) k) (λ q. neg_ℚ one_ℚ *ℚ (at value made q *ℚ c (basis_of p.tableau q) k)) size
      (λ q j. ap₂ (λ u v. u *ℚ c v k) (steps q j) (places q j) ∙ neg-*ℚ (at value made q) (c (basis_of p.tableau q) k)
      ∙ sym (neg-*ℚ one_ℚ (at value made q *ℚ c (basis_of p.tableau q) k) ∙ ap neg_ℚ (one-*ℚ (at value made q *ℚ c (basis_of p.tableau q) k))))
      ∙ sum_ℚ-scale (neg_ℚ one_ℚ) (λ q. at value made q *ℚ c (basis_of p.tableau q) k) size ∙ neg-*ℚ one_ℚ (sum_ℚ (λ q. at value made q *ℚ c (basis_of p.tableau q) k) size)
      ∙ ap neg_ℚ (one-*ℚ (sum_ℚ (λ q. at value made q *ℚ c (basis_of p.tableau q) k) size) ∙ made_of k l))
      ∙ +ℚ_comm (neg_ℚ w) w ∙ +ℚ-neg w

  row_is : (k : ℕ) → k < size_of task → sum_ℚ (λ j. variable_value b x (size_of task + 1) j *ℚ column_of value task j k) task.columns +ℚ variable_value b x (size_of task + 1) (task.columns + k) ≡ zero_ℚ
  row_is k l = row_of_places (size_of task + 1) (size_of task) task.columns k (column_of value task) b x zero_ℚ describes.slacks l
      (λ q j. elim (last_or q j) [
        | inl h ↦ subst (λ v. v < task.columns + size_of task) (sym (places q h)) (is.within q h)
        | inr h ↦ subst (λ v. v < task.columns + size_of task) (sym (ap b h ∙ last)) below_all
      ])
      (no_change k l)

  free_at : (q : ℕ) (s : RowState) → q < size_of task → state_of task.columns p.states.items (b q) ≡ s → Limits s (at value made q) → ⊥
  free_at q s l e h = free.free q l (subst (λ u. Limits u (at value made q)) (sym (ap (state_of task.columns p.states.items) (sym (places q l)) ∙ e)) h)

  sign_of : (v : ℕ) → state_of task.columns p.states.items v ≡ state.AtLeast → zero_ℚ ≤ℚ variable_value b x (size_of task + 1) v
  sign_of v at_least = variable_value-nonneg (size_of task + 1) v b x (λ q j e. elim (last_or q j) [
    | inl h ↦ subst (λ u. zero_ℚ ≤ℚ u) (sym (steps q h)) (free_up (at value made q) (free_at q state.AtLeast h (ap (state_of task.columns p.states.items) e ∙ at_least)))
    | inr h ↦ subst (λ u. zero_ℚ ≤ℚ u) (sym (ap x h ∙ one)) (<ℚ-≤ℚ zero_ℚ one_ℚ zero-<ℚ-one)
  ])

  -- the variable that enters is not one of another state
  not_entering : (v q : ℕ) (s : RowState) → (state.AtLeast ≡ s → ⊥) → state_of task.columns p.states.items v ≡ s → q ≡ size_of task → b q ≡ v → ⊥
  not_entering v q s apart is_s h e = apart (sym free.helps.may ∙ ap (state_of task.columns p.states.items) (sym last ∙ ap b (sym h) ∙ e) ∙ is_s)

  none_of : (v : ℕ) → state_of task.columns p.states.items v ≡ state.Zero → variable_value b x (size_of task + 1) v ≡ zero_ℚ
  none_of v zero_state = variable_value-zero (size_of task + 1) v b x (λ q j e. elim (last_or q j) [
    | inl h ↦ steps q h ∙ free_zero (at value made q) (free_at q state.Zero h (ap (state_of task.columns p.states.items) e ∙ zero_state))
    | inr h ↦ absurd (not_entering v q state.Zero (λ f. subst (λ s. IsAtLeast s) f tt) zero_state h e)
  ])

  own_place : basis_of p.tableau (length lp.rows) ≡ task.columns + length lp.rows
  own_place = is.feasible.own_place (length lp.rows) m_below settled.gain

  gain_step : variable_value b x (size_of task + 1) (task.columns + length lp.rows) ≡ neg_ℚ (at value made (length lp.rows))
  gain_step =
      variable_value-one (size_of task + 1) (task.columns + length lp.rows) (length lp.rows) b x (omega arith) (places (length lp.rows) m_below ∙ own_place)
      (λ q j e. elim (last_or q j) [
        | inl h ↦ only_place value task p (length lp.rows) q is m_below own_place h (sym (places q h) ∙ e)
        | inr h ↦ absurd (not_entering (task.columns + length lp.rows) q state.Waiting (λ f. subst (λ s. IsAtLeast s) f tt) (state_of-slack task.columns p.states.items (length lp.rows) ∙ settled.gain) h e)
      ]) ∙ steps (length lp.rows) m_below

  gain_made : product value task y entering ≡ at value made (length lp.rows)
  gain_made =
      let column = list_at task.lists.items entering in
      sym (sum-at value (num value y) column (size_of task) (describes.lists.below entering below_all))
      ∙ sum_ℚ-same (λ k. num value y k *ℚ at value column k) (λ k. inv_of value p.tableau.inverse.items k (length lp.rows) *ℚ at value column k) (size_of task) (λ k j. ap (λ u. u *ℚ at value column k) (row.same k j))
      ∙ made_is value (size_of task) p.tableau.inverse.items column made (describes.lists.below entering below_all) free.makes (length lp.rows)

  pub ray_shows : IsRayFraction lp (variable_value b x (size_of task + 1))
  ray_shows =
      let X = variable_value b x (size_of task + 1) in
      let n = task.columns in
      record {
        sign = λ j l. sign_of j (state_of-column n p.states.items j (let c = describes.columns in omega arith));
        rows = λ i l.
            let i_below : i < size_of task = let e = describes.size in omega arith in
            let same : sum_ℚ (λ j. X j *ℚ column_of value task j i) n ≡ sum_ℚ (λ j. X j *ℚ int_ℚ (cell lp i j)) lp.columns
            = sum_ℚ-same (λ j. X j *ℚ column_of value task j i) (λ j. X j *ℚ int_ℚ (cell lp i j)) n (λ j k. ap (λ u. X j *ℚ u) (describes.cells j i k l)) ∙ ap (sum_ℚ (λ j. X j *ℚ int_ℚ (cell lp i j))) describes.columns in
            ends_rows (row_at lp i).kind (get_or p.states.items i state.Waiting) (sum_ℚ (λ j. X j *ℚ int_ℚ (cell lp i j)) lp.columns) (X (n + i)) (settled.rows i l)
            (ap (λ a. a +ℚ X (n + i)) (sym same) ∙ row_is i i_below)
            (λ s. sign_of (n + i) (state_of-slack n p.states.items i ∙ s))
            (λ s. none_of (n + i) (state_of-slack n p.states.items i ∙ s));
        gains =
            subst (λ u. zero_ℚ <ℚ u)
            (sym (ap (sum_ℚ (λ j. X j *ℚ int_ℚ (int_at lp.gain j))) (sym describes.columns)
            ∙ gain_is n X (λ j. int_ℚ (int_at lp.gain j)) (λ j. column_of value task j (length lp.rows)) (X (n + length lp.rows)) describes.gains (row_is (length lp.rows) m_below)
            ∙ gain_step))
            (neg-positive (at value made (length lp.rows)) (subst (λ u. u <ℚ zero_ℚ) gain_made free.helps.helps));
      }

-- the same numbers
pub ray_same : (lp : Lp) (X Y : ℕ → ℚ) → ((j : ℕ) → j < lp.columns → Y j ≡ X j) → IsRayFraction lp X → IsRayFraction lp Y
ray_same lp X Y same is = record {
  sign = λ j l. subst (λ u. zero_ℚ ≤ℚ u) (sym (same j l)) (is.sign j l);
  rows = λ i l. subst (λ u. MeetsFraction (row_at lp i).kind u zero_ℚ) (sym (sum_ℚ-same (λ j. Y j *ℚ int_ℚ (cell lp i j)) (λ j. X j *ℚ int_ℚ (cell lp i j)) lp.columns (λ j k. ap (λ u. u *ℚ int_ℚ (cell lp i j)) (same j k)))) (is.rows i l);
  gains = subst (λ u. zero_ℚ <ℚ u) (sym (sum_ℚ-same (λ j. Y j *ℚ int_ℚ (int_at lp.gain j)) (λ j. X j *ℚ int_ℚ (int_at lp.gain j)) lp.columns (λ j k. ap (λ u. u *ℚ int_ℚ (int_at lp.gain j)) (same j k)))) is.gains;
}
