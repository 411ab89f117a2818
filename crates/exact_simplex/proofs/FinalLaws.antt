-- Laws of specs/Final.
use Rattle.std.proofs.Common.{ℕ, ◌≡◌, ◌+◌, ◌<◌, sym, ◌∙◌, ap, ap₂, subst, List, length, get_or, arith, true, refl}
use Rattle.exact_num.specs.Q.{ℚ}
use Rattle.exact_num.specs.Ops.{zero_ℚ, one_ℚ, neg_ℚ, ◌+ℚ◌, ◌*ℚ◌, +ℚ-zero, one-*ℚ, *ℚ-zero}
use Rattle.exact_num.specs.Sums.{sum_ℚ, sum_ℚ-same, sum_ℚ-more}
use Rattle.exact_num.specs.Order.{◌≤ℚ◌, from_difference, zero-<ℚ-one, <ℚ-not-≡}
use Rattle.exact_num.specs.Whole.{int_ℚ}
use Rattle.simplex_tableau.specs.Pivot.{dot}
use Rattle.simplex_tableau.proofs.SparseLaws.{sum-at}
use Rattle.simplex_tableau.specs.Dense.{num}
use Rattle.simplex_tableau.specs.Inverse.{list_at}
use Rattle.simplex_tableau.proofs.BasisLaws.{one_place}
use Rattle.exact_simplex.specs.Point.{variable_value}
use Rattle.exact_simplex.proofs.PointLaws.{row_of_point, variable_value-nonneg, variable_value-zero, variable_value-one}
use Rattle.simplex_tableau.specs.States.{Okay, state_of}
use Rattle.exact_simplex.specs.InForce.{in_force}
use Rattle.simplex_tableau.proofs.SimplexLaws.{state_of-column, state_of-slack}
use Rattle.exact_simplex.specs.Enter.{IsExtreme, product}
use Rattle.exact_simplex.proofs.OptimumLaws.{not_helps, dot_slack, row_value, row_at_own, below_side, meets_side, gain_is}
use Rattle.simplex_tableau.specs.Tableau.{basis_of, inverse_of, point_of}
use Rattle.exact_simplex.specs.Progress.{size_of, column_of, side_of, IsTaskLists, IsProgress, IsRow}
use Rattle.exact_simplex.specs.Scaled.{IsOptimum, MeetsFraction, IsMultiplierFraction}
use Rattle.exact_simplex.specs.Task.{int_at, cell, row_at}
use Rattle.exact_simplex.specs.declared.progress.Task.{Task}
use Rattle.exact_simplex.specs.declared.progress.Progress.{Progress}
use Rattle.exact_simplex.specs.declared.task.Lp.{Lp}
use Rattle.exact_simplex.specs.declared.task.RowKind.{RowKind}
use Rattle.exact_simplex.specs.declared.task.RowKind.TheVariants as kind
use Rattle.simplex_tableau.specs.declared.state.RowState.{RowState}
use Rattle.simplex_tableau.specs.declared.state.RowState.TheVariants as state
use Rattle.exact_simplex.specs.Final.{AreSettled, Describes}
use Rattle.exact_simplex.specs.Keeping.{IsDual}

pub product_is : {N : Type 0} (value : N → ℚ) (task : Task N) (y : List N) (v : ℕ) → IsTaskLists task → v < task.columns + size_of task → product value task y v ≡ dot (num value y) (column_of value task v) (size_of task)
product_is value task y v lists l = sym (sum-at value (num value y) (list_at task.lists.items v) (size_of task) (lists.below v l))

-- the row of a point by the kind of the row
row_meets : (k : RowKind) (s : RowState) (a slack side : ℚ) → s ≡ in_force k → a +ℚ slack ≡ side → (s ≡ state.AtLeast → zero_ℚ ≤ℚ slack) → (s ≡ state.Zero → slack ≡ zero_ℚ) → MeetsFraction k a side
row_meets kind.AtMost s a slack side is e sign none = below_side a slack side e (sign is)
row_meets kind.Equal s a slack side is e sign none = meets_side a slack side e (none is)

row_signs : (k : RowKind) (s : RowState) (y : ℚ) → s ≡ in_force k → (s ≡ state.AtLeast → zero_ℚ ≤ℚ y) → IsMultiplierFraction k y
row_signs kind.AtMost s y is sign = sign is
row_signs kind.Equal s y is sign = tt

-- a sum of which the last term counts apart
pub last_apart : (f : ℕ → ℚ) (m size : ℕ) → size ≡ m + 1 → sum_ℚ f size ≡ sum_ℚ f m +ℚ f m
last_apart f m size e = ap (sum_ℚ f) e ∙ sum_ℚ-more f m (f m) refl

-- the row of the inverse at the place of the gain's slack
pub dual_of_row : {N : Type 0} (value : N → ℚ) (lp : Lp) (task : Task N) (p : Progress N) (y : List N) → Describes value lp task → IsProgress value task p → AreSettled lp p.states.items
    → IsRow value (size_of task) p.tableau (length lp.rows) y → IsDual value task p (length lp.rows) y
dual_of_row value lp task p y describes is settled row =
    let below : length lp.rows < size_of task = let e = describes.size in omega arith in
    record {
      one_each = row.one_each;
      own = row_at_own (size_of task) task.columns (length lp.rows) (column_of value task) (side_of value task) (basis_of p.tableau) (inverse_of value p.tableau) (point_of value p.tableau) (num value y) describes.slacks is.basis below row.same (length lp.rows) below
          (is.feasible.own_place (length lp.rows) below settled.gain);
      total = row_value (size_of task) task.columns (length lp.rows) (column_of value task) (side_of value task) (basis_of p.tableau) (inverse_of value p.tableau) (point_of value p.tableau) (num value y) describes.slacks is.basis below row.same;
    }

module _ {N : Type 0} (value : N → ℚ) (lp : Lp) (task : Task N) (p : Progress N) (y : List N)
    (describes : Describes value lp task) (is : IsProgress value task p) (settled : AreSettled lp p.states.items)
    (dual : IsDual value task p (length lp.rows) y) (extreme : IsExtreme value task p.states.items y true) where
  m : ℕ
  m = length lp.rows

  X : ℕ → ℚ
  X = variable_value (basis_of p.tableau) (point_of value p.tableau) (size_of task)

  m_below : length lp.rows < size_of task
  m_below = let e = describes.size in omega arith

  row_below : (i : ℕ) → i < length lp.rows → i < size_of task
  row_below i l = let e = describes.size in omega arith

  own_place : basis_of p.tableau (length lp.rows) ≡ task.columns + length lp.rows
  own_place = is.feasible.own_place (length lp.rows) m_below settled.gain

  -- a variable with a state prices right
  prices : (v : ℕ) → v < task.columns + size_of task → state_of task.columns p.states.items v ≡ state.AtLeast → zero_ℚ ≤ℚ dot (num value y) (column_of value task v) (size_of task)
  prices v l at_least =
      subst (λ q. zero_ℚ ≤ℚ q) (product_is value task y v describes.lists l)
      (not_helps true (product value task y v) (λ h. extreme v (let e = describes.lists.each in omega arith) (record { may = at_least; helps = h })))

  value_there : (v q : ℕ) (s : RowState) → q < size_of task → basis_of p.tableau q ≡ v → state_of task.columns p.states.items v ≡ s → Okay s (point_of value p.tableau q)
  value_there v q s l e st = subst (λ u. Okay u (point_of value p.tableau q)) (ap (state_of task.columns p.states.items) e ∙ st) (is.feasible.okay q l)

  slack_state : (i : ℕ) (s : RowState) → get_or p.states.items i state.Waiting ≡ s → state_of task.columns p.states.items (task.columns + i) ≡ s
  slack_state i s e = state_of-slack task.columns p.states.items i ∙ e

  row_is : (i : ℕ) → i < size_of task → sum_ℚ (λ j. variable_value (basis_of p.tableau) (point_of value p.tableau) (size_of task) j *ℚ column_of value task j i) task.columns +ℚ variable_value (basis_of p.tableau) (point_of value p.tableau) (size_of task) (task.columns + i) ≡ side_of value task i
  row_is i l = row_of_point (size_of task) task.columns i (column_of value task) (basis_of p.tableau) (point_of value p.tableau) (side_of value task i) describes.slacks l is.within (is.basis.point i l)

  pub optimum : IsOptimum lp (variable_value (basis_of p.tableau) (point_of value p.tableau) (size_of task)) (num value y)
  optimum =
      let x = variable_value (basis_of p.tableau) (point_of value p.tableau) (size_of task) in
      let size = size_of task in
      let n = task.columns in
      let columns : lp.columns ≡ n = sym describes.columns in
      let one : num value y (length lp.rows) ≡ one_ℚ = dual.own in
      record {
        x_sign = λ j l. variable_value-nonneg size j (basis_of p.tableau) (point_of value p.tableau) (λ q k e. value_there j q state.AtLeast k e (state_of-column n p.states.items j (let c = columns in omega arith)));
        rows = λ i l.
            let same : sum_ℚ (λ j. x j *ℚ column_of value task j i) n ≡ sum_ℚ (λ j. x j *ℚ int_ℚ (cell lp i j)) lp.columns
            = sum_ℚ-same (λ j. x j *ℚ column_of value task j i) (λ j. x j *ℚ int_ℚ (cell lp i j)) n (λ j k. ap (λ u. x j *ℚ u) (describes.cells j i k l)) ∙ ap (sum_ℚ (λ j. x j *ℚ int_ℚ (cell lp i j))) describes.columns in
            row_meets (row_at lp i).kind (get_or p.states.items i state.Waiting) (sum_ℚ (λ j. x j *ℚ int_ℚ (cell lp i j)) lp.columns) (x (n + i)) (int_ℚ (row_at lp i).side) (settled.rows i l)
            (ap (λ a. a +ℚ x (n + i)) (sym same) ∙ row_is i (row_below i l) ∙ describes.sides i l)
            (λ s. variable_value-nonneg size (n + i) (basis_of p.tableau) (point_of value p.tableau) (λ q k e. value_there (n + i) q state.AtLeast k e (slack_state i state.AtLeast s)))
            (λ s. variable_value-zero size (n + i) (basis_of p.tableau) (point_of value p.tableau) (λ q k e. value_there (n + i) q state.Zero k e (slack_state i state.Zero s)));
        y_sign = λ i l. row_signs (row_at lp i).kind (get_or p.states.items i state.Waiting) (num value y i) (settled.rows i l)
            (λ s. subst (λ q. zero_ℚ ≤ℚ q) (dot_slack size n i (column_of value task) (num value y) describes.slacks (row_below i l))
            (prices (n + i) (let k = row_below i l in omega arith) (slack_state i state.AtLeast s)));
        covers = λ j l.
            let k : j < n = let c = columns in omega arith in
            let priced : zero_ℚ ≤ℚ dot (num value y) (column_of value task j) size = prices j (omega arith) (state_of-column n p.states.items j k) in
            let split : dot (num value y) (column_of value task j) size ≡ sum_ℚ (λ i. num value y i *ℚ int_ℚ (cell lp i j)) (length lp.rows) +ℚ neg_ℚ (int_ℚ (int_at lp.gain j))
            = last_apart (λ i. num value y i *ℚ column_of value task j i) (length lp.rows) size describes.size
            ∙ ap₂ (λ a b. a +ℚ b) (sum_ℚ-same (λ i. num value y i *ℚ column_of value task j i) (λ i. num value y i *ℚ int_ℚ (cell lp i j)) (length lp.rows) (λ i h. ap (λ u. num value y i *ℚ u) (describes.cells j i k h)))
            (ap₂ (λ a b. a *ℚ b) one (describes.gains j k) ∙ one-*ℚ (neg_ℚ (int_ℚ (int_at lp.gain j)))) in
            from_difference (int_ℚ (int_at lp.gain j)) (sum_ℚ (λ i. num value y i *ℚ int_ℚ (cell lp i j)) (length lp.rows)) (subst (λ q. zero_ℚ ≤ℚ q) split priced);
        same_value =
            let gained : sum_ℚ (λ j. x j *ℚ int_ℚ (int_at lp.gain j)) n ≡ x (n + length lp.rows)
            = gain_is n x (λ j. int_ℚ (int_at lp.gain j)) (λ j. column_of value task j (length lp.rows)) (x (n + length lp.rows)) describes.gains (row_is (length lp.rows) m_below ∙ describes.no_side) in
            let there : x (n + length lp.rows) ≡ point_of value p.tableau (length lp.rows)
            = variable_value-one size (n + length lp.rows) (length lp.rows) (basis_of p.tableau) (point_of value p.tableau) m_below own_place
            (λ q k e. one_place size (column_of value task) (side_of value task) (basis_of p.tableau) (inverse_of value p.tableau) (point_of value p.tableau) (λ z. <ℚ-not-≡ zero_ℚ one_ℚ zero-<ℚ-one (sym z)) is.basis q (length lp.rows) k m_below (e ∙ sym own_place)) in
            let side : dot (num value y) (side_of value task) size ≡ sum_ℚ (λ i. num value y i *ℚ int_ℚ (row_at lp i).side) (length lp.rows)
            = last_apart (λ i. num value y i *ℚ side_of value task i) (length lp.rows) size describes.size
            ∙ ap₂ (λ a b. a +ℚ b) (sum_ℚ-same (λ i. num value y i *ℚ side_of value task i) (λ i. num value y i *ℚ int_ℚ (row_at lp i).side) (length lp.rows) (λ i h. ap (λ u. num value y i *ℚ u) (describes.sides i h)))
            (ap (λ u. num value y (length lp.rows) *ℚ u) describes.no_side ∙ *ℚ-zero (num value y (length lp.rows))) ∙ +ℚ-zero (sum_ℚ (λ i. num value y i *ℚ int_ℚ (row_at lp i).side) (length lp.rows)) in
            ap (sum_ℚ (λ j. x j *ℚ int_ℚ (int_at lp.gain j))) columns ∙ gained ∙ there
            ∙ sym dual.total
            ∙ side;
      }
