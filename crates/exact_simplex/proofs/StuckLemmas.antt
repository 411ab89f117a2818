-- A slack that cannot be driven to 0 shows that no point meets the rows.
use Rattle.std.proofs.Common.{ℕ, ◌≡◌, ◌≢◌, ◌+◌, ◌<◌, ◌≤◌, sym, ◌∙◌, ap, ap₂, subst, inl, inr, ◌⊎◌, List, length, get_or, arith, Option, Some, Bool, true, false, refl}
use Rattle.std.proofs.Math.Decide.{ℕ_discrete}
use Rattle.exact_num.specs.Q.{ℚ}
use Rattle.exact_num.specs.Ops.{zero_ℚ, neg_ℚ, ◌+ℚ◌, ◌*ℚ◌, +ℚ-zero, zero-*ℚ}
use Rattle.exact_num.specs.Sums.{sum_ℚ, sum_ℚ-same}
use Rattle.exact_num.specs.Order.{◌≤ℚ◌, ◌<ℚ◌, ≤ℚ-<ℚ}
use Rattle.exact_num.specs.Whole.{int_ℚ}
use Rattle.simplex_tableau.specs.Pivot.{dot}
use Rattle.simplex_tableau.specs.Dense.{num}
use Rattle.simplex_tableau.specs.States.{Okay, driven_state_of, state_of}
use Rattle.exact_simplex.specs.InForce.{in_force}
use Rattle.simplex_tableau.proofs.StatesLaws.{neg-≤ℚ, neg-zero, neg-some}
use Rattle.simplex_tableau.proofs.SimplexLaws.{state_of-column, state_of-slack}
use Rattle.exact_simplex.specs.Enter.{Helps}
use Rattle.exact_simplex.specs.Optimum.{signed}
use Rattle.exact_simplex.proofs.OptimumLaws.{signed-zero, signed_dot, not_helps, row_value, row_at_slack, row_sign}
use Rattle.simplex_tableau.specs.Tableau.{basis_of, inverse_of, point_of}
use Rattle.exact_simplex.specs.Progress.{size_of, column_of, side_of}
use Rattle.exact_simplex.specs.Force.{Counts, GoesFor, IsStuck, ShowsNone, OthersKept, ForcesTo}
use Rattle.exact_simplex.specs.declared.force.Blocked.{Blocked}
use Rattle.exact_simplex.specs.declared.force.Blocked.TheVariants as blocked
use Rattle.exact_simplex.specs.Final.{Describes}
use Rattle.exact_simplex.proofs.FinalLaws.{product_is, last_apart}
use Rattle.exact_simplex.specs.Rows.{AreForced, ForcesAll}
use Rattle.exact_simplex.specs.Scaled.{IsMultiplierFraction}
use Rattle.exact_simplex.specs.Empty.{ShowsEmptyFraction}
use Rattle.exact_simplex.specs.Task.{cell, row_at}
use Rattle.exact_simplex.specs.declared.progress.Task.{Task}
use Rattle.exact_simplex.specs.declared.progress.Progress.{Progress}
use Rattle.exact_simplex.specs.declared.task.Lp.{Lp}
use Rattle.exact_simplex.specs.declared.task.RowKind.{RowKind}
use Rattle.exact_simplex.specs.declared.task.RowKind.TheVariants as kind
use Rattle.simplex_tableau.specs.declared.state.RowState.TheVariants as state

-- a row that bounds its sum is in force, or its slack stands at its own place
pub record AreAtOwnPlaces {N : Type 0} (lp : Lp) (task : Task N) (r : ℕ) (up : Bool) (p : Progress N) : Type 0 where
  pub rows : (i : ℕ) → i < length lp.rows → (row_at lp i).kind ≡ kind.AtMost → (get_or p.states.items i state.Waiting ≡ state.AtLeast) ⊎ ((basis_of p.tableau i ≡ task.columns + i) × ((i ≢ r) ⊎ (up ≡ true)))
  pub gain : get_or p.states.items (length lp.rows) state.Waiting ≡ state.Waiting

signs_by : (k : RowKind) (y : ℚ) → (k ≡ kind.AtMost → zero_ℚ ≤ℚ y) → IsMultiplierFraction k y
signs_by kind.AtMost y h = h refl
signs_by kind.Equal y h = tt

-- a number on the way to 0, taken with its sign
signed_less : (up : Bool) (x : ℚ) → Okay (driven_state_of up) x → x ≢ zero_ℚ → signed up x <ℚ zero_ℚ
signed_less true x h some = ≤ℚ-<ℚ x zero_ℚ h some
signed_less false x h some = ≤ℚ-<ℚ (neg_ℚ x) zero_ℚ (subst (λ u. neg_ℚ x ≤ℚ u) neg-zero (neg-≤ℚ zero_ℚ x h)) (neg-some x some)

pub stuck_shows : {N : Type 0} (value : N → ℚ) (lp : Lp) (task : Task N) (p : Progress N) (r : ℕ) (up : Bool) (y z : List N) → Describes value lp task → AreAtOwnPlaces lp task r up p → r < length lp.rows
    → IsStuck value task r up p y → point_of value p.tableau r ≢ zero_ℚ → ((k : ℕ) → k < size_of task → num value z k ≡ signed up (num value y k)) → ShowsEmptyFraction lp (num value z)
stuck_shows value lp task p r up y z describes own_places l stuck some same =
    let size = size_of task in
    let n = task.columns in
    let m = length lp.rows in
    let is = stuck.progress in
    let Y = num value y in
    let m_below : m < size = let e = describes.size in omega arith in
    let r_below : r < size = let e = describes.size in omega arith in
    let own_place : basis_of p.tableau m ≡ n + m = is.feasible.own_place m m_below own_places.gain in
    let none : Y m ≡ zero_ℚ
    = row_at_slack size n r (column_of value task) (side_of value task) (basis_of p.tableau) (inverse_of value p.tableau) (point_of value p.tableau) Y describes.slacks is.basis r_below stuck.is_row.same m m m_below m_below own_place (λ e. absurd (omega arith)) in
    let helps : (v : ℕ) → v < n + size → state_of n p.states.items v ≡ state.AtLeast → Helps up (dot Y (column_of value task v) size) → ⊥
    = λ v k may h. stuck.extreme v (let e = describes.lists.each in omega arith) (record { may = may; helps = subst (λ q. Helps up q) (sym (product_is value task y v describes.lists k)) h }) in
    let split : (a b : ℕ → ℚ) → ((i : ℕ) → i < m → a i ≡ b i) → signed up (dot Y a size) ≡ sum_ℚ (λ i. num value z i *ℚ b i) m
    = λ a b e. sym (signed_dot up Y a size)
    ∙ last_apart (λ i. signed up (Y i) *ℚ a i) m size describes.size
    ∙ ap₂ (λ u w. u +ℚ w) (sum_ℚ-same (λ i. signed up (Y i) *ℚ a i) (λ i. num value z i *ℚ b i) m (λ q h. ap₂ (λ u w. u *ℚ w) (sym (same q (let e = describes.size in omega arith))) (e q h)))
    (ap (λ u. signed up u *ℚ a m) none ∙ ap (λ u. u *ℚ a m) (signed-zero up) ∙ zero-*ℚ (a m)) ∙ +ℚ-zero (sum_ℚ (λ i. num value z i *ℚ b i) m) in
    record {
      sign = λ i k. signs_by (row_at lp i).kind (num value z i) (λ bounds.
          let j : i < size = let e = describes.size in omega arith in
          subst (λ q. zero_ℚ ≤ℚ q) (sym (same i j))
          (row_sign size n r (column_of value task) (side_of value task) (basis_of p.tableau) (inverse_of value p.tableau) (point_of value p.tableau) Y describes.slacks is.basis r_below stuck.is_row.same up i j
          (elim (own_places.rows i k bounds) [
            | inl forced ↦ inl (helps (n + i) (omega arith) (state_of-slack n p.states.items i ∙ forced))
            | inr at_own_place ↦ inr at_own_place
          ])));
      columns = λ j k.
          let i : j < n = let c = describes.columns in omega arith in
          let priced : zero_ℚ ≤ℚ signed up (dot Y (column_of value task j) size) = not_helps up (dot Y (column_of value task j) size) (helps j (omega arith) (state_of-column n p.states.items j i)) in
          subst (λ q. zero_ℚ ≤ℚ q) (split (column_of value task j) (λ q. int_ℚ (cell lp q j)) (λ q h. describes.cells j q i h)) priced;
      negative =
          subst (λ q. q <ℚ zero_ℚ) (sym (ap (signed up) (row_value size n r (column_of value task) (side_of value task) (basis_of p.tableau) (inverse_of value p.tableau) (point_of value p.tableau) Y describes.slacks is.basis r_below stuck.is_row.same))
          ∙ split (side_of value task) (λ q. int_ℚ (row_at lp q).side) (λ q h. describes.sides q h))
          (signed_less up (point_of value p.tableau r) stuck.side some);
    }

up_by : (k : RowKind) (up : Bool) → k ≡ kind.AtMost → GoesFor k up → up ≡ true
up_by k up e h = subst (λ c. GoesFor c up) e h

force_by : (k : RowKind) → k ≡ kind.AtMost → in_force k ≡ state.AtLeast
force_by k e = ap in_force e

-- the rows before it are in force, those behind it wait: what a row that can't come in force shows of the whole task
pub none_shows : {N : Type 0} (value : N → ℚ) (lp : Lp) (task : Task N) (old p : Progress N) (r : ℕ) (k : RowKind) (z : List N) → Describes value lp task → r < length lp.rows → k ≡ (row_at lp r).kind
    → AreForced lp old.states.items r → OthersKept r old p → ShowsNone value task r k p z → ShowsEmptyFraction lp (num value z)
none_shows value lp task old p r k z describes l kind_is forced kept shows =
    stuck_shows value lp task p r shows.up shows.y z describes own_places l shows.stuck shows.some (λ j h. shows.shown.same j (let e = shows.stuck.is_row.one_each in omega arith))
  where
    lt_or_le : (a b : ℕ) → (a < b) ⊎ (b ≤ a)
    lt_or_le a b = search (arith)

    own_place : (i : ℕ) → i < size_of task → get_or p.states.items i state.Waiting ≡ state.Waiting → basis_of p.tableau i ≡ task.columns + i
    own_place i h w = shows.stuck.progress.feasible.own_place i h w

    own_places : AreAtOwnPlaces lp task r shows.up p
    own_places = record {
      rows = λ i h bounds.
          let go : Dec (i ≡ r) → (get_or p.states.items i state.Waiting ≡ state.AtLeast) ⊎ ((basis_of p.tableau i ≡ task.columns + i) × ((i ≢ r) ⊎ (shows.up ≡ true))) = elim [
            | yes e ↦ inr (ap (basis_of p.tableau) e ∙ shows.stuck.own_place ∙ ap (λ q. task.columns + q) (sym e), inr (up_by k shows.up (kind_is ∙ ap (λ q. (row_at lp q).kind) (sym e) ∙ bounds) shows.goes))
            | no ne ↦ elim (lt_or_le i r) [
              | inl before ↦ inl (kept i ne ∙ forced.done i before ∙ force_by (row_at lp i).kind bounds)
              | inr behind ↦ elim (forced.ahead i behind) [
                | inl waits ↦ inr (own_place i (let e = describes.size in omega arith) (kept i ne ∙ waits), inl ne)
                | inr holds ↦ inl (kept i ne ∙ holds ∙ force_by (row_at lp i).kind bounds)
              ]
            ]
          ] in
          go (ℕ_discrete i r);
      gain = kept (length lp.rows) (λ e. absurd (omega arith)) ∙ forced.gain;
    }

pub counts_then : {N : Type 0} (limit : ℕ) (a b c : Progress N) (s t u : ℕ) → Counts limit a b s t → Counts limit b c t u → Counts limit a c s u
counts_then limit a b c s t u first second = record {
  counted = let x = first.counted in let y = second.counted in omega arith;
  within = second.within;
}

-- a row that can't come in force ends the whole
pub blocked_all : {N : Type 0} (value : N → ℚ) (lp : Lp) (task : Task N) (limit : ℕ) (a b c : Progress N) (s t u r : ℕ) (k : RowKind) (o : Option (Blocked N)) (h : Blocked N) → Describes value lp task → r < length lp.rows → k ≡ (row_at lp r).kind
    → AreForced lp b.states.items r → Counts limit a b s t → o ≡ Some h → ForcesTo value task r k limit b c t u o → ForcesAll value lp task limit a c s u (Some h)
blocked_all {N = N} value lp task limit a b c s t u r k o h describes l kind_is forced first is ends = by_case h (subst (λ q. ForcesTo value task r k limit b c t u q) is ends)
  where
    by_case : (g : Blocked N) → ForcesTo value task r k limit b c t u (Some g) → ForcesAll value lp task limit a c s u (Some g)
    by_case (blocked.Empty z) e = (
      counts_then limit a b c s t u first e.0,
      none_shows value lp task b c r k z.items describes l kind_is forced e.2 e.1,
      let w = e.1.shown.one_each in let v = e.1.stuck.is_row.one_each in omega arith,
    )
    by_case blocked.Stalled e = (counts_then limit a b c s t u first e.0, e.1)
