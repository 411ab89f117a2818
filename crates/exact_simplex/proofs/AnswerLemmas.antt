-- The answers of a call from the end of its drives.
use Rattle.std.proofs.Common.{ℕ, ◌≡◌, ◌+◌, ◌<◌, sym, ◌∙◌, ap, ap₂, subst, List, length, get_or, arith, refl, zero, suc, [], ◌∷◌, ◌++◌, take, true, replicate, length-append, Option, Some, Vec, Global}
use Rattle.std.proofs.lemmas.List.{get_or-replicate, length-replicate}
use Rattle.exact_num.specs.Q.{ℚ}
use Rattle.exact_num.specs.Ops.{zero_ℚ, neg_ℚ, one_ℚ, ◌+ℚ◌, ◌*ℚ◌, zero-+ℚ, neg-*ℚ, one-*ℚ}
use Rattle.exact_num.specs.Sums.{sum_ℚ, sum_ℚ-same}
use Rattle.exact_num.specs.Order.{◌≤ℚ◌, ◌<ℚ◌}
use Rattle.exact_num.specs.Whole.{int_ℚ}
use Rattle.simplex_tableau.specs.declared.sparse.Entry.{Entry}
use Rattle.exact_simplex.specs.declared.progress.Task.{Task}
use Rattle.exact_simplex.specs.declared.progress.Progress.{Progress}
use Rattle.exact_simplex.specs.declared.task.Lp.{Lp}
use Rattle.exact_simplex.specs.declared.drive.Driven.{Driven}
use Rattle.exact_simplex.specs.declared.drive.Driven.TheVariants as driven
use Rattle.simplex_tableau.specs.Dense.{num, Added}
use Rattle.simplex_tableau.proofs.DenseLaws.{num-get}
use Rattle.exact_simplex.specs.Enter.{IsExtreme}
use Rattle.simplex_tableau.specs.Sparse.{at}
use Rattle.exact_simplex.specs.declared.force.Blocked.{Blocked}
use Rattle.exact_simplex.specs.declared.force.Blocked.TheVariants as blocked
use Rattle.exact_simplex.specs.Rows.{ForcesAll}
use Rattle.simplex_tableau.specs.declared.state.RowState.TheVariants as state
use Rattle.exact_simplex.specs.Drive.{Keeps, IsUnbounded, EndsAt}
use Rattle.exact_simplex.specs.Empty.{ShowsEmptyFraction}
use Rattle.exact_simplex.specs.Keeping.{IsDual}
use Rattle.exact_simplex.specs.Final.{Describes, AreSettled}
use Rattle.exact_simplex.proofs.FinalLaws.{optimum}
use Rattle.exact_simplex.specs.Point.{variable_value}
use Rattle.exact_simplex.specs.Progress.{size_of, IsProgress, IsRow}
use Rattle.exact_simplex.specs.Ray.{IsRayFraction, IsDirection}
use Rattle.exact_simplex.specs.Scaled.{IsOptimum, MeetsFraction, IsMultiplierFraction}
use Rattle.simplex_tableau.specs.Tableau.{basis_of, point_of}
use Rattle.exact_simplex.specs.Task.{int_at, cell, row_at}
use Rattle.exact_simplex.specs.Values.{AreValues}
use Rattle.simplex_tableau.proofs.ListLemmas.{get_or-end, get_or-front, num-end, num-front}
use Rattle.exact_simplex.proofs.RayLemmas.{ray_shows, ray_same}

-- ---- the same numbers

pub optimum_same : (lp : Lp) (X Y X' Y' : ℕ → ℚ) → ((j : ℕ) → j < lp.columns → X' j ≡ X j) → ((i : ℕ) → i < length lp.rows → Y' i ≡ Y i) → IsOptimum lp X Y → IsOptimum lp X' Y'
optimum_same lp X Y X' Y' x_same y_same is =
    let xs : (a : ℕ → ℚ) → sum_ℚ (λ j. X j *ℚ a j) lp.columns ≡ sum_ℚ (λ j. X' j *ℚ a j) lp.columns
    = λ a. sum_ℚ-same (λ j. X j *ℚ a j) (λ j. X' j *ℚ a j) lp.columns (λ j l. ap (λ u. u *ℚ a j) (sym (x_same j l))) in
    let ys : (a : ℕ → ℚ) → sum_ℚ (λ i. Y i *ℚ a i) (length lp.rows) ≡ sum_ℚ (λ i. Y' i *ℚ a i) (length lp.rows)
    = λ a. sum_ℚ-same (λ i. Y i *ℚ a i) (λ i. Y' i *ℚ a i) (length lp.rows) (λ i l. ap (λ u. u *ℚ a i) (sym (y_same i l))) in
    record {
      x_sign = λ j l. subst (λ u. zero_ℚ ≤ℚ u) (sym (x_same j l)) (is.x_sign j l);
      rows = λ i l. subst (λ u. MeetsFraction (row_at lp i).kind u (int_ℚ (row_at lp i).side)) (xs (λ j. int_ℚ (cell lp i j))) (is.rows i l);
      y_sign = λ i l. subst (λ u. IsMultiplierFraction (row_at lp i).kind u) (sym (y_same i l)) (is.y_sign i l);
      covers = λ j l. subst (λ u. int_ℚ (int_at lp.gain j) ≤ℚ u) (ys (λ i. int_ℚ (cell lp i j))) (is.covers j l);
      same_value = sym (xs (λ j. int_ℚ (int_at lp.gain j))) ∙ is.same_value ∙ ys (λ i. int_ℚ (row_at lp i).side);
    }

pub empty_same : (lp : Lp) (Y Z : ℕ → ℚ) → ((i : ℕ) → i < length lp.rows → Z i ≡ Y i) → ShowsEmptyFraction lp Y → ShowsEmptyFraction lp Z
empty_same lp Y Z same is =
    let ys : (a : ℕ → ℚ) → sum_ℚ (λ i. Y i *ℚ a i) (length lp.rows) ≡ sum_ℚ (λ i. Z i *ℚ a i) (length lp.rows)
    = λ a. sum_ℚ-same (λ i. Y i *ℚ a i) (λ i. Z i *ℚ a i) (length lp.rows) (λ i l. ap (λ u. u *ℚ a i) (sym (same i l))) in
    record {
      sign = λ i l. subst (λ u. IsMultiplierFraction (row_at lp i).kind u) (sym (same i l)) (is.sign i l);
      columns = λ j l. subst (λ u. zero_ℚ ≤ℚ u) (ys (λ i. int_ℚ (cell lp i j))) (is.columns j l);
      negative = subst (λ u. u <ℚ zero_ℚ) (ys (λ i. int_ℚ (row_at lp i).side)) is.negative;
    }

-- a number of the first part of a list
pub num-take : {N : Type 0} (value : N → ℚ) (k : ℕ) (xs : List N) (i : ℕ) → i < k → num value (take k xs) i ≡ num value xs i
num-take value zero xs i l = absurd (omega (arith, l))
num-take value (suc k) [] i l = refl
num-take value (suc k) (x ∷ xs) zero l = refl
num-take value (suc k) (x ∷ xs) (suc i) l = num-take value k xs i (omega (arith, l))

-- ---- the best point

pub best_from : {N : Type 0} (value : N → ℚ) (lp : Lp) (task : Task N) (p : Progress N) (y x z : List N) (basis : List ℕ) (point : List N) → Describes value lp task → IsProgress value task p → AreSettled lp p.states.items
    → IsDual value task p (length lp.rows) y → IsExtreme value task p.states.items y true
    → basis ≡ p.tableau.basis.items → point ≡ p.tableau.point.items → AreValues value task.columns basis point x → ((i : ℕ) → i < length lp.rows → num value z i ≡ num value y i)
    → IsOptimum lp (num value x) (num value z)
best_from value lp task p y x z basis point describes is settled dual extreme basis_is point_is values z_same =
    optimum_same lp (variable_value (basis_of p.tableau) (point_of value p.tableau) (size_of task)) (num value y) (num value x) (num value z)
    (λ j l. values.same j (let c = describes.columns in omega arith)
    ∙ ap₂ (λ b q. variable_value (λ r. get_or b r 0) (num value q) (length b) j) basis_is point_is
    ∙ ap (λ k. variable_value (basis_of p.tableau) (point_of value p.tableau) k j) is.shape.basis_length)
    z_same (optimum value lp task p y describes is settled dual extreme)

-- ---- the answers

-- ---- the direction

-- the basis with the variable that grows, and how the places fall
pub direction_from : {N : Type 0} (value : N → ℚ) (task : Task N) (p : Progress N) (entering : ℕ) (made : List (Entry N)) (zeros moved numbers values : List N) (variables : List ℕ) (none one minus : N)
    → length p.tableau.basis.items ≡ size_of task → value none ≡ zero_ℚ → value one ≡ one_ℚ → value minus ≡ neg_ℚ one_ℚ
    → zeros ≡ replicate (size_of task) none → length moved ≡ length zeros → Added value zeros (value minus) made moved → numbers ≡ moved ++ one ∷ [] → variables ≡ p.tableau.basis.items ++ entering ∷ []
    → AreValues value task.columns variables numbers values → IsDirection value task p entering made values
direction_from value task p entering made zeros moved numbers values variables none one minus size is_zero is_one is_minus all same_length added numbers_are variables_are is = record {
  variables = λ q. get_or variables q 0;
  steps = num value numbers;
  one_each = is.one_each;
  same = λ v l. is.same v l ∙ ap (λ k. variable_value (λ q. get_or variables q 0) (num value numbers) k v) (ap length variables_are ∙ length-append p.tableau.basis.items (entering ∷ []) ∙ ap (λ k. k + 1) size);
  places = λ q l. ap (λ xs. get_or xs q 0) variables_are ∙ get_or-front p.tableau.basis.items entering 0 q (let e = size in omega arith);
  last = ap (λ xs. get_or xs (size_of task) 0) variables_are ∙ ap (λ k. get_or (p.tableau.basis.items ++ entering ∷ []) k 0) (sym size) ∙ get_or-end p.tableau.basis.items entering 0;
  falls = λ q l.
      let m = at value made q in
      ap (λ xs. num value xs q) numbers_are ∙ num-front value moved one q (let e = moved_length in omega arith) ∙ added q (let e = zeros_length in omega arith)
      ∙ ap₂ (λ a b. a +ℚ b *ℚ m)
      (ap (λ xs. num value xs q) all ∙ num-get value (replicate (size_of task) none) q none (let e = length-replicate (size_of task) none in omega arith) (sym (get_or-replicate (size_of task) q none none l)) ∙ is_zero) is_minus
      ∙ zero-+ℚ (neg_ℚ one_ℚ *ℚ m) ∙ neg-*ℚ one_ℚ m ∙ ap neg_ℚ (one-*ℚ m);
  one = ap (λ xs. num value xs (size_of task)) numbers_are ∙ ap (num value (moved ++ one ∷ [])) (sym moved_length) ∙ num-end value moved one ∙ is_one;
}
  where
    zeros_length : length zeros ≡ size_of task
    zeros_length = ap length all ∙ length-replicate (size_of task) none

    moved_length : length moved ≡ size_of task
    moved_length = same_length ∙ zeros_length

pub ray_from : {N : Type 0} (value : N → ℚ) (lp : Lp) (task : Task N) (p : Progress N) (y : List N) (entering : ℕ) (made : List (Entry N)) (values : List N) → Describes value lp task → IsProgress value task p → AreSettled lp p.states.items
    → IsRow value (size_of task) p.tableau (length lp.rows) y → IsUnbounded value task p y true entering made → IsDirection value task p entering made values → IsRayFraction lp (num value values)
ray_from value lp task p y entering made values describes is settled row free moves =
    ray_same lp (variable_value moves.variables moves.steps (size_of task + 1)) (num value values) (λ j l. moves.same j (let c = describes.columns in omega arith))
    (ray_shows value lp task p y entering made moves.variables moves.steps describes is settled row free moves.places moves.last moves.falls moves.one)

-- ---- the last drive

-- the slack of the gain never leaves
pub gain_stays : {N : Type 0} (value : N → ℚ) (lp : Lp) (task : Task N) (limit : ℕ) (old new : Progress N) (y : List N) (steps steps' : ℕ) (d : Driven N) → Describes value lp task → AreSettled lp old.states.items
    → Keeps value task limit old new steps steps' → d ≡ driven.Left → EndsAt value task (length lp.rows) true limit old new y d → ⊥
gain_stays value lp task limit old new y steps steps' d describes settled keeps left ended =
    let m : length lp.rows < size_of task = let e = describes.size in omega arith in
    subst (λ e. EndsAt value task (length lp.rows) true limit old new y e) left ended (length lp.rows) m (keeps.progress.feasible.own_place (length lp.rows) m (ap (λ v. get_or v.items (length lp.rows) state.Waiting) keeps.states ∙ settled.gain))

pub settled_after : {N : Type 0} (value : N → ℚ) (lp : Lp) (task : Task N) (limit : ℕ) (old new : Progress N) (steps steps' : ℕ) → AreSettled lp old.states.items → Keeps value task limit old new steps steps' → AreSettled lp new.states.items
settled_after value lp task limit old new steps steps' settled keeps = subst (λ v. AreSettled lp v.items) (sym keeps.states) settled

pub stuck_gain : {N : Type 0} (value : N → ℚ) (lp : Lp) (task : Task N) (limit : ℕ) (old new : Progress N) (y : List N) (d : Driven N) → d ≡ driven.Stuck → EndsAt value task (length lp.rows) true limit old new y d
    → IsRow value (size_of task) new.tableau (length lp.rows) y × IsExtreme value task new.states.items y true
stuck_gain value lp task limit old new y d is end = let e = subst (λ x. EndsAt value task (length lp.rows) true limit old new y x) is end in (e.0.is_row, e.1)

pub unbounded_gain : {N : Type 0} (value : N → ℚ) (lp : Lp) (task : Task N) (limit : ℕ) (old new : Progress N) (y : List N) (d : Driven N) (entering : ℕ) (made : List (Entry N)) → d ≡ driven.Unbounded entering made → EndsAt value task (length lp.rows) true limit old new y d
    → IsRow value (size_of task) new.tableau (length lp.rows) y × IsUnbounded value task new y true entering made
unbounded_gain value lp task limit old new y d entering made is end = let e = subst (λ x. EndsAt value task (length lp.rows) true limit old new y x) is end in (e.0.is_row, e.1)

-- ---- the rows

pub forces_empty : {N : Type 0} (value : N → ℚ) (lp : Lp) (task : Task N) (limit : ℕ) (old new : Progress N) (steps steps' : ℕ) (o : Option (Blocked N)) (h : Blocked N) (z : Vec N Global) → o ≡ Some h → h ≡ blocked.Empty z
    → ForcesAll value lp task limit old new steps steps' o → ShowsEmptyFraction lp (num value z.items)
forces_empty value lp task limit old new steps steps' o h z is shows ends = (subst (λ q. ForcesAll value lp task limit old new steps steps' q) (is ∙ ap Some shows) ends).1
