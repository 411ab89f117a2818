-- The linear program of a node has no direction of endless gain.
use Rattle.std.proofs.Common.{ℕ, ◌≡◌, ◌<◌, arith, sym, ◌∙◌, ap, subst, Bool, true, false, List, length}
use Rattle.std.specs.Prelude.{ℤ, pos, ◌*ℤ◌, ◌≤ℤ◌, nat_lt}
use Rattle.std.proofs.lemmas.Int.{ints}
use Rattle.std.proofs.lemmas.Bool.{and_parts, ltb-true}
use Rattle.std.proofs.Math.IntN.{zero-*ℤ, *ℤ_comm}
use Rattle.numbers.specs.Algebra.{nonneg_product}
use Rattle.numbers.specs.Sums.{sum_below-zero}
use Rattle.problem_core.specs.Facts.{Facts}
use Rattle.problem_core.specs.Valid.{IsProblem}
use Rattle.duality.specs.declared.row.RowName.TheVariants.{Base}
use Rattle.duality.specs.Packing.{Packing, Weights, Stage, Fixing, as_number, coefficient, is_free}
use Rattle.duality.proofs.ChoiceLaws.{part-le}
use Rattle.packing_model.specs.Built.{packing}
use Rattle.search_nodes.proofs.RowLaws.{stands_in_event}
use Rattle.exact_simplex.specs.declared.task.RowKind.TheVariants as kind
use Rattle.exact_simplex.specs.Task.{IsRay, Meets, row_sum, gain_sum, cell, int_at}
use Rattle.node_bound.specs.declared.task.NodeTask.{NodeTask}
use Rattle.node_bound.specs.Tasks.{IsNodeTask, column_at, name_at, kind_of}
use Rattle.node_bound.proofs.AmountLaws.{member_at}
use Rattle.node_bound.proofs.NameLaws.{base_stands}

pub as_number-low : (b : Bool) → pos 0 ≤ℤ as_number b
as_number-low true = omega (arith, ints)
as_number-low false = omega (arith, ints)

times_one : (x : ℤ) (b : Bool) → b ≡ true → x *ℤ as_number b ≡ x
times_one x b h = ap (λ c. x *ℤ as_number c) h ∙ *ℤ_comm x (pos 1) ∙ omega (arith, ints)

-- what a pattern's column is
pub column_is : (k : Packing) (w : Weights) (s : Stage) (f : Fixing) (t : NodeTask) (j : ℕ) → IsNodeTask k w s f t → j < length t.columns → (column_at t.columns j < k.count) × (is_free k f (column_at t.columns j) ≡ true)
column_is k w s f t j is l =
    let parts = and_parts (nat_lt (column_at t.columns j) k.count) (is_free k f (column_at t.columns j)) (sym (is.columns.are (column_at t.columns j)) ∙ member_at t.columns j l) in
    (ltb-true (column_at t.columns j) k.count parts.0, parts.1)

-- each of the patterns stands in a base row
abbrev pub AreCovered : Packing → Type 0
AreCovered k = (p : ℕ) → p < k.count → (r : ℕ) × (r < k.base_len) × (k.in_base r p ≡ true)

-- a direction that keeps a base row is 0 at the columns that stand there
still : (k : Packing) (w : Weights) (s : Stage) (f : Fixing) (t : NodeTask) (ray : List ℤ) → AreCovered k → IsNodeTask k w s f t → IsRay t.lp ray → (j : ℕ) → j < t.lp.columns → int_at ray j ≡ pos 0
still k w s f t ray covered is ray_is j l =
    let m = subst (λ n. j < n) is.column_count l in
    let row = covered (column_at t.columns j) (column_is k w s f t j is m).0 in
    let place = base_stands k w s t.lead t.low row.0 row.1 in
    let i = place.place in
    let known = subst (λ ns. i < length ns) (sym is.names) place.known in
    let name : name_at t.names i ≡ Base row.0 = ap (λ ns. name_at ns i) is.names ∙ place.is in
    let at : (q : ℕ) → q < t.lp.columns → cell t.lp i q ≡ as_number (k.in_base row.0 (column_at t.columns q)) =
    λ q n. is.cells i q known (subst (λ c. q < c) is.column_count n) ∙ ap (λ r. coefficient k w s r (column_at t.columns q)) name in
    let kept : Meets kind.AtMost (row_sum t.lp i ray) (pos 0) = subst (λ a. Meets a (row_sum t.lp i ray) (pos 0)) (is.kinds i known ∙ ap kind_of name) (ray_is.rows i (subst (λ n. i < n) (sym is.row_count) known)) in
    let part = part-le (λ q. int_at ray q *ℤ cell t.lp i q) j t.lp.columns l (λ q n. nonneg_product (int_at ray q) (cell t.lp i q) (ray_is.sign q n) (subst (λ z. pos 0 ≤ℤ z) (sym (at q n)) (as_number-low _))) in
    let own : int_at ray j *ℤ cell t.lp i j ≡ int_at ray j = ap (λ z. int_at ray j *ℤ z) (at j l) ∙ times_one (int_at ray j) _ row.2 in
    let low = ray_is.sign j l in
    omega (arith, ints)

pub no_ray : (k : Packing) (w : Weights) (s : Stage) (f : Fixing) (t : NodeTask) (ray : List ℤ) → AreCovered k → IsNodeTask k w s f t → IsRay t.lp ray → ⊥
no_ray k w s f t ray covered is ray_is =
    let none : gain_sum t.lp ray ≡ pos 0 = sum_below-zero (λ j. int_at ray j *ℤ int_at t.lp.gain j) t.lp.columns (λ j l. ap (λ z. z *ℤ int_at t.lp.gain j) (still k w s f t ray covered is ray_is j l) ∙ zero-*ℤ (int_at t.lp.gain j)) in
    let more = ray_is.gains in
    omega (arith, ints)

-- over a problem's patterns each stands in the row of an event
pub event_rows : (p : Facts) → IsProblem p → AreCovered (packing p)
event_rows p is i l = let row = stands_in_event p is i l in (row.1, row.2, row.4)

pub no_ray_at : (p : Facts) (w : Weights) (s : Stage) (f : Fixing) (t : NodeTask) (ray : List ℤ) → IsProblem p → IsNodeTask (packing p) w s f t → IsRay t.lp ray → ⊥
no_ray_at p w s f t ray problem is ray_is = no_ray (packing p) w s f t ray (event_rows p problem) is ray_is
