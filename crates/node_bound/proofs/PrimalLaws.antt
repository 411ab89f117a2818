-- A point of a node's linear program, with the patterns that are taken, meets the rows of the node.
use Rattle.std.proofs.Common.{ℕ, ◌≡◌, ◌<◌, ◌≤◌, ◌+◌, ◌^◌, arith, refl, sym, ◌∙◌, ap, subst, zero, suc, Bool, true, false, not, ◌&&◌, List, [], ◌∷◌, length, inl, inr}
use Rattle.std.specs.Prelude.{ℤ, pos, negsuc, ◌+ℤ◌, ◌-ℤ◌, ◌*ℤ◌, ◌≤ℤ◌, ◌==◌, nat_lt, if◌then◌else◌, Option, Some, None}
use Rattle.std.specs.List.{list_all}
use Rattle.std.proofs.lemmas.Int.{ints}
use Rattle.std.proofs.lemmas.Bool.{cases_Bool, cases_lt, and_parts, and_from, ltb-true, eq-eqb, ne_eqb, or_left, or_right, true≢false}
use Rattle.std.proofs.lemmas.List.{get_or-map, get_or_past}
use Rattle.std.proofs.Math.IntN.{zero-*ℤ, *ℤ_comm}
use Rattle.numbers.specs.Algebra.{nonneg_product, -ℤ-*ℤ}
use Rattle.numbers.specs.Sums.{total, member, sum_below, sum_below-same}
use Rattle.exact_num.specs.Work.{below}
use Rattle.problem_core.specs.Facts.{Facts}
use Rattle.problem_core.specs.Valid.{IsProblem}
use Rattle.duality.specs.declared.row.RowName.{RowName}
use Rattle.duality.specs.declared.row.RowName.TheVariants.{Base, Cut, Level}
use Rattle.duality.specs.Packing.{Packing, Weights, Stage, Fixing, IsFixing, as_number, cut_at, coefficient, level_coefficient, right_side, floor_level, floor_weight, floor_number, target_of, is_free}
use Rattle.duality.proofs.ChoiceLaws.{part-le}
use Rattle.packing_model.specs.declared.point.Point.{Point}
use Rattle.packing_model.specs.declared.fixing.Fixing.{Fixing as TakenOut}
use Rattle.packing_model.specs.Built.{packing}
use Rattle.packing_model.specs.Nodes.{IsValidFixing, fixed_of}
use Rattle.packing_model.proofs.NodeLemmas.{distinct_from}
use Rattle.search_nodes.specs.Points.{ReachesFloor, entry_of, sum_at}
use Rattle.exact_simplex.specs.declared.task.RowKind.{RowKind}
use Rattle.exact_simplex.specs.declared.task.RowKind.TheVariants as kind
use Rattle.exact_simplex.specs.Task.{AreSmall, Meets, row_at, row_sum, gain_sum, cell, int_at}
use Rattle.node_bound.specs.declared.task.NodeTask.{NodeTask}
use Rattle.node_bound.specs.Duals.{side_left}
use Rattle.node_bound.specs.Tasks.{IsNodeTask, column_at, name_at, kind_of}
use Rattle.node_bound.specs.Answers.{IsFeasible, IsNodePoint}
use Rattle.node_bound.specs.Amounts.{AreAmounts, IsListed, IsSmall}
use Rattle.node_bound.proofs.AmountLaws.{amounts_sum, place_of, below_at}
use Rattle.node_bound.proofs.NameLaws.{Stands, base_stands, cut_stands, level_stands, floor_stands}
use Rattle.node_bound.proofs.RayLaws.{AreCovered, as_number-low, event_rows}

-- a point of the program, and what it gives each pattern
pub record IsPrimal (k : Packing) (w : Weights) (s : Stage) (f : Fixing) (t : NodeTask) (x : List ℤ) (den : ℤ) (amounts : List ℤ) : Type 0 where
  pub covered : AreCovered k
  pub fixing : IsFixing k f
  pub task : IsNodeTask k w s f t
  pub feasible : IsFeasible t.lp x den
  pub given : AreAmounts t.columns x f.one den k.count amounts

pub primal : (p : Facts) (w : Weights) (s : Stage) (f : TakenOut) (t : NodeTask) (x : List ℤ) (den other : ℤ) (count : ℕ) (columns one : List ℕ) (amounts : List ℤ) → IsProblem p → IsValidFixing (packing p) f → IsNodeTask (packing p) w s (fixed_of f) t
    → IsFeasible t.lp x den → columns ≡ t.columns → one ≡ f.one → other ≡ den → count ≡ (packing p).count → AreAmounts columns x one other count amounts → IsPrimal (packing p) w s (fixed_of f) t x den amounts
primal p w s f t x den other count columns one amounts problem fixing task feasible same_columns same_one same_den same_count given = record {
  covered = event_rows p problem;
  fixing = record { differ = distinct_from f.one fixing.differ; known = fixing.of_packing.one };
  task = task;
  feasible = feasible;
  given = subst (λ n. AreAmounts t.columns x f.one den n amounts) same_count (subst (λ d. AreAmounts t.columns x f.one d count amounts) same_den
      (subst (λ ps. AreAmounts t.columns x ps other count amounts) same_one (subst (λ ps. AreAmounts ps x one other count amounts) same_columns given)));
}

-- ---- numbers of the point are small

small_of : (z : ℤ) → below (10 ^ 24 + 1) z ≡ true → pos 0 ≤ℤ z → IsSmall z
small_of (pos n) h l = let m = ltb-true n (10 ^ 24 + 1) h in record { low = l; high = omega (arith, ints, m) }
small_of (negsuc n) h l = absurd (omega (arith, ints))

all_small : (zs : List ℤ) (j : ℕ) → AreSmall zs → below (10 ^ 24 + 1) (int_at zs j) ≡ true
all_small [] j h = refl
all_small (z ∷ zs) zero h = (and_parts (below (10 ^ 24 + 1) z) (list_all (below (10 ^ 24 + 1)) zs) h).0
all_small (z ∷ zs) (suc j) h = all_small zs j (and_parts (below (10 ^ 24 + 1) z) (list_all (below (10 ^ 24 + 1)) zs) h).1

nothing_small : IsSmall (pos 0)
nothing_small = record { low = omega (arith, ints); high = omega (arith, ints) }

pub den_small : (t : NodeTask) (x : List ℤ) (den : ℤ) → IsFeasible t.lp x den → IsSmall den
den_small t x den is = small_of den (and_parts (below (10 ^ 24 + 1) den) (list_all (below (10 ^ 24 + 1)) x) is.small).0 (let h = is.positive in omega (arith, ints))

pub numbers_small : (t : NodeTask) (x : List ℤ) (den : ℤ) → IsFeasible t.lp x den → (j : ℕ) → IsSmall (int_at x j)
numbers_small t x den is j = elim (cases_lt j t.lp.columns) [
  | inl known ↦ small_of (int_at x j) (all_small x j (and_parts (below (10 ^ 24 + 1) den) (list_all (below (10 ^ 24 + 1)) x) is.small).1) (is.sign j known)
  | inr past ↦ subst IsSmall (sym (get_or_past x j (pos 0) (omega (arith, is.one_each)))) nothing_small
]

-- ---- columns

all_below : (n : ℕ) (xs : List ℕ) → ((p : ℕ) → member p xs ≡ true → nat_lt p n ≡ true) → list_all (λ p. nat_lt p n) xs ≡ true
all_below n [] h = refl
all_below n (x ∷ xs) h = and_from (nat_lt x n) (list_all (λ p. nat_lt p n) xs) (h x (or_left (x == x) (member x xs) (eq-eqb x x refl))) (all_below n xs (λ p m. h p (or_right (x == p) (member p xs) m)))

pub columns_known : (k : Packing) (w : Weights) (s : Stage) (f : Fixing) (t : NodeTask) → IsNodeTask k w s f t → list_all (λ p. nat_lt p k.count) t.columns ≡ true
columns_known k w s f t is = all_below k.count t.columns (λ p m. (and_parts (nat_lt p k.count) (is_free k f p) (sym (is.columns.are p) ∙ m)).0)

and_false : (b : Bool) → (b && false) ≡ false
and_false true = refl
and_false false = refl

taken_not_free : (k : Packing) (f : Fixing) (p : ℕ) → member p f.one ≡ true → is_free k f p ≡ false
taken_not_free k f p h = elim (cases_Bool (is_free k f p)) [
  | inr no_free ↦ no_free
  | inl free ↦
      let rest = and_parts (not (member p f.zero)) _ free in
      let out = and_parts (not (member p f.one)) _ rest.1 in
      absurd (true≢false (sym out.0 ∙ ap not h))
]

pub taken_apart : (k : Packing) (w : Weights) (s : Stage) (f : Fixing) (t : NodeTask) → IsNodeTask k w s f t → (p : ℕ) → member p f.one ≡ true → member p t.columns ≡ false
taken_apart k w s f t is p h = is.columns.are p ∙ ap (λ b. nat_lt p k.count && b) (taken_not_free k f p h) ∙ and_false (nat_lt p k.count)

-- ---- rows

sum_of : (k : Packing) (w : Weights) (s : Stage) (f : Fixing) (t : NodeTask) (x : List ℤ) (den : ℤ) (amounts : List ℤ) → IsPrimal k w s f t x den amounts → (g : ℕ → ℤ)
    → sum_below (λ p. g p *ℤ int_at amounts p) k.count ≡ sum_below (λ j. int_at x j *ℤ g (column_at t.columns j)) t.lp.columns +ℤ (den *ℤ total g f.one)
sum_of k w s f t x den amounts is g =
    amounts_sum t.columns x f.one den k.count amounts is.given is.task.columns.differ (columns_known k w s f t is.task) is.fixing.differ is.fixing.known (taken_apart k w s f t is.task) g
    ∙ ap (λ n. sum_below (λ j. int_at x j *ℤ g (column_at t.columns j)) n +ℤ (den *ℤ total g f.one)) (sym is.task.column_count)

sum_at_row : (k : Packing) (w : Weights) (s : Stage) (f : Fixing) (t : NodeTask) (x : List ℤ) (den : ℤ) (amounts : List ℤ) → IsPrimal k w s f t x den amounts → (i : ℕ) (r : RowName) → i < length t.names → name_at t.names i ≡ r
    → sum_below (λ p. coefficient k w s r p *ℤ int_at amounts p) k.count ≡ row_sum t.lp i x +ℤ (den *ℤ total (coefficient k w s r) f.one)
sum_at_row k w s f t x den amounts is i r l name =
    sum_of k w s f t x den amounts is (coefficient k w s r)
    ∙ ap (λ z. z +ℤ (den *ℤ total (coefficient k w s r) f.one))
    (sum_below-same (λ j. int_at x j *ℤ coefficient k w s r (column_at t.columns j)) (λ j. int_at x j *ℤ cell t.lp i j) t.lp.columns
    (λ j m. ap (λ z. int_at x j *ℤ z) (ap (λ n. coefficient k w s n (column_at t.columns j)) (sym name) ∙ sym (is.task.cells i j l (subst (λ n. j < n) is.task.column_count m)))))

moved_most : (sum row side tot den : ℤ) → sum ≡ row +ℤ (den *ℤ tot) → row ≤ℤ ((side -ℤ tot) *ℤ den) → sum ≤ℤ (side *ℤ den)
moved_most sum row side tot den e h = omega (arith, ints, -ℤ-*ℤ side tot den, *ℤ_comm den tot)

moved_equal : (sum row side tot den : ℤ) → sum ≡ row +ℤ (den *ℤ tot) → row ≡ (side -ℤ tot) *ℤ den → sum ≡ side *ℤ den
moved_equal sum row side tot den e h = omega (arith, ints, -ℤ-*ℤ side tot den, *ℤ_comm den tot)

pub row_kept : (k : Packing) (w : Weights) (s : Stage) (f : Fixing) (t : NodeTask) (x : List ℤ) (den : ℤ) (amounts : List ℤ) → IsPrimal k w s f t x den amounts → (r : RowName) → Stands t.names r
    → Meets (kind_of r) (sum_below (λ p. coefficient k w s r p *ℤ int_at amounts p) k.count) (right_side w s r *ℤ den)
row_kept k w s f t x den amounts is r at =
    let i = at.place in
    let sums = sum_at_row k w s f t x den amounts is i r at.known at.is in
    let side : (row_at t.lp i).side ≡ right_side w s r -ℤ total (coefficient k w s r) f.one = is.task.sides i at.known ∙ ap (side_left k w s f) at.is in
    let met = is.feasible.rows i (subst (λ n. i < n) (sym is.task.row_count) at.known) in
    let same : Meets (kind_of r) (row_sum t.lp i x) ((right_side w s r -ℤ total (coefficient k w s r) f.one) *ℤ den) =
    subst (λ z. Meets (kind_of r) (row_sum t.lp i x) (z *ℤ den)) side (subst (λ a. Meets a (row_sum t.lp i x) ((row_at t.lp i).side *ℤ den)) (is.task.kinds i at.known ∙ ap kind_of at.is) met) in
    go (kind_of r) _ _ _ _ den sums same
  where
    go : (a : RowKind) (sum row side tot den : ℤ) → sum ≡ row +ℤ (den *ℤ tot) → Meets a row ((side -ℤ tot) *ℤ den) → Meets a sum (side *ℤ den)
    go kind.AtMost sum row side tot den e h = moved_most sum row side tot den e h
    go kind.Equal sum row side tot den e h = moved_equal sum row side tot den e h

one_times : (x : ℤ) → pos 1 *ℤ x ≡ x
one_times x = omega (arith, ints)

base_kept : (k : Packing) (w : Weights) (s : Stage) (f : Fixing) (t : NodeTask) (x : List ℤ) (den : ℤ) (amounts : List ℤ) → IsPrimal k w s f t x den amounts → (r : ℕ) → r < k.base_len
    → sum_below (λ p. as_number (k.in_base r p) *ℤ int_at amounts p) k.count ≤ℤ den
base_kept k w s f t x den amounts is r l =
    let h = row_kept k w s f t x den amounts is (Base r) (subst (λ ns. Stands ns (Base r)) (sym is.task.names) (base_stands k w s t.lead t.low r l)) in
    subst (λ z. sum_below (λ p. as_number (k.in_base r p) *ℤ int_at amounts p) k.count ≤ℤ z) (one_times den) h

cut_kept : (k : Packing) (w : Weights) (s : Stage) (f : Fixing) (t : NodeTask) (x : List ℤ) (den : ℤ) (amounts : List ℤ) → IsPrimal k w s f t x den amounts → (c : ℕ) → c < length s.cuts
    → sum_below (λ p. as_number (member p (cut_at s c)) *ℤ int_at amounts p) k.count ≤ℤ den
cut_kept k w s f t x den amounts is c l =
    let h = row_kept k w s f t x den amounts is (Cut c) (subst (λ ns. Stands ns (Cut c)) (sym is.task.names) (cut_stands k w s t.lead t.low c l)) in
    subst (λ z. sum_below (λ p. as_number (member p (cut_at s c)) *ℤ int_at amounts p) k.count ≤ℤ z) (one_times den) h

target_kept : (k : Packing) (w : Weights) (s : Stage) (f : Fixing) (t : NodeTask) (x : List ℤ) (den : ℤ) (amounts : List ℤ) → IsPrimal k w s f t x den amounts → s.level ≤ 7 → (j : ℕ) → 1 ≤ j → j < s.level
    → sum_below (λ p. w.weight j p *ℤ int_at amounts p) k.count ≡ den *ℤ target_of s.targets j
target_kept k w s f t x den amounts is few j low high =
    let other : (j == floor_level) ≡ false = ne_eqb j floor_level (λ e. absurd (omega arith)) in
    let h = row_kept k w s f t x den amounts is (Level j) (subst (λ ns. Stands ns (Level j)) (sym is.task.names) (level_stands k w s t.lead t.low j low high)) in
    let met : sum_below (λ p. level_coefficient w j p *ℤ int_at amounts p) k.count ≡ right_side w s (Level j) *ℤ den =
    subst (λ b. Meets (if b then kind.AtMost else kind.Equal) (sum_below (λ p. level_coefficient w j p *ℤ int_at amounts p) k.count) (right_side w s (Level j) *ℤ den)) other h in
    sum_below-same (λ p. w.weight j p *ℤ int_at amounts p) (λ p. level_coefficient w j p *ℤ int_at amounts p) k.count (λ p l. ap (λ b. (if b then pos 0 -ℤ floor_weight w.floor p else w.weight j p) *ℤ int_at amounts p) (sym other))
    ∙ met ∙ ap (λ b. (if b then pos 0 -ℤ floor_number w.floor else target_of s.targets j) *ℤ den) other ∙ *ℤ_comm (target_of s.targets j) den

sum_negated : (g a : ℕ → ℤ) (n : ℕ) → sum_below (λ p. (pos 0 -ℤ g p) *ℤ a p) n ≡ pos 0 -ℤ sum_below (λ p. g p *ℤ a p) n
sum_negated g a zero = refl
sum_negated g a (suc n) = omega (arith, ints, sum_negated g a n, -ℤ-*ℤ (pos 0) (g n) (a n), zero-*ℤ (a n))

floor_kept : (k : Packing) (w : Weights) (s : Stage) (f : Fixing) (t : NodeTask) (x : List ℤ) (den : ℤ) (amounts : List ℤ) → IsPrimal k w s f t x den amounts → (floor : (ℕ → ℤ) × ℤ) → w.floor ≡ Some floor
    → (den *ℤ floor.1) ≤ℤ sum_below (λ p. floor.0 p *ℤ int_at amounts p) k.count
floor_kept k w s f t x den amounts is floor some =
    let h = row_kept k w s f t x den amounts is (Level floor_level) (subst (λ ns. Stands ns (Level floor_level)) (sym is.task.names) (floor_stands k w s t.lead t.low floor some)) in
    let met : sum_below (λ p. (pos 0 -ℤ floor.0 p) *ℤ int_at amounts p) k.count ≤ℤ ((pos 0 -ℤ floor.1) *ℤ den) =
    subst (λ fl. sum_below (λ p. (pos 0 -ℤ floor_weight fl p) *ℤ int_at amounts p) k.count ≤ℤ ((pos 0 -ℤ floor_number fl) *ℤ den)) some h in
    omega (arith, ints, sum_negated floor.0 (int_at amounts) k.count, -ℤ-*ℤ (pos 0) floor.1 den, zero-*ℤ den, *ℤ_comm floor.1 den)

-- ---- what each pattern has

at_least : (k : Packing) (w : Weights) (s : Stage) (f : Fixing) (t : NodeTask) (x : List ℤ) (den : ℤ) (amounts : List ℤ) → IsPrimal k w s f t x den amounts → (p : ℕ) → pos 0 ≤ℤ int_at amounts p
at_least k w s f t x den amounts is p = elim (cases_Bool (member p f.one)) [
  | inl taken ↦ subst (λ z. pos 0 ≤ℤ z) (sym (is.given.taken p taken)) (let h = is.feasible.positive in omega (arith, ints))
  | inr other ↦ elim (cases_Bool (member p t.columns)) [
    | inl column ↦
        let at = place_of p t.columns column in
        subst (λ z. pos 0 ≤ℤ z) (sym (ap (int_at amounts) (sym at.2) ∙ is.given.of_columns at.0 at.1)) (is.feasible.sign at.0 (subst (λ n. at.0 < n) (sym is.task.column_count) at.1))
    | inr out ↦ subst (λ z. pos 0 ≤ℤ z) (sym (is.given.none p out other)) (omega (arith, ints))
  ]
]

times_own : (b : Bool) (x : ℤ) → b ≡ true → as_number b *ℤ x ≡ x
times_own b x h = ap (λ c. as_number c *ℤ x) h ∙ one_times x

-- each pattern stands in a base row, which gives all its patterns at most the denominator
at_most : (k : Packing) (w : Weights) (s : Stage) (f : Fixing) (t : NodeTask) (x : List ℤ) (den : ℤ) (amounts : List ℤ) → IsPrimal k w s f t x den amounts → (p : ℕ) → p < k.count → int_at amounts p ≤ℤ den
at_most k w s f t x den amounts is p l =
    let row = is.covered p l in
    let sum = base_kept k w s f t x den amounts is row.0 row.1 in
    let part = part-le (λ q. as_number (k.in_base row.0 q) *ℤ int_at amounts q) p k.count l (λ q m. nonneg_product (as_number (k.in_base row.0 q)) (int_at amounts q) (as_number-low (k.in_base row.0 q)) (at_least k w s f t x den amounts is q)) in
    let own = times_own (k.in_base row.0 p) (int_at amounts p) row.2 in
    omega (arith, ints)

pub amounts_small : (k : Packing) (w : Weights) (s : Stage) (f : Fixing) (t : NodeTask) (x : List ℤ) (den : ℤ) (amounts : List ℤ) → IsPrimal k w s f t x den amounts → (p : ℕ) → IsSmall (int_at amounts p)
amounts_small k w s f t x den amounts is p = elim (cases_lt p k.count) [
  | inl known ↦
      let small = den_small t x den is.feasible in
      let most = at_most k w s f t x den amounts is p known in
      record { low = at_least k w s f t x den amounts is p; high = omega (arith, ints, small.high) }
  | inr past ↦ subst IsSmall (sym (get_or_past amounts p (pos 0) (omega (arith, is.given.one_each)))) nothing_small
]

-- ---- the point

member_known : (n p : ℕ) (xs : List ℕ) → list_all (λ q. nat_lt q n) xs ≡ true → member p xs ≡ true → p < n
member_known n p xs h m = let at = place_of p xs m in subst (λ q. q < n) at.2 (below_at n xs at.0 h at.1)

listed_sum : (k : Packing) (amounts : List ℤ) (x : Point) → IsListed (int_at amounts) k.count x.entries → (g : ℕ → ℤ) → sum_at k g x ≡ sum_below (λ p. g p *ℤ int_at amounts p) k.count
listed_sum k amounts x is g = sum_below-same (λ p. g p *ℤ entry_of x.entries p) (λ p. g p *ℤ int_at amounts p) k.count (λ p l. ap (λ z. g p *ℤ z) (is.gives p l))

pub node_point : (k : Packing) (w : Weights) (s : Stage) (f : Fixing) (t : NodeTask) (x : List ℤ) (den : ℤ) (amounts : List ℤ) (entries : List (ℕ × ℤ)) → IsPrimal k w s f t x den amounts → s.level ≤ 7 → IsListed (int_at amounts) k.count entries
    → IsNodePoint k w s f (record { den = den; entries = entries })
node_point k w s f t x den amounts entries is few listed =
    let point : Point = record { den = den; entries = entries } in
    let sums = listed_sum k amounts point listed in
    record {
      point = record {
        positive = is.feasible.positive;
        small = (den_small t x den is.feasible).high;
        rising = listed.rising;
        known = listed.known;
        parts = listed.parts den (λ p l. (at_least k w s f t x den amounts is p, at_most k w s f t x den amounts is p l));
      };
      taken = λ p m. listed.gives p (member_known k.count p f.one is.fixing.known m) ∙ is.given.taken p m;
      none = λ p l out no_free. listed.gives p l ∙ is.given.none p (is.task.columns.are p ∙ ap (λ b. nat_lt p k.count && b) no_free ∙ and_false (nat_lt p k.count)) out;
      base = λ r l. subst (λ z. z ≤ℤ den) (sym (sums (λ p. as_number (k.in_base r p)))) (base_kept k w s f t x den amounts is r l);
      cuts = λ c l. subst (λ z. z ≤ℤ den) (sym (sums (λ p. as_number (member p (cut_at s c))))) (cut_kept k w s f t x den amounts is c l);
      targets = λ j low high. sums (w.weight j) ∙ target_kept k w s f t x den amounts is few j low high;
      floor = go w.floor (λ floor some. subst (λ z. (den *ℤ floor.1) ≤ℤ z) (sym (sums floor.0)) (floor_kept k w s f t x den amounts is floor some));
    }
  where
    go : (floor : Option ((ℕ → ℤ) × ℤ)) → ((fl : (ℕ → ℤ) × ℤ) → floor ≡ Some fl → (den *ℤ fl.1) ≤ℤ sum_at k fl.0 (record { den = den; entries = entries })) → ReachesFloor k floor (record { den = den; entries = entries })
    go None h = tt
    go (Some fl) h = h fl refl

pub point_value : (k : Packing) (w : Weights) (s : Stage) (f : Fixing) (t : NodeTask) (x : List ℤ) (den : ℤ) (amounts : List ℤ) (entries : List (ℕ × ℤ)) → IsPrimal k w s f t x den amounts → IsListed (int_at amounts) k.count entries
    → sum_at k (w.weight s.level) (record { den = den; entries = entries }) ≡ gain_sum t.lp x +ℤ (den *ℤ total (w.weight s.level) f.one)
point_value k w s f t x den amounts entries is listed =
    let g = w.weight s.level in
    listed_sum k amounts (record { den = den; entries = entries }) listed g ∙ sum_of k w s f t x den amounts is g
    ∙ ap (λ z. z +ℤ (den *ℤ total g f.one)) (sum_below-same (λ j. int_at x j *ℤ g (column_at t.columns j)) (λ j. int_at x j *ℤ int_at t.lp.gain j) t.lp.columns
    (λ j l. ap (λ z. int_at x j *ℤ z) (sym (ap (λ gs. int_at gs j) is.task.gain ∙ get_or-map g t.columns j 0 (pos 0) (subst (λ n. j < n) is.task.column_count l)))))
