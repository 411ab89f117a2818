-- A leaf made of multipliers closes, and it lies inside the bounds of certificates.
use Rattle.std.proofs.Common.{ℕ, ◌≡◌, ◌<◌, ◌≤◌, ◌+◌, ◌*◌, ◌^◌, arith, refl, sym, ◌∙◌, ap, subst, zero, suc, Bool, true, false, ◌||◌, List, [], ◌∷◌, ◌++◌, length, map, take, drop, inl, inr}
use Rattle.std.specs.Prelude.{ℤ, pos, negsuc, ◌+ℤ◌, ◌*ℤ◌, ◌≤ℤ◌, ◌<ℤ◌, int_le, int_lt, ◌==◌, nat_lt, if◌then◌else◌, unsigned_abs, Option, Some, None}
use Rattle.std.specs.Int.{◌∣◌}
use Rattle.std.specs.List.{list_all, list_any}
use Rattle.std.specs.Ordering.{int_eq}
use Rattle.std.proofs.lemmas.Int.{ints, unsigned_abs-mul}
use Rattle.std.proofs.lemmas.Bool.{and_parts, and_from, cases_eq, cases_Bool, ltb-true, lt-ltb, le-leb, ne_eqb, true≢false}
use Rattle.std.proofs.Math.IntN.{*ℤ_comm, zero-*ℤ, *ℤ-zero}
use Rattle.std.proofs.Math.Nat.{eq-zero_of_zero-dvd}
use Rattle.numbers.specs.Algebra.{*ℤ-+ℤ, *ℤ_assoc, *ℤ-<ℤ, *ℤ-≤ℤ}
use Rattle.numbers.specs.Sums.{sum_below, sum_below-same, sum_below-zero, sum_below-*ℤ, total, member}
use Rattle.exact_num.specs.Work.{below}
use Rattle.exact_simplex.specs.Task.{AreSmall, IsMultiplier, ShowsEmpty, int_at, row_at, cell, column_sum, side_sum}
use Rattle.exact_simplex.specs.declared.task.Lp.{Lp}
use Rattle.exact_simplex.specs.declared.task.RowKind.{RowKind}
use Rattle.exact_simplex.specs.declared.task.RowKind.TheVariants as kind
use Rattle.duality.specs.declared.row.RowName.{RowName}
use Rattle.duality.specs.declared.row.RowName.TheVariants.{Base, Cut, Level}
use Rattle.duality.specs.declared.row.Term.{Term}
use Rattle.duality.specs.declared.leaf.Leaf.{Leaf}
use Rattle.duality.specs.Packing.{Packing, Weights, Stage, Fixing, coefficient, is_free, is_there, has_sign, floor_level}
use Rattle.duality.specs.Leaf.{term_fits, is_under, left_side}
use Rattle.duality.specs.Sums.{rises, are_small, is_small}
use Rattle.duality.specs.Tree.{ends_at}
use Rattle.duality.proofs.PricedLaws.{all_at}
use Rattle.node_bound.specs.declared.task.NodeTask.{NodeTask}
use Rattle.node_bound.specs.Duals.{side_left, IsDual, SameTimes, IsShort}
use Rattle.node_bound.specs.Tasks.{IsNodeTask, name_at, column_at, kind_of}
use Rattle.node_bound.specs.Terms.{terms_of, Divides, IsGreatest, AreParts}
use Rattle.search_nodes.specs.Leaves.{IsFineLeaf}
use Rattle.node_bound.specs.Answers.{IsCover, LeavesRoom}
use Rattle.node_bound.specs.Multipliers.{others_of, IsLeafOf, AreMultipliers}
use Rattle.node_bound.proofs.DualLaws.{dual_closes, left_is}
use Rattle.node_bound.proofs.TermLaws.{terms_sum, leaf_sum, leaf_all, leaf_is, terms_all, terms_some, terms_rise}
use Rattle.node_bound.proofs.OrderLaws.{names_there, leaf_names_up}

-- ---- numbers without their divisor

pub cancel_≤ : (d a b : ℤ) → pos 0 <ℤ d → (a *ℤ d) ≤ℤ (b *ℤ d) → a ≤ℤ b
cancel_≤ d a b some h = elim (cases_Bool (int_lt b a)) [
  | inl less ↦
      let l : b <ℤ a = grind (arith, ints) in
      let m : (b *ℤ d) <ℤ (a *ℤ d) = *ℤ-<ℤ b a d l some in
      absurd (omega (arith, ints))
  | inr other ↦ grind (arith, ints)
]

pub cancel_< : (d a b : ℤ) → pos 0 <ℤ d → (a *ℤ d) <ℤ (b *ℤ d) → a <ℤ b
cancel_< d a b some h = elim (cases_Bool (int_lt a b)) [
  | inl less ↦ grind (arith, ints)
  | inr other ↦
      let l : b ≤ℤ a = grind (arith, ints) in
      let m : (d *ℤ b) ≤ℤ (d *ℤ a) = *ℤ-≤ℤ d b a (omega (arith, ints)) l in
      absurd (omega (arith, ints, *ℤ_comm d b, *ℤ_comm d a))
]

lt_is : (a b : ℤ) → int_lt a b ≡ true → a <ℤ b
lt_is a b h = grind (arith, ints)

lt_not : (a b : ℤ) → int_lt a b ≡ false → b ≤ℤ a
lt_not a b h = grind (arith, ints)

le_is : (a b : ℤ) → int_le a b ≡ true → a ≤ℤ b
le_is a b h = grind (arith, ints)

-- a sum over the numbers is the divisor times that over the parts
pub parts_sum : (divisor : ℤ) (parts numbers : List ℤ) (c : ℕ → ℤ) (n : ℕ) → AreParts divisor parts numbers → n ≤ length numbers → sum_below (λ i. int_at numbers i *ℤ c i) n ≡ sum_below (λ i. int_at parts i *ℤ c i) n *ℤ divisor
parts_sum divisor parts numbers c n are few =
    let turned : (i : ℕ) → i < n → int_at numbers i *ℤ c i ≡ divisor *ℤ (int_at parts i *ℤ c i) = λ i l.
    ap (λ z. z *ℤ c i) (sym (are.each i (omega arith)) ∙ *ℤ_comm (int_at parts i) divisor) ∙ *ℤ_assoc divisor (int_at parts i) (c i) in
    sum_below-same (λ i. int_at numbers i *ℤ c i) (λ i. divisor *ℤ (int_at parts i *ℤ c i)) n turned
    ∙ sum_below-*ℤ divisor (λ i. int_at parts i *ℤ c i) n
    ∙ *ℤ_comm divisor (sum_below (λ i. int_at parts i *ℤ c i) n)

-- ---- columns

pub column_of : (columns : List ℕ) (p : ℕ) → member p columns ≡ true → (j : ℕ) × (j < length columns) × (column_at columns j ≡ p)
column_of [] p h = absurd (true≢false (sym h))
column_of (q ∷ qs) p h = elim (cases_eq q p) [
  | inl same ↦ (0, omega arith, same)
  | inr ne ↦
      let later = column_of qs p (sym (ap (λ b. b || member p qs) (ne_eqb q p ne)) ∙ h) in
      (suc later.0, omega (arith, later.1), later.2)
]

-- ---- signs

level_sign : (b : Bool) (y : ℤ) → IsMultiplier (if b then kind.AtMost else kind.Equal) y → (if b then int_le (pos 0) y else true) ≡ true
level_sign true y h = grind (arith, ints)
level_sign false y h = refl

pub sign_of : (name : RowName) (y : ℤ) → IsMultiplier (kind_of name) y → has_sign name y ≡ true
sign_of (Base r) y h = grind (arith, ints)
sign_of (Cut c) y h = grind (arith, ints)
sign_of (Level j) y h = level_sign (j == floor_level) y h

pub sign_part : (kd : RowKind) (d a b : ℤ) → pos 0 <ℤ d → a *ℤ d ≡ b → IsMultiplier kd b → IsMultiplier kd a
sign_part kind.AtMost d a b some e h = cancel_≤ d (pos 0) a some (omega (arith, ints, zero-*ℤ d, e, h))
sign_part kind.Equal d a b some e h = tt

size_positive : (d : ℤ) → pos 0 <ℤ d → 0 < unsigned_abs d
size_positive (pos n) h = omega (arith, ints)
size_positive (negsuc n) h = absurd (omega (arith, ints))

mul_less : (m n : ℕ) → 0 < n → m ≤ m * n
mul_less m n h = grind arith

pub small_part : (d a b : ℤ) (n : ℕ) → pos 0 <ℤ d → a *ℤ d ≡ b → below (n + 1) b ≡ true → is_small n a ≡ true
small_part d a b n some e h =
    let size : unsigned_abs a * unsigned_abs d ≡ unsigned_abs b = sym (unsigned_abs-mul a d) ∙ ap unsigned_abs e in
    let l : unsigned_abs b < n + 1 = ltb-true (unsigned_abs b) (n + 1) h in
    let one : 0 < unsigned_abs d = size_positive d some in
    let m : unsigned_abs a ≤ unsigned_abs a * unsigned_abs d = mul_less (unsigned_abs a) (unsigned_abs d) one in
    le-leb (unsigned_abs a) n (omega (arith, size, l, m))

short_none : (best : Option ℤ) (scale worth taken : ℤ) → scale ≡ pos 0 → worth <ℤ pos 0 → IsShort best scale worth taken
short_none (Some v) scale worth taken none low = omega (arith, ints, ap (λ z. z *ℤ taken) none, zero-*ℤ taken, ap (λ z. z *ℤ (v +ℤ pos 1)) none, zero-*ℤ (v +ℤ pos 1), low)
short_none None scale worth taken none low = (none, low)

short_under : (best : Option ℤ) (scale left worth taken : ℤ) → left ≡ worth +ℤ (scale *ℤ taken) → pos 0 <ℤ scale → is_under best scale left ≡ true → IsShort best scale worth taken
short_under (Some v) scale left worth taken e some under =
    let l : left <ℤ (scale *ℤ (v +ℤ pos 1)) = lt_is left (scale *ℤ (v +ℤ pos 1)) under in
    omega (arith, ints)
short_under None scale left worth taken e some under =
    let l : scale ≤ℤ pos 0 = le_is scale (pos 0) (and_parts (int_le scale (pos 0)) (int_lt left (pos 0)) under).0 in
    absurd (omega (arith, ints))

room_times : (best : Option ℤ) (d part scale left worth whole taken : ℤ) → pos 0 <ℤ d → part *ℤ d ≡ scale → whole ≡ worth *ℤ d → left ≡ worth +ℤ (part *ℤ taken) → is_under best part left ≡ false → LeavesRoom best scale whole taken
room_times None d part scale left worth whole taken some is side e over = tt
room_times (Some v) d part scale left worth whole taken some is side e over =
    let l : (part *ℤ (v +ℤ pos 1)) ≤ℤ left = lt_not left (part *ℤ (v +ℤ pos 1)) over in
    let m : (d *ℤ (part *ℤ (v +ℤ pos 1))) ≤ℤ (d *ℤ left) = *ℤ-≤ℤ d (part *ℤ (v +ℤ pos 1)) left (omega (arith, ints)) l in
    let asked : d *ℤ (part *ℤ (v +ℤ pos 1)) ≡ scale *ℤ (v +ℤ pos 1) = sym (*ℤ_assoc d part (v +ℤ pos 1)) ∙ ap (λ z. z *ℤ (v +ℤ pos 1)) (*ℤ_comm d part ∙ is) in
    let one : d *ℤ (part *ℤ taken) ≡ scale *ℤ taken = sym (*ℤ_assoc d part taken) ∙ ap (λ z. z *ℤ taken) (*ℤ_comm d part ∙ is) in
    let both : d *ℤ left ≡ (d *ℤ worth) +ℤ (d *ℤ (part *ℤ taken)) = ap (λ z. d *ℤ z) e ∙ *ℤ-+ℤ d worth (part *ℤ taken) in
    omega (arith, ints, m, asked, one, both, side, *ℤ_comm d worth)

-- ---- multipliers that are not all 0

size_zero : (z : ℤ) → unsigned_abs z ≡ 0 → z ≡ pos 0
size_zero (pos n) e = ap pos e
size_zero (negsuc n) e = absurd (omega arith)

by_zero : (z : ℤ) → 0 ∣ unsigned_abs z → z ≡ pos 0
by_zero z h = size_zero z (eq-zero_of_zero-dvd h)

pub empty_some : (lp : Lp) (y : List ℤ) → ShowsEmpty lp y → Divides 0 (pos 0) y (length y) → ⊥
empty_some lp y shown h =
    let none : side_sum lp y ≡ pos 0 = sum_below-zero (λ i. int_at y i *ℤ (row_at lp i).side) (length lp.rows)
    (λ i l. ap (λ z. z *ℤ (row_at lp i).side) (by_zero (int_at y i) (h.each i (omega (arith, shown.one_each, l)))) ∙ zero-*ℤ (row_at lp i).side) in
    absurd (omega (arith, ints, none, shown.negative))

pub cover_some : (yden : ℤ) (y : List ℤ) (n : ℕ) → pos 0 <ℤ yden → Divides 0 yden y n → ⊥
cover_some yden y n some h = let none : yden ≡ pos 0 = by_zero yden h.of_scale in absurd (omega (arith, ints))

pub divisor_positive : (d scale : ℤ) (numbers : List ℤ) (n : ℕ) → IsGreatest (unsigned_abs d) scale numbers n → (Divides 0 scale numbers n → ⊥) → pos 0 ≤ℤ d → pos 0 <ℤ d
divisor_positive d scale numbers n greatest some low = elim (cases_Bool (int_lt (pos 0) d)) [
  | inl more ↦ lt_is (pos 0) d more
  | inr other ↦
      let none : d ≡ pos 0 = omega (arith, ints, low, lt_not (pos 0) d other) in
      absurd (some (subst (λ z. Divides (unsigned_abs z) scale numbers n) none greatest.divides))
]

pub empty_multiply : (lp : Lp) (y : List ℤ) → ShowsEmpty lp y → AreMultipliers lp (pos 0) y
empty_multiply lp y shown = record {
  one_each = shown.one_each;
  not_negative = omega (arith, ints);
  sign = shown.sign;
  covers = λ j l. omega (arith, ints, *ℤ-zero (int_at lp.gain j), shown.columns j l);
}

pub cover_multiply : (lp : Lp) (y : List ℤ) (yden : ℤ) → IsCover lp y yden → AreMultipliers lp yden y
cover_multiply lp y yden cover = record {
  one_each = cover.one_each;
  not_negative = omega (arith, ints, cover.positive);
  sign = cover.sign;
  covers = cover.covers;
}

pub all_there : (k : Packing) (w : Weights) (s : Stage) (ts : List Term) → list_all (term_fits k w s) ts ≡ true → list_all (λ t. is_there k w s t.row) ts ≡ true
all_there k w s [] h = refl
all_there k w s (t ∷ ts) h =
    let parts = and_parts (term_fits k w s t) (list_all (term_fits k w s) ts) h in
    let here = and_parts (is_there k w s t.row) (has_sign t.row t.times) parts.0 in
    and_from (is_there k w s t.row) (list_all (λ t. is_there k w s t.row) ts) here.0 (all_there k w s ts parts.1)

gain_at : (g : ℕ → ℤ) (columns : List ℕ) (j : ℕ) → j < length columns → int_at (map g columns) j ≡ g (column_at columns j)
gain_at g [] j l = absurd (omega arith)
gain_at g (p ∷ ps) zero l = refl
gain_at g (p ∷ ps) (suc j) l = gain_at g ps j (omega arith)

-- ---- multipliers of a node's rows

module _ (k : Packing) (w : Weights) (s : Stage) (f : Fixing) (t : NodeTask) (node : IsNodeTask k w s f t) (few : s.level ≤ 7) where
  name_there : (i : ℕ) → i < length t.names → is_there k w s (name_at t.names i) ≡ true
  name_there i l = all_at (is_there k w s) t.names i (Base 0) (ap (list_all (is_there k w s)) node.names ∙ names_there k w s t.lead t.low few node.lead node.low) l

  fits_all : (ys : List ℤ) → length ys ≡ length t.names → ((i : ℕ) → i < length t.lp.rows → IsMultiplier (row_at t.lp i).kind (int_at ys i)) → list_all (term_fits k w s) (terms_of t.names ys) ≡ true
  fits_all ys e sign = terms_all (term_fits k w s) t.names ys e (λ i l.
      and_from (is_there k w s (name_at t.names i)) (has_sign (name_at t.names i) (int_at ys i)) (name_there i l)
      (sign_of (name_at t.names i) (int_at ys i) (subst (λ z. IsMultiplier z (int_at ys i)) (node.kinds i l) (sign i (omega (arith, node.row_count))))))

  column_is : (ys : List ℤ) → length ys ≡ length t.names → (j : ℕ) → j < length t.columns → column_sum t.lp j ys ≡ total (λ u. u.times *ℤ coefficient k w s u.row (column_at t.columns j)) (terms_of t.names ys)
  column_is ys e j l =
      let g : RowName → ℤ = λ r. coefficient k w s r (column_at t.columns j) in
      ap (sum_below (λ i. int_at ys i *ℤ cell t.lp i j)) node.row_count
      ∙ sum_below-same (λ i. int_at ys i *ℤ cell t.lp i j) (λ i. int_at ys i *ℤ g (name_at t.names i)) (length t.names) (λ i m. ap (λ z. int_at ys i *ℤ z) (node.cells i j m l))
      ∙ sym (terms_sum g t.names ys e)

  worth_is : (ys : List ℤ) → length ys ≡ length t.names → total (λ u. u.times *ℤ side_left k w s f u.row) (terms_of t.names ys) ≡ side_sum t.lp ys
  worth_is ys e =
      let g : RowName → ℤ = side_left k w s f in
      terms_sum g t.names ys e
      ∙ sum_below-same (λ i. int_at ys i *ℤ g (name_at t.names i)) (λ i. int_at ys i *ℤ (row_at t.lp i).side) (length t.names) (λ i m. ap (λ z. int_at ys i *ℤ z) (sym (node.sides i m)))
      ∙ ap (sum_below (λ i. int_at ys i *ℤ (row_at t.lp i).side)) (sym node.row_count)

  dual_is : (scale : ℤ) (ys : List ℤ) → AreMultipliers t.lp scale ys → IsDual k w s f scale (terms_of t.names ys) (side_sum t.lp ys)
  dual_is scale ys are =
      let e : length ys ≡ length t.names = are.one_each ∙ node.row_count in
      record {
        not_negative = are.not_negative;
        fits = fits_all ys e are.sign;
        covers = λ p l free.
            let found = column_of t.columns p (node.columns.are p ∙ and_from (nat_lt p k.count) (is_free k f p) (lt-ltb p k.count l) free) in
            let j = found.0 in
            let gain : int_at t.lp.gain j ≡ w.weight s.level p = ap (λ g. int_at g j) node.gain ∙ gain_at (w.weight s.level) t.columns j found.1 ∙ ap (w.weight s.level) found.2 in
            let column : column_sum t.lp j ys ≡ total (λ u. u.times *ℤ coefficient k w s u.row p) (terms_of t.names ys) =
            column_is ys e j found.1 ∙ ap (λ q. total (λ (u : Term). u.times *ℤ coefficient k w s u.row q) (terms_of t.names ys)) found.2 in
            let cover : (int_at t.lp.gain j *ℤ scale) ≤ℤ column_sum t.lp j ys = are.covers j (omega (arith, found.1, node.column_count)) in
            omega (arith, ints, cover, column, *ℤ_comm scale (w.weight s.level p), ap (λ z. z *ℤ scale) gain);
        worth_is = worth_is ys e;
      }

  -- ---- divided by what they have in common

  module _ (scale : ℤ) (ys : List ℤ) (leaf : Leaf) (are : AreMultipliers t.lp scale ys) (is : IsLeafOf k s t scale ys leaf) where
    parts_length : length is.parts ≡ length t.names
    parts_length = is.parts_are.one_each ∙ are.one_each ∙ node.row_count

    pub parts_side : side_sum t.lp ys ≡ side_sum t.lp is.parts *ℤ is.divisor
    parts_side = parts_sum is.divisor is.parts ys (λ i. (row_at t.lp i).side) (length t.lp.rows) is.parts_are (omega (arith, are.one_each))

    pub scale_low : pos 0 ≤ℤ leaf.scale
    scale_low = cancel_≤ is.divisor (pos 0) leaf.scale is.positive (omega (arith, ints, zero-*ℤ is.divisor, is.scale_is, are.not_negative))

    parts_multiply : AreMultipliers t.lp leaf.scale is.parts
    parts_multiply = record {
      one_each = is.parts_are.one_each ∙ are.one_each;
      not_negative = scale_low;
      sign = λ i l. sign_part (row_at t.lp i).kind is.divisor (int_at is.parts i) (int_at ys i) is.positive (is.parts_are.each i (omega (arith, are.one_each, l))) (are.sign i l);
      covers = λ j l.
          let column : column_sum t.lp j ys ≡ column_sum t.lp j is.parts *ℤ is.divisor = parts_sum is.divisor is.parts ys (λ i. cell t.lp i j) (length t.lp.rows) is.parts_are (omega (arith, are.one_each)) in
          let gain : (int_at t.lp.gain j *ℤ leaf.scale) *ℤ is.divisor ≡ int_at t.lp.gain j *ℤ scale = *ℤ_assoc (int_at t.lp.gain j) leaf.scale is.divisor ∙ ap (λ z. int_at t.lp.gain j *ℤ z) is.scale_is in
          cancel_≤ is.divisor (int_at t.lp.gain j *ℤ leaf.scale) (column_sum t.lp j is.parts) is.positive (omega (arith, ints, column, gain, are.covers j l));
    }

    leaf_dual : IsDual k w s f leaf.scale (terms_of t.names is.parts) (side_sum t.lp is.parts)
    leaf_dual = dual_is leaf.scale is.parts parts_multiply

    leaf_same : SameTimes leaf.terms (terms_of t.names is.parts)
    leaf_same = record {
      same = λ g. ap (total (λ (u : Term). u.times *ℤ g u.row)) is.terms_are ∙ leaf_sum t.lead t.low (others_of k s t.lead) t.names is.parts (λ u. u.times *ℤ g u.row);
    }

    pub leaf_fits : list_all (term_fits k w s) leaf.terms ≡ true
    leaf_fits = ap (list_all (term_fits k w s)) is.terms_are ∙ leaf_all t.lead t.low (others_of k s t.lead) t.names is.parts (term_fits k w s) leaf_dual.fits

    pub leaf_fine : AreSmall (scale ∷ ys) → IsFineLeaf leaf
    leaf_fine small =
        let split = and_parts (below (10 ^ 24 + 1) scale) (list_all (below (10 ^ 24 + 1)) ys) small in
        let each : list_all (λ (u : Term). is_small (10 ^ 24) u.times) (terms_of t.names is.parts) ≡ true = terms_all (λ u. is_small (10 ^ 24) u.times) t.names is.parts parts_length (λ i l.
        let m : i < length ys = omega (arith, are.one_each, node.row_count, l) in
        small_part is.divisor (int_at is.parts i) (int_at ys i) (10 ^ 24) is.positive (is.parts_are.each i m) (all_at (below (10 ^ 24 + 1)) ys i (pos 0) split.1 m)) in
        let others = others_of k s t.lead in
        let order = take t.lead t.names ++ take others (drop t.low (drop t.lead t.names)) ++ take t.low (drop t.lead t.names) ++ drop others (drop t.low (drop t.lead t.names)) in
        let times = take t.lead is.parts ++ take others (drop t.low (drop t.lead is.parts)) ++ take t.low (drop t.lead is.parts) ++ drop others (drop t.low (drop t.lead is.parts)) in
        let joined : leaf.terms ≡ terms_of order times = is.terms_are ∙ leaf_is t.lead t.low (others_of k s t.lead) t.names is.parts parts_length in
        record {
          small_scale = small_part is.divisor leaf.scale scale (10 ^ 24) is.positive is.scale_is split.0;
          rising = ap rises joined ∙ terms_rise order times (leaf_names_up k w s t.lead t.low few node.lead node.low t.names node.names);
          small = ap are_small is.terms_are ∙ leaf_all t.lead t.low (others_of k s t.lead) t.names is.parts (λ u. is_small (10 ^ 24) u.times) each;
          no_zero = ap (list_any (λ (u : Term). int_eq u.times (pos 0))) joined ∙ terms_some order times;
        }

    pub left_parts : left_side k w s f leaf ≡ side_sum t.lp is.parts +ℤ (leaf.scale *ℤ total (w.weight s.level) f.one)
    left_parts = left_is k w s f leaf (terms_of t.names is.parts) (side_sum t.lp is.parts) leaf_dual leaf_same

    short_closes : IsShort s.best leaf.scale (side_sum t.lp is.parts) (total (w.weight s.level) f.one) → ends_at k w s f leaf ≡ true
    short_closes short = dual_closes k w s f leaf (terms_of t.names is.parts) (side_sum t.lp is.parts) leaf_dual leaf_same leaf_fits short

    -- multipliers that show that there is no point
    pub empty_closes : scale ≡ pos 0 → side_sum t.lp ys <ℤ pos 0 → ends_at k w s f leaf ≡ true
    empty_closes none short =
        let most : leaf.scale ≤ℤ pos 0 = cancel_≤ is.divisor leaf.scale (pos 0) is.positive (omega (arith, ints, zero-*ℤ is.divisor, is.scale_is, none)) in
        let low : side_sum t.lp is.parts <ℤ pos 0 = cancel_< is.divisor (side_sum t.lp is.parts) (pos 0) is.positive (omega (arith, ints, zero-*ℤ is.divisor, parts_side, short)) in
        short_closes (short_none s.best leaf.scale (side_sum t.lp is.parts) (total (w.weight s.level) f.one) (omega (arith, ints, most, scale_low)) low)

    scale_positive : pos 0 <ℤ scale → pos 0 <ℤ leaf.scale
    scale_positive some = cancel_< is.divisor (pos 0) leaf.scale is.positive (omega (arith, ints, zero-*ℤ is.divisor, is.scale_is, some))

    -- multipliers that cover the gain
    pub under_closes : pos 0 <ℤ scale → is_under s.best leaf.scale (left_side k w s f leaf) ≡ true → ends_at k w s f leaf ≡ true
    under_closes some under = short_closes (short_under s.best leaf.scale (left_side k w s f leaf) (side_sum t.lp is.parts) (total (w.weight s.level) f.one) left_parts (scale_positive some) under)

    pub room_left : is_under s.best leaf.scale (left_side k w s f leaf) ≡ false → LeavesRoom s.best scale (side_sum t.lp ys) (total (w.weight s.level) f.one)
    room_left over = room_times s.best is.divisor leaf.scale scale (left_side k w s f leaf) (side_sum t.lp is.parts) (side_sum t.lp ys) (total (w.weight s.level) f.one) is.positive is.scale_is parts_side left_parts over
