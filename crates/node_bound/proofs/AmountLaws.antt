-- Sums over what each pattern has are sums over columns, and over what is taken.
use Rattle.std.proofs.Common.{ℕ, ◌≡◌, ◌<◌, arith, refl, sym, ◌∙◌, ap, ap₂, zero, suc, true, false, not, ◌≢◌, ◌||◌, List, [], ◌∷◌, length, get_or, inl, inr, get_or-set_other, ◌+◌, replicate}
use Rattle.std.specs.Prelude.{ℤ, pos, ◌+ℤ◌, ◌*ℤ◌, ◌==◌, nat_lt}
use Rattle.std.specs.List.{list_all}
use Rattle.std.proofs.lemmas.Int.{ints}
use Rattle.std.proofs.lemmas.Bool.{cases_Bool, cases_eq, cases_lt, and_parts, not-true, or_left, or_right, eq-eqb, ne_eqb, ltb-true, true≢false}
use Rattle.std.proofs.Math.IntN.{*ℤ-zero, *ℤ_comm}
use Rattle.std.proofs.Math.ListN.{set}
use mir.Syntax.{w128}
use mir.Val.{to_z, of_z}
use Rattle.std.proofs.lemmas.Grind.{get_or-set_at}
use Rattle.numbers.specs.Sums.{total, member, distinct, value, picked, sum_below, value-member, sum_below-+ℤ, sum_below-same}
use Rattle.numbers.proofs.TotalLaws.{total-*ℤ, total-same}
use Rattle.exact_simplex.specs.Task.{int_at}
use Rattle.node_bound.specs.Tasks.{column_at}
use Rattle.node_bound.specs.Amounts.{AreAmounts, IsSmall}

-- the first number of a sum, and the others
sum_below-first : (f : ℕ → ℤ) (n : ℕ) → sum_below f (suc n) ≡ f 0 +ℤ sum_below (λ i. f (suc i)) n
sum_below-first f zero = omega (arith, ints)
sum_below-first f (suc n) = omega (arith, ints, sum_below-first f n)

pub total_below : (f : ℕ → ℤ) (xs : List ℕ) → total f xs ≡ sum_below (λ i. f (get_or xs i 0)) (length xs)
total_below f [] = refl
total_below f (x ∷ xs) = ap (λ z. f x +ℤ z) (total_below f xs) ∙ sym (sum_below-first (λ i. f (get_or (x ∷ xs) i 0)) (length xs))

-- no pattern is both taken and a column
one_amount : (columns : List ℕ) (x : List ℤ) (one : List ℕ) (den : ℤ) (count : ℕ) (amounts : List ℤ) (g : ℕ → ℤ) (p : ℕ) → AreAmounts columns x one den count amounts → (member p one ≡ true → member p columns ≡ false)
    → g p *ℤ int_at amounts p ≡ picked (member p columns) (g p *ℤ int_at amounts p) +ℤ picked (member p one) (g p *ℤ den)
one_amount columns x one den count amounts g p are apart = elim (cases_Bool (member p one)) [
  | inl taken ↦ rw (taken, apart taken) (ap (λ z. g p *ℤ z) (are.taken p taken) ∙ omega (arith, ints))
  | inr not_taken ↦ elim (cases_Bool (member p columns)) [
    | inl column ↦ rw (not_taken, column) (omega (arith, ints))
    | inr other ↦ rw (not_taken, other) (ap (λ z. g p *ℤ z) (are.none p other not_taken) ∙ *ℤ-zero (g p))
  ]
]

pub amounts_sum : (columns : List ℕ) (x : List ℤ) (one : List ℕ) (den : ℤ) (count : ℕ) (amounts : List ℤ) → AreAmounts columns x one den count amounts
    → distinct columns ≡ true → list_all (λ p. nat_lt p count) columns ≡ true → distinct one ≡ true → list_all (λ p. nat_lt p count) one ≡ true → ((p : ℕ) → member p one ≡ true → member p columns ≡ false)
    → (g : ℕ → ℤ) → sum_below (λ p. g p *ℤ int_at amounts p) count ≡ sum_below (λ j. int_at x j *ℤ g (column_at columns j)) (length columns) +ℤ (den *ℤ total g one)
amounts_sum columns x one den count amounts are d b d1 b1 apart g =
    let f : ℕ → ℤ = λ p. g p *ℤ int_at amounts p in
    let all : ℕ → ℤ = λ p. g p *ℤ den in
    let by_columns : value (λ p. member p columns) f count ≡ sum_below (λ j. int_at x j *ℤ g (column_at columns j)) (length columns) =
    value-member f columns count d b ∙ total_below f columns
    ∙ sum_below-same (λ j. f (column_at columns j)) (λ j. int_at x j *ℤ g (column_at columns j)) (length columns) (λ j l. ap (λ z. g (column_at columns j) *ℤ z) (are.of_columns j l) ∙ *ℤ_comm (g (column_at columns j)) (int_at x j)) in
    let by_taken : value (λ p. member p one) all count ≡ den *ℤ total g one =
    value-member all one count d1 b1 ∙ total-same all (λ p. den *ℤ g p) one (λ p. *ℤ_comm (g p) den) ∙ total-*ℤ den g one in
    sum_below-same f (λ p. picked (member p columns) (f p) +ℤ picked (member p one) (all p)) count (λ p l. one_amount columns x one den count amounts g p are (apart p))
    ∙ sum_below-+ℤ (λ p. picked (member p columns) (f p)) (λ p. picked (member p one) (all p)) count
    ∙ ap₂ (λ a c. a +ℤ c) by_columns by_taken

-- ---- members of a list by place

pub member_at : (xs : List ℕ) (i : ℕ) → i < length xs → member (get_or xs i 0) xs ≡ true
member_at [] i l = absurd (omega arith)
member_at (x ∷ xs) zero l = or_left (x == x) (member x xs) (eq-eqb x x refl)
member_at (x ∷ xs) (suc i) l = or_right (x == get_or xs i 0) (member (get_or xs i 0) xs) (member_at xs i (omega arith))

pub place_of : (p : ℕ) (xs : List ℕ) → member p xs ≡ true → (i : ℕ) × (i < length xs) × (get_or xs i 0 ≡ p)
place_of p [] h = absurd (true≢false (sym h))
place_of p (q ∷ qs) h = elim (cases_eq q p) [
  | inl same ↦ (0, omega arith, same)
  | inr other ↦
      let rest = place_of p qs (sym (ap (λ b. b || member p qs) (ne_eqb q p other)) ∙ h) in
      (suc rest.0, omega (arith, rest.1), rest.2)
]

pub other_at : (xs : List ℕ) (i p : ℕ) → i < length xs → member p xs ≡ false → p ≢ get_or xs i 0
other_at xs i p l h same = true≢false (sym (member_at xs i l) ∙ ap (λ q. member q xs) (sym same) ∙ h)

pub differ_at : (xs : List ℕ) (i j : ℕ) → distinct xs ≡ true → i < j → j < length xs → get_or xs i 0 ≢ get_or xs j 0
differ_at [] i j d l m same = absurd (omega arith)
differ_at (x ∷ xs) i zero d l m same = absurd (omega arith)
differ_at (x ∷ xs) zero (suc j) d l m same =
    let parts = and_parts (not (member x xs)) (distinct xs) d in
    other_at xs j x (omega arith) (not-true (member x xs) parts.0) same
differ_at (x ∷ xs) (suc i) (suc j) d l m same = differ_at xs i j (and_parts (not (member x xs)) (distinct xs) d).1 (omega arith) (omega arith) same

pub below_at : (n : ℕ) (xs : List ℕ) (i : ℕ) → list_all (λ p. nat_lt p n) xs ≡ true → i < length xs → get_or xs i 0 < n
below_at n [] i h l = absurd (omega arith)
below_at n (x ∷ xs) zero h l = ltb-true x n (and_parts (nat_lt x n) (list_all (λ p. nat_lt p n) xs) h).0
below_at n (x ∷ xs) (suc i) h l = below_at n xs i (and_parts (nat_lt x n) (list_all (λ p. nat_lt p n) xs) h).1 (omega arith)

-- ---- amounts that are written

pub written : (zs : List ℤ) (i : ℕ) (z : ℤ) → i < length zs → int_at (set zs i z) i ≡ z
written zs i z l = get_or-set_at zs i i z (pos 0) refl l

pub kept : (zs : List ℤ) (i p : ℕ) (z : ℤ) → p ≢ i → int_at (set zs i z) p ≡ int_at zs p
kept zs i p z ne = get_or-set_other zs i p z (pos 0) ne

pub small_plain : (z : ℤ) → IsSmall z → to_z w128 (of_z w128 z) ≡ z
small_plain z h = omega (arith, ints, h.low, h.high)

pub given_more : (columns : List ℕ) (x zs : List ℤ) (n : ℕ) (v : ℤ) → distinct columns ≡ true → n < length columns → column_at columns n < length zs → v ≡ int_at x n
    → ((j : ℕ) → j < n → int_at zs (column_at columns j) ≡ int_at x j) → (j : ℕ) → j < n + 1 → int_at (set zs (column_at columns n) v) (column_at columns j) ≡ int_at x j
given_more columns x zs n v d l m e before j k = elim (cases_lt j n) [
  | inl below ↦ kept zs (column_at columns n) (column_at columns j) v (differ_at columns j n d below l) ∙ before j below
  | inr more ↦
      let same : j ≡ n = omega arith in
      ap (λ q. int_at (set zs (column_at columns n) v) (column_at columns q)) same ∙ written zs (column_at columns n) v m ∙ e ∙ ap (int_at x) (sym same)
]

pub taken_more : (one : List ℕ) (zs : List ℤ) (n : ℕ) (den v : ℤ) → column_at one n < length zs → v ≡ den
    → ((j : ℕ) → j < n → int_at zs (column_at one j) ≡ den) → (j : ℕ) → j < n + 1 → int_at (set zs (column_at one n) v) (column_at one j) ≡ den
taken_more one zs n den v m e before j k = elim (cases_eq (column_at one j) (column_at one n)) [
  | inl same ↦ ap (int_at (set zs (column_at one n) v)) same ∙ written zs (column_at one n) v m ∙ e
  | inr other ↦ kept zs (column_at one n) (column_at one j) v other ∙ before j (let ne : j ≢ n = λ same. other (ap (column_at one) same) in omega arith)
]

pub no_amounts : (n p : ℕ) → int_at (replicate n (pos 0)) p ≡ pos 0
no_amounts zero p = refl
no_amounts (suc n) zero = refl
no_amounts (suc n) (suc p) = no_amounts n p

not_taken : (columns one : List ℕ) (j : ℕ) → ((p : ℕ) → member p one ≡ true → member p columns ≡ false) → j < length columns → member (column_at columns j) one ≡ false
not_taken columns one j apart l = elim (cases_Bool (member (column_at columns j) one)) [
  | inl taken ↦ absurd (true≢false (sym (member_at columns j l) ∙ apart (column_at columns j) taken))
  | inr free ↦ free
]

-- first the columns are given, then what is taken
pub given_both : (columns one : List ℕ) (x : List ℤ) (den : ℤ) (count : ℕ) (before between after : List ℤ) → ((p : ℕ) → member p one ≡ true → member p columns ≡ false) → ((p : ℕ) → int_at before p ≡ pos 0) → length after ≡ count
    → ((j : ℕ) → j < length columns → int_at between (column_at columns j) ≡ int_at x j) → ((p : ℕ) → member p columns ≡ false → int_at between p ≡ int_at before p)
    → ((p : ℕ) → member p one ≡ true → int_at after p ≡ den) → ((p : ℕ) → member p one ≡ false → int_at after p ≡ int_at between p) → AreAmounts columns x one den count after
given_both columns one x den count before between after apart nothing long given same given2 same2 = record {
  one_each = long;
  of_columns = λ j l. same2 (column_at columns j) (not_taken columns one j apart l) ∙ given j l;
  taken = given2;
  none = λ p c t. same2 p t ∙ same p c ∙ nothing p;
}
