-- The pattern of a point to branch on is free.
use Rattle.std.proofs.Common.{ℕ, ◌≡◌, arith, sym, ◌∙◌, ap, true, false, not, ◌||◌, List, [], ◌∷◌, map, inl, inr}
use Rattle.std.specs.Prelude.{ℤ, pos, ◌==◌, nat_lt, int_lt, if◌then◌else◌, Some, None}
use Rattle.std.specs.List.{list_all, list_any}
use Rattle.std.specs.Ordering.{int_eq}
use Rattle.std.proofs.lemmas.Bool.{and_parts, and_from, cases_Bool, eqb-true, eq-eqb, ltb-true, or_right, not-true, true≢false}
use Rattle.numbers.specs.Sums.{member, distinct}
use Rattle.duality.specs.Packing.{Packing, Weights, Stage, Fixing, is_free}
use Rattle.duality.specs.Tree.{can_branch}
use Rattle.packing_model.specs.declared.point.Point.{Point}
use Rattle.packing_model.proofs.ListLemmas.{rising_distinct}
use Rattle.search_nodes.specs.Points.{entry_of, is_part, IsGapPoint}
use Rattle.branch_tree.specs.Fractions.{lowest_fractional}

numbers : List (ℕ × ℤ) → List ℕ
numbers es = map (λ (e : ℕ × ℤ). e.0) es

-- an entry that is neither 0 nor the denominator
record IsEntry (count : ℕ) (den : ℤ) (es : List (ℕ × ℤ)) (q : ℕ) : Type 0 where
  pub known : nat_lt q count ≡ true
  pub listed : member q (numbers es) ≡ true
  pub positive : int_lt (pos 0) (entry_of es q) ≡ true
  pub other : int_eq (entry_of es q) den ≡ false

found : (count : ℕ) (den : ℤ) (es : List (ℕ × ℤ)) (q : ℕ) → distinct (numbers es) ≡ true → list_all (λ (e : ℕ × ℤ). nat_lt e.0 count) es ≡ true → list_all (is_part den) es ≡ true
    → lowest_fractional den es ≡ Some q → IsEntry count den es q
unfolding numbers
found count den [] q d k p e = absurd (cc)
found count den (x ∷ es) q d k p e =
    let apart = and_parts (not (member x.0 (numbers es))) (distinct (numbers es)) d in
    let known = and_parts (nat_lt x.0 count) (list_all (λ (e : ℕ × ℤ). nat_lt e.0 count) es) k in
    let part = and_parts (is_part den x) (list_all (is_part den) es) p in
    elim (cases_Bool (int_eq x.1 den)) [
      | inl same ↦
          let rest = found count den es q apart.1 known.1 part.1 (sym (ap (λ b. if b then lowest_fractional den es else Some x.0) same) ∙ e) in
          let differ : (x.0 == q) ≡ false = elim (cases_Bool (x.0 == q)) [
            | inl here ↦ absurd (true≢false (sym rest.listed ∙ ap (λ r. member r (numbers es)) (sym (eqb-true x.0 q here)) ∙ not-true (member x.0 (numbers es)) apart.0))
            | inr other ↦ other
          ] in
          let entry : entry_of (x ∷ es) q ≡ entry_of es q = ap (λ b. if b then x.1 else entry_of es q) differ in
          record {
            known = rest.known;
            listed = or_right (x.0 == q) (member q (numbers es)) rest.listed;
            positive = ap (int_lt (pos 0)) entry ∙ rest.positive;
            other = ap (λ v. int_eq v den) entry ∙ rest.other;
          }
      | inr other ↦
          let here : x.0 ≡ q = cc (sym (ap (λ b. if b then lowest_fractional den es else Some x.0) other) ∙ e) in
          let hit : (x.0 == q) ≡ true = eq-eqb x.0 q here in
          let entry : entry_of (x ∷ es) q ≡ x.1 = ap (λ b. if b then x.1 else entry_of es q) hit in
          record {
            known = ap (λ r. nat_lt r count) (sym here) ∙ known.0;
            listed = ap (λ b. b || member q (numbers es)) hit;
            positive = ap (int_lt (pos 0)) entry ∙ (and_parts (int_lt (pos 0) x.1) _ part.0).0;
            other = ap (λ v. int_eq v den) entry ∙ other;
          }
    ]

same_eq : (a b : ℤ) → a ≡ b → int_eq a b ≡ true
same_eq a b e = grind (arith, e)

pub fractional_branch : (k : Packing) (w : Weights) (s : Stage) (f : Fixing) (x : Point) (q : ℕ) → IsGapPoint k w s f x → lowest_fractional x.den x.entries ≡ Some q → can_branch k f q ≡ true
unfolding numbers
fractional_branch k w s f x q h e =
    let at = found k.count x.den x.entries q (rising_distinct (numbers x.entries) h.point.rising) h.point.known h.point.parts e in
    let free : is_free k f q ≡ true = elim (cases_Bool (is_free k f q)) [
      | inl hit ↦ hit
      | inr miss ↦ elim (cases_Bool (member q f.one)) [
        | inl taken ↦ absurd (true≢false (sym (same_eq (entry_of x.entries q) x.den (h.taken q taken)) ∙ at.other))
        | inr left ↦ absurd (true≢false (sym at.positive ∙ ap (int_lt (pos 0)) (h.none q (ltb-true q k.count at.known) left miss)))
      ]
    ] in
    and_from (nat_lt q k.count) (is_free k f q) at.known free

pub fractional_some : (den : ℤ) (es : List (ℕ × ℤ)) → lowest_fractional den es ≡ None → list_any (λ (e : ℕ × ℤ). not (int_eq e.1 den)) es ≡ true → ⊥
fractional_some den [] e h = true≢false (sym h)
fractional_some den (x ∷ es) e h = elim (cases_Bool (int_eq x.1 den)) [
  | inl same ↦ fractional_some den es (sym (ap (λ b. if b then lowest_fractional den es else Some x.0) same) ∙ e) (sym (ap (λ b. not b || list_any (λ (e : ℕ × ℤ). not (int_eq e.1 den)) es) same) ∙ h)
  | inr other ↦ absurd (cc (sym (ap (λ b. if b then lowest_fractional den es else Some x.0) other) ∙ e))
]
