-- A leaf has no fault exactly where it closes.
use Rattle.std.proofs.Common.{ℕ, ◌≡◌, ◌<◌, ◌≤◌, ◌+◌, arith, refl, sym, ◌∙◌, ap, zero, suc, Bool, true, false, not, ◌&&◌, List, [], ◌∷◌, inl, inr}
use Rattle.std.specs.Prelude.{Option, Some, None, if◌then◌else◌}
use Rattle.std.specs.Option.{option_or}
use Rattle.std.specs.List.{list_all}
use Rattle.std.proofs.lemmas.Bool.{true≢false, cases_Bool, cases_eq, or_from}
use Rattle.numbers.specs.Below.{any_below, first_from, first_from_finds, any_below_at}
use Rattle.duality.specs.declared.row.Term.{Term}
use Rattle.duality.specs.declared.leaf.Leaf.{Leaf}
use Rattle.duality.specs.declared.leaf.LeafFault.{LeafFault}
use Rattle.duality.specs.declared.leaf.LeafFault.TheVariants.{Row, Sign, Cost, Bound}
use Rattle.duality.specs.Packing.{Packing, Weights, Stage, Fixing, is_there, has_sign}
use Rattle.duality.specs.Leaf.{term_fits, costs, left_side, is_under, closes, term_fault, terms_fault, cost_at, cost_fault, bound_fault, leaf_fault}

abbrev no_fault : Option LeafFault → Bool
no_fault None = true
no_fault (Some f) = false

no_fault-is : (o : Option LeafFault) → no_fault o ≡ true → o ≡ None
no_fault-is None h = refl
no_fault-is (Some f) h = absurd (true≢false (sym h))

no_fault-or : (a b : Option LeafFault) → no_fault (option_or a b) ≡ (no_fault a && no_fault b)
no_fault-or None b = refl
no_fault-or (Some f) b = refl

term_clean : (k : Packing) (w : Weights) (s : Stage) (at : ℕ) (t : Term) → no_fault (term_fault k w s at t) ≡ term_fits k w s t
term_clean k w s at t = go (is_there k w s t.row) (has_sign t.row t.times)
  where
    go : (a b : Bool) → no_fault (if a then (if b then None else Some (Sign at)) else Some (Row at)) ≡ (a && b)
    go true true = refl
    go true false = refl
    go false b = refl

terms_clean : (k : Packing) (w : Weights) (s : Stage) (at : ℕ) (ts : List Term) → no_fault (terms_fault k w s at ts) ≡ list_all (term_fits k w s) ts
terms_clean k w s at [] = refl
terms_clean k w s at (t ∷ ts) =
    no_fault-or (term_fault k w s at t) (terms_fault k w s (at + 1) ts)
    ∙ ap (λ b. b && no_fault (terms_fault k w s (at + 1) ts)) (term_clean k w s at t)
    ∙ ap (λ b. term_fits k w s t && b) (terms_clean k w s (at + 1) ts)

none_found : (test : ℕ → Bool) (r n i : ℕ) → first_from test r n ≡ 0 → r ≤ i → i < r + n → test i ≡ false
none_found test r zero i e l m = absurd (omega arith)
none_found test r (suc n) i e l m = elim (cases_Bool (test r)) [
  | inl found ↦ let bad : r + 1 ≡ 0 = sym (ap (λ b. if b then r + 1 else first_from test (r + 1) n) found) ∙ e in absurd (omega arith)
  | inr here ↦
      let rest : first_from test (r + 1) n ≡ 0 = sym (ap (λ b. if b then r + 1 else first_from test (r + 1) n) here) ∙ e in
      elim (cases_eq i r) [
        | inl same ↦ ap test same ∙ here
        | inr ne ↦ none_found test (r + 1) n i rest (omega arith) (omega arith)
      ]
]

any_none : (test : ℕ → Bool) (n : ℕ) → ((i : ℕ) → i < n → test i ≡ false) → any_below test n ≡ false
any_none test zero h = refl
any_none test (suc n) h = or_from (test n) (any_below test n) (h n (omega arith)) (any_none test n (λ i l. h i (omega arith)))

costs_clean : (test : ℕ → Bool) (n : ℕ) → no_fault (cost_at (first_from test 0 n)) ≡ not (any_below test n)
costs_clean test n = go (first_from test 0 n) refl
  where
    go : (x : ℕ) → x ≡ first_from test 0 n → no_fault (cost_at x) ≡ not (any_below test n)
    go zero e = sym (ap not (any_none test n (λ i l. none_found test 0 n i (sym e) (omega arith) (omega arith))))
    go (suc x) e =
        let found = first_from_finds test 0 n x (sym e ∙ omega arith) in
        sym (ap not (any_below_at test x n (omega (arith, found.1)) found.0))

bound_clean : (b : Bool) → no_fault (if b then None else Some Bound) ≡ b
bound_clean true = refl
bound_clean false = refl

pub leaf_clean : (k : Packing) (w : Weights) (s : Stage) (f : Fixing) (leaf : Leaf) → no_fault (leaf_fault k w s f leaf) ≡ closes k w s f leaf
leaf_clean k w s f leaf =
    no_fault-or (terms_fault k w s 0 leaf.terms) (option_or (cost_fault k w s f leaf) (bound_fault k w s f leaf))
    ∙ ap (λ b. b && no_fault (option_or (cost_fault k w s f leaf) (bound_fault k w s f leaf))) (terms_clean k w s 0 leaf.terms)
    ∙ ap (λ b. list_all (term_fits k w s) leaf.terms && b)
    (no_fault-or (cost_fault k w s f leaf) (bound_fault k w s f leaf)
    ∙ ap (λ b. b && no_fault (bound_fault k w s f leaf)) (costs_clean (costs k w s f leaf) k.count)
    ∙ ap (λ b. not (any_below (costs k w s f leaf) k.count) && b) (bound_clean (is_under s.best leaf.scale (left_side k w s f leaf))))

pub faultless_closes : (k : Packing) (w : Weights) (s : Stage) (f : Fixing) (leaf : Leaf) → leaf_fault k w s f leaf ≡ None → closes k w s f leaf ≡ true
faultless_closes k w s f leaf e = sym (leaf_clean k w s f leaf) ∙ ap no_fault e

pub closing_faultless : (k : Packing) (w : Weights) (s : Stage) (f : Fixing) (leaf : Leaf) → closes k w s f leaf ≡ true → leaf_fault k w s f leaf ≡ None
closing_faultless k w s f leaf e = no_fault-is (leaf_fault k w s f leaf) (leaf_clean k w s f leaf ∙ e)

-- the pattern that is named is free, has a positive reduced cost, and is the lowest such pattern
pub cost_is_lowest : (test : ℕ → Bool) (r n x : ℕ) → first_from test r n ≡ suc x → (i : ℕ) → r ≤ i → i < x → test i ≡ false
cost_is_lowest test r zero x e i l m = absurd (omega arith)
cost_is_lowest test r (suc n) x e i l m = elim (cases_Bool (test r)) [
  | inl found ↦
      let same : r + 1 ≡ suc x = sym (ap (λ b. if b then r + 1 else first_from test (r + 1) n) found) ∙ e in
      absurd (omega arith)
  | inr here ↦
      let rest : first_from test (r + 1) n ≡ suc x = sym (ap (λ b. if b then r + 1 else first_from test (r + 1) n) here) ∙ e in
      elim (cases_eq i r) [
        | inl same ↦ ap test same ∙ here
        | inr ne ↦ cost_is_lowest test (r + 1) n x rest i (omega arith) m
      ]
]

pub cost_named : (k : Packing) (w : Weights) (s : Stage) (f : Fixing) (leaf : Leaf) (p : ℕ) → cost_fault k w s f leaf ≡ Some (Cost p)
    → (p < k.count) × (costs k w s f leaf p ≡ true) × ((q : ℕ) → q < p → costs k w s f leaf q ≡ false)
cost_named k w s f leaf p e = go (first_from (costs k w s f leaf) 0 k.count) refl e
  where
    go : (x : ℕ) → x ≡ first_from (costs k w s f leaf) 0 k.count → cost_at x ≡ Some (Cost p)
        → (p < k.count) × (costs k w s f leaf p ≡ true) × ((q : ℕ) → q < p → costs k w s f leaf q ≡ false)
    go zero same e = absurd (cc)
    go (suc x) same e =
        let is : x ≡ p = cc in
        let found = first_from_finds (costs k w s f leaf) 0 k.count x (sym same ∙ omega arith) in
        (omega (arith, found.1), ap (costs k w s f leaf) (sym is) ∙ found.0, λ q l. cost_is_lowest (costs k w s f leaf) 0 k.count x (sym same) q (omega arith) (omega arith))
