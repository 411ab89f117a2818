use Rattle.std.proofs.Common.{◌≡◌, ◌<◌, ◌+◌, ◌∙◌, ap, ap₂, sym, ℕ, List, map, length, get_or, arith}
use Rattle.std.proofs.lemmas.List.{get_or-map}
use Rattle.exact_num.specs.Q.{ℚ}
use Rattle.exact_num.specs.Ops.{◌+ℚ◌, ◌*ℚ◌, zero_ℚ, +ℚ_comm}
use Rattle.exact_num.specs.Sums.{sum_ℚ, sum_ℚ-more, entry_ℚ}
use Rattle.exact_num.specs.Whole.{int_ℚ-zero}
use Rattle.worked_cases.proofs.fractions.dot.Goals as goal

entry_here : {N : Type 0} (value : N → ℚ) (xs : List N) (i : ℕ) (x : N) → i < length xs → x ≡ get_or xs i x → entry_ℚ (map value xs) i ≡ value x
entry_here value xs i x l e = get_or-map value xs i x zero_ℚ l ∙ ap value (sym e)

dot_more : {N : Type 0} (value : N → ℚ) (left right : List N) (i : ℕ) (a b : N) (before : ℚ) → length left ≡ length right → i < length left
    → a ≡ get_or left i a → b ≡ get_or right i b
    → before ≡ sum_ℚ (λ k. entry_ℚ (map value left) k *ℚ entry_ℚ (map value right) k) i
    → (value a *ℚ value b) +ℚ before ≡ sum_ℚ (λ k. entry_ℚ (map value left) k *ℚ entry_ℚ (map value right) k) (i + 1)
dot_more value left right i a b before same l at_a at_b e =
    +ℚ_comm (value a *ℚ value b) before ∙ ap (λ x. x +ℚ value a *ℚ value b) e
    ∙ sym (sum_ℚ-more (λ k. entry_ℚ (map value left) k *ℚ entry_ℚ (map value right) k) i (value a *ℚ value b)
    (ap₂ (λ x y. x *ℚ y) (sym (entry_here value left i a l at_a)) (sym (entry_here value right i b (omega arith) at_b))))

pub loop-i-init : goal.loop-i-init
loop-i-init g c = record { sum = c.in_ok-total.ensures.value ∙ int_ℚ-zero; kept = c.in_ok-total.ensures.kept }

pub loop-i-preserved : goal.loop-i-preserved
loop-i-preserved g c = record {
  sum = c.in_ok-total-2.ensures.value
      ∙ ap (λ x. x +ℚ g.A.Num.Fraction.value c.loop-i.total) c.in_ok-product.ensures.value
      ∙ dot_more g.A.Num.Fraction.value c.args.left.now c.args.right.now c.loop-i.i c.index-left-i.result c.index-right-i.result (g.A.Num.Fraction.value c.loop-i.total) c.requires c.loop-i-test.true c.index-left-i.is c.index-right-i.is c.loop-i.invariant.sum;
  kept = c.in_ok-total-2.ensures.kept ∙ c.in_ok-product.ensures.kept ∙ c.loop-i.invariant.kept;
}
