use Rattle.std.proofs.Common.{ℕ, ◌≡◌, ◌-◌, ◌&&◌, ap, not, Bool, true, false, inl, inr, refl, List, get_or}
use Rattle.std.specs.Prelude.{ℤ, pos}
use Rattle.std.specs.Ordering.{int_eq}
use Rattle.std.proofs.lemmas.Bool.{cases_Bool, not_from_false}
use Rattle.std.proofs.lemmas.Bool.Decides.{Decides-int_eq}
use Rattle.numbers.specs.Below.{any_below, any_below_at}
use Rattle.problem_core.specs.Measures.{differ_at}
use mir.Syntax.{w64}
use mir.Val.{of_z}
use Rattle.problem_core.proofs.measures.better.Goals as goal

differs : (a b : List ℤ) (k : ℕ) → (of_z w64 (get_or a k (pos 0)) ≡ of_z w64 (get_or b k (pos 0)) → ⊥) → differ_at a b k ≡ true
differs a b k h = elim (cases_Bool (int_eq (get_or a k (pos 0)) (get_or b k (pos 0)))) [
  | inl same ↦ absurd (h (ap (of_z w64) ((Decides-int_eq (get_or a k (pos 0)) (get_or b k (pos 0))).0 same)))
  | inr differ ↦ not_from_false (int_eq (get_or a k (pos 0)) (get_or b k (pos 0))) differ
]

no_better : (x y : Bool) → x ≡ true → false ≡ (not x && y)
no_better x y h = rw h refl

pub returns-then-a-k : goal.returns-then-a-k
returns-then-a-k c =
    no_better (any_below (differ_at c.args.a.now c.args.b.now) (c.args.level - 1)) _ (any_below_at (differ_at c.args.a.now c.args.b.now) c.loop-k.k (c.args.level - 1) c.loop-k-test.true (differs c.args.a.now c.args.b.now c.loop-k.k c.if-a-k.true))
