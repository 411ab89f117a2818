use Rattle.std.proofs.Common.{◌≡◌, map}
use Rattle.exact_num.specs.Ops.{◌*ℚ◌}
use Rattle.exact_num.specs.Sums.{sum_ℚ, entry_ℚ}
use Rattle.worked_cases.proofs.fractions.dot.Given as goal

abbrev pub invariant-loop-i : goal.invariant-loop-i
invariant-loop-i g l = record {
  sum : g.A.Num.Fraction.value l.total ≡ sum_ℚ (λ k. entry_ℚ (map g.A.Num.Fraction.value l.left) k *ℚ entry_ℚ (map g.A.Num.Fraction.value l.right) k) l.i;
  kept : g.A.Arith.wides l.arith ≡ g.A.Arith.wides l.fn.arith;
}
