use Rattle.std.proofs.Common.{arith, subst, sym}
use Rattle.std.specs.Int.{IsGcd}
use Rattle.std.proofs.lemmas.Nat.Gcd.{IsGcd-from_mod, IsGcd-from_zero}
use Rattle.exact_num.proofs.parts.gcd.Goals as goal

pub loop-y-preserved : goal.loop-y-preserved
loop-y-preserved c = λ g h. c.loop-y.invariant g (IsGcd-from_mod c.loop-y.x c.loop-y.y g h)

pub returns : goal.returns
returns c = c.loop-y.invariant c.loop-y.x (IsGcd-from_zero c.loop-y.x c.loop-y.y (omega arith))

pub returns-then-y-le-SHORT : goal.returns-then-y-le-SHORT
returns-then-y-le-SHORT c = c.loop-y.invariant c.from.result (subst (λ g. IsGcd c.loop-y.x c.loop-y.y g) (sym c.from.ensures) c.short_gcd.ensures)
