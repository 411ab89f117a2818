use Rattle.std.proofs.Common.{sym, subst, ◌+◌, refl}
use Rattle.exact_simplex.specs.Start.{AreSlacks}
use Rattle.exact_simplex.proofs.StartLemmas.{slacks_more}
use Rattle.exact_simplex.proofs.start.slacks.Goals as goal

pub loop-i-preserved : goal.loop-i-preserved
loop-i-preserved c = subst (λ z. AreSlacks c.args.first (c.loop-i.i + 1) z) (sym c.in_ok-append_number.ensures.ok) (slacks_more c.args.first c.loop-i.i c.loop-i.basis.items (c.args.first + c.loop-i.i) refl c.loop-i.invariant)
