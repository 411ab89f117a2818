use Rattle.std.proofs.Common.{◌<◌, sym, subst, take}
use Rattle.simplex_tableau.specs.Dense.{num}
use Rattle.exact_simplex.specs.Scaled.{IsOptimum}
use Rattle.exact_simplex.proofs.AnswerLemmas.{best_from, num-take}
use Rattle.exact_simplex.proofs.solve.best_point.Goals as goal

pub best-requires-clause-optimum : goal.best-requires-clause-optimum
best-requires-clause-optimum g c =
    let value = g.A.Num.Fraction.value in
    let lp = c.args.lp.now in
    let y = c.args.y.now in
    let k = c.len.result in
    subst (λ xs. IsOptimum lp (num value xs) (num value (take k y))) (sym c.deref-3.ensures.value)
    (best_from value lp c.args.task.now c.args.progress.now y c.in_ok-x.x.items (take k y) c.deref.result.now c.deref-2.result.now c.requires.describes c.requires.progress c.requires.settled c.requires.dual c.requires.extreme
    c.deref.ensures.value c.deref-2.ensures.value c.in_ok-x.ensures.1 (λ i l. num-take value k y i (subst (λ n. i < n) (sym c.len.ensures) l)))
