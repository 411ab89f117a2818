use Rattle.std.proofs.Common.{◌∙◌, ap, sym, subst, arith, length, ◌≡◌, ◌<◌}
use Rattle.exact_simplex.specs.Force.{SaysZero}
use Rattle.exact_simplex.specs.Progress.{size_of}
use Rattle.simplex_tableau.proofs.DenseLaws.{num-get}
use Rattle.exact_simplex.proofs.KeepingLaws.{dual_is}
use Rattle.exact_simplex.proofs.multipliers.is_dual.Goals as goal

pub returns-then-is_one : goal.returns-then-is_one
returns-then-is_one g c =
    let value = g.A.Num.Fraction.value in
    let t = c.args.task.now in
    let y = c.args.y.now in
    let one_each : length y ≡ size_of t = c.requires.y in (
      c.in_ok-rest.ensures.kept ∙ c.in_ok-given.ensures.0,
      λ e. dual_is value t c.args.progress.now c.args.gain y c.deref.result.now c.index.result.now (value c.in_ok-given.given) (value c.in_ok-rest.rest) c.requires.progress c.requires.gain one_each
          (num-get value y c.args.gain c.index-y-gain.result (let l = c.requires.gain in omega arith) c.index-y-gain.is ∙ c.is_one.ensures c.if-is_one.true)
          c.deref.ensures.value c.in_ok-given.ensures.1 c.index.ensures c.in_ok-rest.ensures.value (subst (λ b. SaysZero (value c.in_ok-rest.rest) b) e c.is_zero.ensures),
    )
