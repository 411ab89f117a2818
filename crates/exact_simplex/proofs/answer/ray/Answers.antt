use Rattle.std.proofs.Common.{◌∙◌, sym, subst, map}
use Rattle.std.proofs.lemmas.List.{length-map}
use Rattle.exact_simplex.specs.Task.{IsRay}
use Rattle.exact_simplex.proofs.RayLemmas.{ray_whole}
use Rattle.exact_simplex.proofs.answer.ray.Goals as goal

pub returns-in-Ok : goal.returns-in-Ok
returns-in-Ok g c =
    let value = g.A.Num.Fraction.value in (
      c.in-Ok.ensures.kept,
      subst (λ xs. IsRay c.args.lp.now xs) (sym c.from.ensures)
          (ray_whole c.args.lp.now (map value c.args.x.now) g.A.Arith.fits c.in-Ok.common.nums.items c.in-Ok.common.den _ _ (length-map c.args.x.now value ∙ c.requires.x) c.in-Ok.ensures c.requires.shows),
    )
