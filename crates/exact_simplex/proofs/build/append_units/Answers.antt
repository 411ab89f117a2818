use Rattle.std.proofs.Common.{◌∙◌, ◌+◌, sym, ap, subst, ◌++◌, ◌∷◌, []}
use Rattle.exact_simplex.specs.Build.{HasUnits, unit_entry}
use Rattle.exact_simplex.proofs.BuildLemmas.{units_more}
use Rattle.exact_simplex.proofs.build.append_units.Goals as goal

pub loop-i-preserved : goal.loop-i-preserved
loop-i-preserved g c =
    subst (λ z. HasUnits c.args.one (c.loop-i.i + 1) c.args.lists.now.items z) (sym c.in_ok-append_column.ensures.ok)
    (units_more c.args.one c.loop-i.i c.args.lists.now.items c.loop-i.lists.items c.push.new.self (c.in_ok-push.ensures.ok ∙ ap (λ xs. xs ++ unit_entry c.args.one c.loop-i.i ∷ []) c.new-column.ensures) c.loop-i.invariant)
