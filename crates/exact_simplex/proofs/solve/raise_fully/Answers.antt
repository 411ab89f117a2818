use Rattle.std.proofs.Common.{◌∙◌, sym, ap, subst, length, true}
use Rattle.simplex_tableau.specs.Dense.{num}
use Rattle.exact_simplex.specs.Drive.{EndsAt}
use Rattle.exact_simplex.specs.Enter.{IsExtreme}
use Rattle.exact_simplex.specs.Keeping.{IsDual}
use Rattle.exact_simplex.proofs.FinalLaws.{dual_of_row}
use Rattle.exact_simplex.specs.Progress.{size_of}
use Rattle.exact_simplex.specs.Ray.{IsDirection, IsRayFraction}
use Rattle.simplex_tableau.specs.Sparse.{PlacesBelow}
use Rattle.simplex_tableau.proofs.SparseLaws.{places-below}
use Rattle.simplex_tableau.proofs.TableauLaws.{written}
use Rattle.exact_simplex.proofs.AnswerLemmas.{gain_stays, settled_after, stuck_gain, unbounded_gain, ray_from}
use Rattle.exact_simplex.proofs.solve.raise_fully.Goals as goal

pub unreachable-requires : goal.unreachable-requires
unreachable-requires g c =
    let value = g.A.Num.Fraction.value in
    let t = c.args.task.now in
    gain_stays value c.args.lp.now t c.args.limit c.args.progress.now c.drive.new.progress c.drive.new.y c.args.steps.now c.drive.new.steps c.in_ok-drive.field-0 c.requires.describes c.requires.settled c.in_ok-drive.ensures.ends.1.0 c.in-Left.is
    (subst (λ r. EndsAt value t r true c.args.limit c.args.progress.now c.drive.new.progress c.drive.new.y c.in_ok-drive.field-0) c.len-row.ensures c.in_ok-drive.ensures.ends.1.1)

pub best_point-requires-clause-dual : goal.best_point-requires-clause-dual
best_point-requires-clause-dual g c =
    let value = g.A.Num.Fraction.value in
    let lp = c.args.lp.now in
    let t = c.args.task.now in
    let keeps = c.in_ok-drive.ensures.ends.1.0 in
    subst (λ z. IsDual value t c.drive.new.progress (length lp.rows) z) (sym (c.deref-in-Stuck.ensures.value ∙ written c.in_ok-y.y c.drive.new.y (c.drive.auto.y ∙ ap length c.deref_mut.ensures.value)))
    (dual_of_row value lp t c.drive.new.progress c.drive.new.y c.requires.describes keeps.progress (settled_after value lp t c.args.limit c.args.progress.now c.drive.new.progress c.args.steps.now c.drive.new.steps c.requires.settled keeps)
    (stuck_gain value lp t c.args.limit c.args.progress.now c.drive.new.progress c.drive.new.y c.in_ok-drive.field-0 c.in-Stuck.is
    (subst (λ r. EndsAt value t r true c.args.limit c.args.progress.now c.drive.new.progress c.drive.new.y c.in_ok-drive.field-0) c.len-row.ensures c.in_ok-drive.ensures.ends.1.1)).0)

pub best_point-requires-clause-extreme : goal.best_point-requires-clause-extreme
best_point-requires-clause-extreme g c =
    let value = g.A.Num.Fraction.value in
    let t = c.args.task.now in
    subst (λ z. IsExtreme value t c.drive.new.progress.states.items z true) (sym (c.deref-in-Stuck.ensures.value ∙ written c.in_ok-y.y c.drive.new.y (c.drive.auto.y ∙ ap length c.deref_mut.ensures.value)))
    (stuck_gain value c.args.lp.now t c.args.limit c.args.progress.now c.drive.new.progress c.drive.new.y c.in_ok-drive.field-0 c.in-Stuck.is
    (subst (λ r. EndsAt value t r true c.args.limit c.args.progress.now c.drive.new.progress c.drive.new.y c.in_ok-drive.field-0) c.len-row.ensures c.in_ok-drive.ensures.ends.1.1)).1

pub direction-requires-clause-made : goal.direction-requires-clause-made
direction-requires-clause-made g c =
    let value = g.A.Num.Fraction.value in
    let t = c.args.task.now in
    let end = unbounded_gain value c.args.lp.now t c.args.limit c.args.progress.now c.drive.new.progress c.drive.new.y c.in_ok-drive.field-0 c.in-Unbounded.entering c.in-Unbounded.made c.in-Unbounded.is
    (subst (λ r. EndsAt value t r true c.args.limit c.args.progress.now c.drive.new.progress c.drive.new.y c.in_ok-drive.field-0) c.len-row.ensures c.in_ok-drive.ensures.ends.1.1) in
    subst (λ xs. PlacesBelow (size_of t) xs) (sym c.as_slice.ensures) (places-below 0 (size_of t) c.in-Unbounded.made (end.1.makes.rises (size_of t) c.in_ok-drive.ensures.ends.1.0.progress.shape.rises))

pub ray-requires-clause-shows : goal.ray-requires-clause-shows
ray-requires-clause-shows g c =
    let value = g.A.Num.Fraction.value in
    let t = c.args.task.now in
    let keeps = c.in_ok-drive.ensures.ends.1.0 in
    let end = unbounded_gain value c.args.lp.now t c.args.limit c.args.progress.now c.drive.new.progress c.drive.new.y c.in_ok-drive.field-0 c.in-Unbounded.entering c.in-Unbounded.made c.in-Unbounded.is
    (subst (λ r. EndsAt value t r true c.args.limit c.args.progress.now c.drive.new.progress c.drive.new.y c.in_ok-drive.field-0) c.len-row.ensures c.in_ok-drive.ensures.ends.1.1) in
    subst (λ xs. IsRayFraction c.args.lp.now (num value xs)) (sym c.deref-in-Unbounded.ensures.value)
    (ray_from value c.args.lp.now t c.drive.new.progress c.drive.new.y c.in-Unbounded.entering c.in-Unbounded.made c.in_ok-x-in-Unbounded.x.items c.requires.describes keeps.progress
    (settled_after value c.args.lp.now t c.args.limit c.args.progress.now c.drive.new.progress c.args.steps.now c.drive.new.steps c.requires.settled keeps) end.0 end.1
    (subst (λ m. IsDirection value t c.drive.new.progress c.in-Unbounded.entering m c.in_ok-x-in-Unbounded.x.items) c.as_slice.ensures c.in_ok-x-in-Unbounded.ensures.1))
