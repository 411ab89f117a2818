use Rattle.std.proofs.Common.{refl, arith, ◌∙◌, sym, ◌<◌}
use Rattle.simplex_tableau.proofs.InverseLaws.{list-get}
use Rattle.simplex_tableau.proofs.LeaveLaws.{found_leaves}
use Rattle.exact_simplex.proofs.DriveLaws.{keeps_advance, keeps_none, left_nowhere, unbounded_is}
use Rattle.exact_simplex.specs.Progress.{size_of}
use Rattle.exact_simplex.proofs.drive.bring_in.Goals as goal

pub advance-requires-clause-leaves : goal.advance-requires-clause-leaves
advance-requires-clause-leaves g c =
    let p = c.args.progress.now in
    found_leaves g.A.Num.Fraction.value _ (size_of c.args.task.now) c.args.task.now.columns p.states.items c.deref-2.result.now p.tableau c.as_slice-3.result.now c.as_slice-2.result.now c.in_ok-found.found c.in-Some.leaving
    c.requires.progress.shape.point_length c.deref-2.ensures.value (c.as_slice-2.ensures ∙ sym c.as_slice-3.ensures) c.in-Some.is c.in_ok-found.ensures.1

pub returns-clause-ends : goal.returns-clause-ends
returns-clause-ends g c =
    let adv = c.in_ok-advance.ensures.ends.1 in
    let l : c.args.progress.now.pivots < c.args.limit = let ne = c.if-progress-limit.false in let w = c.requires.within in omega arith in (
      c.in_ok-advance.ensures.ends.0 ∙ c.in_ok-found.ensures.0 ∙ c.in_ok-made.ensures.0,
      record {
        keeps = keeps_advance g.A.Num.Fraction.value c.args.task.now c.args.row c.args.entering c.in-Some.leaving.place c.args.limit c.args.progress.now c.advance.new.progress c.advance.new.y c.args.steps.now c.advance.new.steps adv l;
        there = record { same = adv.others c.args.row c.requires.row (λ e. c.if-place-row.false (sym e)); is_row = adv.row_kept (λ e. c.if-place-row.false (sym e)) };
        more = adv.pivots;
      },
    )

pub returns-then-place-row-clause-ends : goal.returns-then-place-row-clause-ends
returns-then-place-row-clause-ends g c =
    let value = g.A.Num.Fraction.value in
    let adv = c.in_ok-advance.ensures.ends.1 in
    let l : c.args.progress.now.pivots < c.args.limit = let ne = c.if-progress-limit.false in let w = c.requires.within in omega arith in (
      c.in_ok-advance.ensures.ends.0 ∙ c.in_ok-found.ensures.0 ∙ c.in_ok-made.ensures.0,
      (
        keeps_advance value c.args.task.now c.args.row c.args.entering c.in-Some.leaving.place c.args.limit c.args.progress.now c.advance.new.progress c.advance.new.y c.args.steps.now c.advance.new.steps adv l,
        left_nowhere value c.args.task.now c.args.row c.args.entering c.in-Some.leaving.place c.args.progress.now c.advance.new.progress c.advance.new.y c.args.steps.now c.advance.new.steps c.requires.progress c.requires.row c.requires.own_place c.requires.driven c.requires.helps.may c.if-place-row.true adv,
      ),
    )

pub returns-in_default-clause-ends : goal.returns-in_default-clause-ends
returns-in_default-clause-ends g c =
    let value = g.A.Num.Fraction.value in
    let t = c.args.task.now in
    let p = c.args.progress.now in (
      c.in_ok-found.ensures.0 ∙ c.in_ok-made.ensures.0,
      (
        keeps_none value t c.args.limit p c.args.steps.now c.requires.progress c.requires.within,
        (
          record { same = refl; is_row = c.requires.y },
          unbounded_is value t p c.args.y.now c.args.up c.args.entering _ c.deref-2.result.now c.deref.result.now c.as_slice.result.now c.in_ok-made.made c.as_slice-2.result.now c.in_ok-found.found
              c.requires.below c.requires.helps c.deref.ensures.value (c.as_slice.ensures ∙ sym (list-get t.lists.items c.args.entering c.index.result.now c.requires.below c.index.ensures)) c.in_ok-made.ensures.1
              c.requires.progress.shape.point_length c.deref-2.ensures.value c.as_slice-2.ensures c.in_default.is c.in_ok-found.ensures.1,
        ),
      ),
    )
