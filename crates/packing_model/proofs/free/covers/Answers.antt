use Rattle.std.proofs.Common.{◌∙◌, ◌+◌, Bool, ◌||◌, ap, sym, drop}
use Rattle.std.proofs.lemmas.Bool.{or_left}
use Rattle.duality.specs.Runs.{rows_in}
use Rattle.duality.specs.Sums.{member_row}
use Rattle.duality.specs.declared.row.RowName.TheVariants.{Base}
use Rattle.packing_model.specs.Runs.{no_run}
use Rattle.packing_model.proofs.RunLemmas.{member_more}
use Rattle.packing_model.proofs.free.covers.Goals as goal

pub returns-then-is_in : goal.returns-then-is_in
returns-then-is_in c =
    sym (sym c.loop-run.invariant ∙ member_more c.args.row c.args.runs.now c.loop-run.run-index no_run c.loop-run-test.true ∙ or_left _ _ (sym c.is_in.ensures ∙ c.if-is_in.true))

pub loop-run-preserved : goal.loop-run-preserved
loop-run-preserved c =
    let later : Bool = member_row (Base c.args.row) (rows_in (drop (c.loop-run.run-index + 1) c.args.runs.now)) in
    sym (sym c.loop-run.invariant ∙ member_more c.args.row c.args.runs.now c.loop-run.run-index no_run c.loop-run-test.true ∙ ap (λ b. b || later) (sym c.is_in.ensures ∙ c.if-is_in.false))
