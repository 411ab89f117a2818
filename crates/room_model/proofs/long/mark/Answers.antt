use Rattle.std.proofs.Common.{◌≡◌, ◌+◌, ◌&&◌, ◌||◌, ◌∙◌, subst, arith, refl}
use Rattle.std.specs.Prelude.{◌==◌, nat_le, nat_lt}
use Rattle.std.proofs.lemmas.List.{length-set}
use Rattle.problem_core.specs.Tables.{IsGrid}
use Rattle.problem_core.proofs.TakenLemmas.{mark_step, mark_none}
use Rattle.room_model.proofs.long.mark.Goals as goal

pub loop-t-init : goal.loop-t-init
loop-t-init c = record {
  whole = refl;
  grid = λ rows f l grid. mark_none c.args.taken.now rows c.args.columns c.args.row c.args.from f grid;
}

pub loop-t-preserved : goal.loop-t-preserved
loop-t-preserved c = record {
  whole = length-set c.loop-t.taken _ _ ∙ c.loop-t.invariant.whole;
  grid = λ rows f l grid. mark_step c.loop-t.taken _ rows c.args.columns c.args.row c.args.from c.loop-t.t f l (omega arith) (omega arith) refl (c.loop-t.invariant.grid rows f l grid);
}

pub returns-clause-grid : goal.returns-clause-grid
returns-clause-grid c rows f l grid =
    let ended : c.loop-t.t ≡ c.args.from + c.args.count = omega arith in
    subst (λ n. IsGrid c.loop-t.taken rows c.args.columns (λ r t. ((c.args.row == r) && (nat_le c.args.from t && nat_lt t n)) || f r t)) ended (c.loop-t.invariant.grid rows f l grid)
