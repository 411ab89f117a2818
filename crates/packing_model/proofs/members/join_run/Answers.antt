use Rattle.std.proofs.Common.{arith, inl, inr}
use Rattle.packing_model.proofs.MarkLemmas.{in_run_at}
use Rattle.packing_model.proofs.members.join_run.Goals as goal

pub loop-row-preserved : goal.loop-row-preserved
loop-row-preserved c = λ j h. elim (c.join.ensures j h) [
  | inl was ↦ c.loop-row.invariant j was
  | inr came ↦ inr (record { row = c.loop-row.row; within = in_run_at c.args.run c.loop-row.row (omega arith) (omega arith); set = came })
]
