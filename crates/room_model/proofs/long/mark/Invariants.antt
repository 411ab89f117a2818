use Rattle.std.proofs.Common.{◌≡◌, ◌<◌, ◌&&◌, ◌||◌, ℕ, Bool, length}
use Rattle.std.specs.Prelude.{◌==◌, nat_le, nat_lt}
use Rattle.problem_core.specs.Tables.{IsGrid}
use Rattle.room_model.proofs.long.mark.Given as goal

abbrev pub invariant-loop-t : goal.invariant-loop-t
invariant-loop-t l = record {
  whole : length l.taken ≡ length l.fn.taken;
  grid : (rows : ℕ) (f : ℕ → ℕ → Bool) → l.row < rows → IsGrid l.fn.taken rows l.columns f
      → IsGrid l.taken rows l.columns (λ r t. ((l.row == r) && (nat_le l.from t && nat_lt t l.t)) || f r t);
}
