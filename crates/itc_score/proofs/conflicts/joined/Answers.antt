use Rattle.std.proofs.Common.{ℕ, ◌-◌, ◌&&◌, ◌||◌, List, get_or, drop, arith, subst}
use Rattle.std.specs.Prelude.{◌==◌}
use Rattle.std.specs.List.{list_any}
use Rattle.std.proofs.lemmas.List.{get_or_default}
use Rattle.problem_core.specs.Tables.{IsGrid}
use Rattle.itc_score.specs.Score.{is_member}
use Rattle.itc_score.proofs.TableLemmas.{joined-step}
use Rattle.itc_score.proofs.conflicts.joined.Goals as goal

pub loop-left-preserved : goal.loop-left-preserved
loop-left-preserved c =
    let n = c.args.courses in
    let q = get_or c.args.curricula.now (c.loop-left.left - 1) c.index-curricula-left.result in
    let qs = drop c.loop-left.left c.args.curricula.now in
    record {
      within = omega (arith, c.loop-left.invariant.within);
      grid = joined-step c.join.new.cells.items n c.args.curricula.now c.loop-left.left q c.loop-left-test.true c.loop-left.invariant.within (get_or_default c.args.curricula.now (c.loop-left.left - 1) c.index-curricula-left.result q (omega (arith, c.loop-left-test.true, c.loop-left.invariant.within)))
          (subst (λ (ms : List ℕ). IsGrid c.join.new.cells.items n n (λ a b. (list_any (λ m. m == a) ms && list_any (λ m. m == b) ms) || list_any (λ q. is_member q a && is_member q b) qs)) c.as_slice.ensures
          (c.join.ensures.joined (λ a b. list_any (λ q. is_member q a && is_member q b) qs) c.loop-left.invariant.grid));
    }
