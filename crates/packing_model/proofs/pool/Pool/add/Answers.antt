use Rattle.std.proofs.Common.{arith}
use Rattle.packing_model.proofs.CutLemmas.{table_added}
use Rattle.packing_model.proofs.pool.Pool.add.Goals as goal

pub invariant_of-self-in-Ok : goal.invariant_of-self-in-Ok
invariant_of-self-in-Ok c =
    table_added c.self.inside.cuts c.push.new.self c.as_slice.result.now c.args.c c.patterns-patterns.result.now c.index-as_slice-number.result c.len-number.result c.self.inside.rows.items c.add_rows.new.table.items
    c.self.invariant.0 c.self.invariant.1 c.in_ok-push.ensures.ok c.as_slice.ensures c.len-number.ensures (omega arith) c.index-as_slice-number.is c.patterns-patterns.ensures.patterns c.in-Ok.ensures.ok
