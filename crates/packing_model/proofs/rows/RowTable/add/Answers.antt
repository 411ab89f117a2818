use Rattle.std.proofs.Common.{arith}
use Rattle.packing_model.proofs.rows.RowTable.add.Goals as goal

pub overflow_add-len : goal.overflow_add-len
overflow_add-len c = omega (arith, c.len.ensures, c.requires.few, c.requires.small)
