use Rattle.std.proofs.Common.{sym, subst, length}
use Rattle.exact_simplex.specs.Build.{RowsBelow}
use Rattle.exact_simplex.proofs.BuildLemmas.{rows_below}
use Rattle.exact_simplex.proofs.build.fill_columns.Goals as goal

pub add_rows-requires-clause-below : goal.add_rows-requires-clause-below
add_rows-requires-clause-below g c =
    subst (λ rows. RowsBelow (length c.args.lists.now) rows) (sym c.as_slice.ensures) (rows_below c.args.lp.now (length c.args.lists.now) c.requires.task c.requires.columns)
