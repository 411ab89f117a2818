use Rattle.std.proofs.Common.{rules, ◌≡◌, []}
use Rattle.packing_model.specs.CutTable.{rows_at}
use Rattle.packing_model.proofs.CutLemmas.{cut_rows_in}
use Rattle.packing_model.proofs.pool.Pool.cut_rows.Goals as goal

pub returns-in-Some : goal.returns-in-Some
returns-in-Some c =
    let here : c.as_slice.result.now ≡ rows_at c.self.inside.rows.items c.args.pattern = search rules in
    cut_rows_in c.self.inside.cuts c.args.self.now c.self.inside.rows.items c.as_slice.result.now c.args.pattern c.self.view_is c.self.invariant.0 c.self.invariant.1 here

pub returns-in-None : goal.returns-in-None
returns-in-None c =
    let here : [] ≡ rows_at c.self.inside.rows.items c.args.pattern = search rules in
    cut_rows_in c.self.inside.cuts c.args.self.now c.self.inside.rows.items [] c.args.pattern c.self.view_is c.self.invariant.0 c.self.invariant.1 here
