use Rattle.run_core.specs.Outside.{told}
use Rattle.tool_core.specs.Inputs.{names, AreRefusedForModel}
use Rattle.tool_core.proofs.LoadLaws.{files_fail, answered}
use Rattle.tool_core.proofs.loading.load.Goals as goal

pub returns-in_err-inputs-clause-fails : goal.returns-in_err-inputs-clause-fails
returns-in_err-inputs-clause-fails g c =
    let o = told g.S.Shelf.tells g.S.Shelf.held c.args.shelf.now in
    let f = names c.args.instance.now c.args.times.now c.args.measures.now in
    let before = g.S.Shelf.piece_faults c.args.shelf.now in
    let now = g.S.Shelf.piece_faults c.load_files.new.shelf in
    answered o f before now (AreRefusedForModel o f) c.from_residual.result c.in_err-inputs.field-0.0 c.from_residual.ensures.1
    (files_fail o f before now c.in_err-inputs.field-0.0 c.in_err-inputs.ensures.fails)
