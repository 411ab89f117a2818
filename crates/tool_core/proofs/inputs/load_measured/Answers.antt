use Rattle.run_core.specs.Outside.{told}
use Rattle.tool_core.specs.Inputs.{names, AreRefused}
use Rattle.tool_core.proofs.LoadLaws.{measures_failed, problem_fails, answered}
use Rattle.tool_core.proofs.inputs.load_measured.Goals as goal

pub returns-in-Err-clause-fails : goal.returns-in-Err-clause-fails
returns-in-Err-clause-fails g c = λ n k gives_i gives_t.
    measures_failed (told g.S.Shelf.tells g.S.Shelf.held c.args.shelf.now) (names n k c.args.measures.now) c.args.instance.now c.args.times.now
    (g.S.Shelf.piece_faults c.args.shelf.now) (g.S.Shelf.piece_faults c.load_measures.new.shelf) c.in-Err.fault c.in_file.result c.in_file.ensures gives_i gives_t c.in-Err.ensures.fails

pub returns-in_err-problem-clause-fails : goal.returns-in_err-problem-clause-fails
returns-in_err-problem-clause-fails g c = λ n k gives_i gives_t.
    let o = told g.S.Shelf.tells g.S.Shelf.held c.args.shelf.now in
    let f = names n k c.args.measures.now in
    let before = g.S.Shelf.piece_faults c.args.shelf.now in
    let now = g.S.Shelf.piece_faults c.load_measures.new.shelf in
    answered o f before now (AreRefused o f) c.from_residual.result c.in_err-problem.field-0.0 c.from_residual.ensures.1
    (problem_fails o f c.args.instance.now c.args.times.now c.in-Ok.found before now c.in_err-problem.field-0.0 (record { instance = gives_i; times = gives_t; measures = c.in-Ok.ensures.gives }) c.in_err-problem.ensures.fails)
