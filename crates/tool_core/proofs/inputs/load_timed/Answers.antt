use Rattle.input_core.proofs.ReadLemmas.{OnlyReads-then}
use Rattle.run_core.specs.Files.{GivesInstance, GivesTimes}
use Rattle.run_core.specs.Outside.{told}
use Rattle.run_core.proofs.FileLaws.{told_before, told_after}
use Rattle.tool_core.specs.Inputs.{names, GivesMeasures, AreRefused}
use Rattle.tool_core.proofs.LoadLaws.{times_failed, fails_earlier, answered}
use Rattle.tool_core.proofs.inputs.load_timed.Goals as goal

pub returns-in-Err-clause-fails : goal.returns-in-Err-clause-fails
returns-in-Err-clause-fails g c = λ n gives.
    times_failed (told g.S.Shelf.tells g.S.Shelf.held c.args.shelf.now) (names n c.args.times.now c.args.measures.now) c.args.instance.now
    (g.S.Shelf.piece_faults c.args.shelf.now) (g.S.Shelf.piece_faults c.load_times.new.shelf) c.in-Err.fault c.in_file.result c.in_file.ensures gives c.in-Err.ensures.fails

pub returns-in_err-measured-clause-fails : goal.returns-in_err-measured-clause-fails
returns-in_err-measured-clause-fails g c = λ n gives.
    let tells = g.S.Shelf.tells in
    let held = g.S.Shelf.held in
    let old = c.args.shelf.now in
    let mid = c.load_times.new.shelf in
    let o = told tells held old in
    let f = names n c.args.times.now c.args.measures.now in
    let before = g.S.Shelf.piece_faults old in
    let now = g.S.Shelf.piece_faults c.load_measured.new.shelf in
    let only = c.in-Ok.ensures.only in
    let gives_i = told_after (λ b s. GivesInstance b s c.args.instance.now) (tells old) (tells mid) (held old n) (held mid n) only.same_telling (only.same_names n) gives in
    let gives_t = told_after (λ b s. GivesTimes b s c.args.instance.now c.in-Ok.found) (tells old) (tells mid) (held old c.args.times.now) (held mid c.args.times.now) only.same_telling (only.same_names c.args.times.now) c.in-Ok.ensures.gives in
    answered o f before now (AreRefused o f) c.from_residual.result c.in_err-measured.field-0.0 c.from_residual.ensures.1
    (fails_earlier o (told tells held mid) f before (g.S.Shelf.piece_faults mid) now c.in_err-measured.field-0.0 only.same_telling only.same_names only.later
    (c.in_err-measured.ensures.fails n c.args.times.now gives_i gives_t))

pub returns-clause-gives_measures : goal.returns-clause-gives_measures
returns-clause-gives_measures g c =
    let only = c.in-Ok.ensures.only in
    let name = c.args.measures.now in
    told_before (λ b s. GivesMeasures b s c.args.instance.now c.in_ok-measured.measured.measures) (g.S.Shelf.tells c.args.shelf.now) (g.S.Shelf.tells c.load_times.new.shelf)
    (g.S.Shelf.held c.args.shelf.now name) (g.S.Shelf.held c.load_times.new.shelf name) only.same_telling (only.same_names name) c.in_ok-measured.ensures.gives

pub returns-clause-only : goal.returns-clause-only
returns-clause-only g c = OnlyReads-then _ _ _ _ _ _ _ c.in-Ok.ensures.only c.in_ok-measured.ensures.only
