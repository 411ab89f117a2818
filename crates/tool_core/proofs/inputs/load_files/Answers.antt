use Rattle.input_core.proofs.ReadLemmas.{OnlyReads-then}
use Rattle.run_core.specs.Files.{GivesInstance, GivesTimes}
use Rattle.run_core.specs.Outside.{told}
use Rattle.run_core.proofs.FileLaws.{told_before, told_after}
use Rattle.tool_core.specs.Inputs.{names, GivesMeasures, AreRefused}
use Rattle.tool_core.proofs.LoadLaws.{fails_earlier, answered}
use Rattle.tool_core.proofs.inputs.load_files.Goals as goal

pub returns-in_err-timed-clause-fails : goal.returns-in_err-timed-clause-fails
returns-in_err-timed-clause-fails g c =
    let tells = g.S.Shelf.tells in
    let held = g.S.Shelf.held in
    let old = c.args.shelf.now in
    let mid = c.load_instance.new.shelf in
    let o = told tells held old in
    let name = c.args.instance.now in
    let f = names name c.args.times.now c.args.measures.now in
    let before = g.S.Shelf.piece_faults old in
    let now = g.S.Shelf.piece_faults c.load_timed.new.shelf in
    let only = c.in-Ok.ensures.only in
    let gives = told_after (λ b s. GivesInstance b s c.in-Ok.found) (tells old) (tells mid) (held old name) (held mid name) only.same_telling (only.same_names name) c.in-Ok.ensures.gives in
    answered o f before now (AreRefused o f) c.from_residual.result c.in_err-timed.field-0.0 c.from_residual.ensures.1
    (fails_earlier o (told tells held mid) f before (g.S.Shelf.piece_faults mid) now c.in_err-timed.field-0.0 only.same_telling only.same_names only.later (c.in_err-timed.ensures.fails name gives))

pub returns-clause-given : goal.returns-clause-given
returns-clause-given g c =
    let tells = g.S.Shelf.tells in
    let held = g.S.Shelf.held in
    let old = c.args.shelf.now in
    let mid = c.load_instance.new.shelf in
    let only = c.in-Ok.ensures.only in
    let timed = c.in_ok-timed.ensures in
    let t = c.args.times.now in
    let m = c.args.measures.now in
    record {
      instance = c.in-Ok.ensures.gives;
      times = told_before (λ b s. GivesTimes b s c.in-Ok.found c.in_ok-timed.timed.times) (tells old) (tells mid) (held old t) (held mid t) only.same_telling (only.same_names t) timed.gives_times;
      measures = told_before (λ b s. GivesMeasures b s c.in-Ok.found c.in_ok-timed.timed.measures) (tells old) (tells mid) (held old m) (held mid m) only.same_telling (only.same_names m) timed.gives_measures;
    }

pub returns-clause-only : goal.returns-clause-only
returns-clause-only g c = OnlyReads-then _ _ _ _ _ _ _ c.in-Ok.ensures.only c.in_ok-timed.ensures.only
