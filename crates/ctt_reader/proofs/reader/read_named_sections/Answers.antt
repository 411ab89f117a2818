use Rattle.std.proofs.Common.{◌∙◌}
use Rattle.std.proofs.lemmas.Result.{err_from_is_err_and}
use Rattle.input_core.proofs.ChainLemmas.{bind-ok, fails-first, fails-then}
use Rattle.ctt_reader.proofs.reader.read_named_sections.Goals as goal

pub returns : goal.returns
returns c =
    let names = c.in_ok-courses.ensures.names in
    bind-ok _ _ _ c.in_ok-courses.ensures.courses ∙ bind-ok _ _ _ c.in_ok-rooms.ensures ∙ bind-ok _ _ _ (rw names at c.in_ok-curricula.ensures) ∙ bind-ok _ _ _ (rw names at c.in_ok-constraints.ensures)

pub returns-in_err-curricula : goal.returns-in_err-curricula
returns-in_err-curricula c =
    let names = c.in_ok-courses.ensures.names in
    let p = err_from_is_err_and c.from_residual-in_err-curricula.result c.from_residual-in_err-curricula.ensures.1 in
    rw (p.1, p.2) (fails-then _ _ _ _ c.in_ok-courses.ensures.courses (fails-then _ _ _ _ c.in_ok-rooms.ensures (fails-first _ _ _ (rw names at c.in_err-curricula.ensures))))

pub returns-in_err-constraints : goal.returns-in_err-constraints
returns-in_err-constraints c =
    let names = c.in_ok-courses.ensures.names in
    let p = err_from_is_err_and c.from_residual-in_err-constraints.result c.from_residual-in_err-constraints.ensures.1 in
    rw (p.1, p.2) (fails-then _ _ _ _ c.in_ok-courses.ensures.courses (fails-then _ _ _ _ c.in_ok-rooms.ensures (fails-then _ _ _ _ (rw names at c.in_ok-curricula.ensures) (fails-first _ _ _ (rw names at c.in_err-constraints.ensures)))))
