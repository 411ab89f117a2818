use Rattle.std.proofs.lemmas.Result.{IfOk-weaker}
use Rattle.lex_driver.proofs.SolveLaws.{solves, found_search}
use Rattle.lex_driver.proofs.solve.solve_levels.Goals as goal

pub returns : goal.returns
returns g c =
    let p = c.args.model.now in
    let stopped = c.in_ok-stopped.stopped in
    IfOk-weaker c.certified.result _ _ (λ r h.
    solves p c.measured_laws.ensures.weighs (λ n d few valid. c.certificate_laws.ensures.best p n d (record { known = c.laws.ensures.problem.known }) few valid)
    stopped.search stopped.unfinished c.args.budget _ _ _ r c.in_ok-stopped.ensures.searches c.in_ok-stopped.ensures.logged h) c.certified.ensures

pub certified-requires : goal.certified-requires
certified-requires g c = found_search c.args.model.now c.args.budget c.in_ok-stopped.stopped.search c.in_ok-stopped.stopped.unfinished c.in_ok-stopped.ensures.searches
