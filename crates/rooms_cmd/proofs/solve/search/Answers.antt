use Rattle.std.proofs.lemmas.Result.{IfOk-weaker}
use Rattle.rooms_cmd.proofs.SolveLaws.{are_printable}
use Rattle.rooms_cmd.proofs.solve.search.Goals as goal

pub draft_of-requires : goal.draft_of-requires
draft_of-requires g c =
    let l = c.args.loaded.now in
    are_printable l.instance l.times l.measures l.model c.args.budget _ _ _ c.in-Ok.solved c.requires.times c.requires.model c.in-Ok.ensures

pub returns-in-Ok : goal.returns-in-Ok
returns-in-Ok g c = IfOk-weaker c.draft_of.result _ _ (λ d h. record { solved = c.in-Ok.solved; solves = c.in-Ok.ensures; draft = h }) c.draft_of.ensures
