use Rattle.std.proofs.Common.{◌+◌, ◌*◌, ◌∙◌, ap, false, length, get_or}
use Rattle.itc_score.specs.Places.{place_of}
use Rattle.itc_score.proofs.LineLemmas.{fit-is, place-small, constraints-known, unavailable-is}
use Rattle.itc_score.proofs.sums.is_unavailable.Goals as goal

pub returns : goal.returns
returns c =
    let i = c.args.i.now in
    let m = c.args.line in
    let f = fit-is (length i.courses) (length i.rooms) m c.requires.line in
    ap (λ p. get_or c.args.closed.now (m.course * 700 + p) false) c.place.ensures
    ∙ c.requires.closed.cell m.course (place_of m) false f.course (place-small m.day m.period f.day f.period)
    ∙ unavailable-is i m (constraints-known i c.requires.instance) f.period
