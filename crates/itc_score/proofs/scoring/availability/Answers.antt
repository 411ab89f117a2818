use Rattle.itc_score.proofs.LineLemmas.{constraints-known, constraint-known}
use Rattle.itc_score.proofs.scoring.availability.Goals as goal

pub closed_places-requires : goal.closed_places-requires
closed_places-requires c = rw (c.as_slice.ensures) (constraints-known c.args.i.now c.requires.instance)

pub marked-requires-clause-known : goal.marked-requires-clause-known
marked-requires-clause-known c = rw (c.as_slice-2.ensures.value, c.in_ok-pairs.ensures, c.as_slice.ensures, c.len.ensures) (constraint-known c.args.i.now c.requires.instance)
