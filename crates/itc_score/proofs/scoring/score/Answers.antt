use Rattle.std.proofs.Common.{length}
use Rattle.itc_score.proofs.LineLemmas.{lines-fit, lines-few}
use Rattle.itc_score.proofs.scoring.score.Goals as goal

pub score_lines-requires-clause-lines : goal.score_lines-requires-clause-lines
score_lines-requires-clause-lines c = rw (c.as_slice.ensures) (lines-fit c.args.i.now c.args.t.now.meetings c.requires.instance c.requires.times.each)

pub score_lines-requires-clause-few : goal.score_lines-requires-clause-few
score_lines-requires-clause-few c = rw (c.as_slice.ensures) (lines-few c.args.i.now (length c.args.i.now.rooms) c.args.t.now.meetings c.requires.instance (lines-fit c.args.i.now c.args.t.now.meetings c.requires.instance c.requires.times.each) c.requires.times)
