use Rattle.std.proofs.Common.{◌*◌, length, ◌∙◌, ap}
use Rattle.itc_score.proofs.LineLemmas.{days-known, days-are}
use Rattle.itc_score.proofs.scoring.working_days.Goals as goal

pub marked-requires-clause-known : goal.marked-requires-clause-known
marked-requires-clause-known c = rw (c.as_slice.ensures.value, c.in_ok-pairs.ensures, c.len.ensures) (days-known (length c.args.i.now.courses) (length c.args.i.now.rooms) c.args.lines.now c.requires.lines)

pub returns-clause-value : goal.returns-clause-value
returns-clause-value c = ap (λ n. 5 * n) (c.missing_days.ensures.value ∙ rw (c.as_slice-2.ensures, c.deref.ensures.value) (days-are c.args.i.now c.args.lines.now c.as_slice.result.now c.in_ok-taught.taught.items c.len.result c.requires.instance c.len.ensures (c.as_slice.ensures.value ∙ c.in_ok-pairs.ensures) c.in_ok-taught.ensures))
