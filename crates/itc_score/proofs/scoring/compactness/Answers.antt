use Rattle.std.proofs.Common.{◌*◌, length, ◌∙◌, ap}
use Rattle.itc_score.proofs.LineLemmas.{courses-placed, fits-more, all-alone}
use Rattle.itc_score.proofs.scoring.compactness.Goals as goal

pub course_places-requires : goal.course_places-requires
course_places-requires c = fits-more (length c.args.i.now.courses) (length c.args.i.now.rooms) 1000 200 c.args.lines.now c.requires.instance.few_courses c.requires.instance.few_rooms c.requires.lines

pub marked-requires-clause-known : goal.marked-requires-clause-known
marked-requires-clause-known c = rw (c.as_slice.ensures.value, c.in_ok-pairs.ensures, c.len.ensures) (courses-placed (length c.args.i.now.courses) (length c.args.i.now.rooms) c.args.lines.now c.requires.lines)

pub returns-clause-value : goal.returns-clause-value
returns-clause-value c = ap (λ n. 2 * n) (c.in_ok-alone.ensures.value ∙ rw (c.len-2.ensures, c.as_slice-2.ensures, c.deref.ensures.value)
    (all-alone c.args.i.now.curricula c.in_ok-held.held.items (length c.args.i.now.courses) (length c.args.i.now.rooms) c.len.result c.args.lines.now c.as_slice.result.now c.len.ensures (c.as_slice.ensures.value ∙ c.in_ok-pairs.ensures) c.requires.lines c.requires.apart c.in_ok-held.ensures))
