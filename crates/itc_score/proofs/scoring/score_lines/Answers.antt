use Rattle.std.proofs.Common.{◌≡◌, ◌-◌, length, get_or, arith, ◌∙◌, ap}
use Rattle.ctt_reader.specs.Naming.{no_course}
use Rattle.itc_score.specs.Sums.{sum_below}
use Rattle.itc_score.specs.Score.{course, missing_lectures}
use Rattle.itc_score.proofs.LineLemmas.{missing-is, fits-more}
use Rattle.itc_score.proofs.TableLemmas.{score-is}
use Rattle.itc_score.proofs.scoring.score_lines.Goals as goal

total : (c : goal.After-lectures) → c.lectures.result ≡ sum_below (λ k. (course c.args.i.now k).lectures) (length c.args.i.now.courses)
total c = c.lectures.ensures ∙ ap (λ cs. sum_below (λ k. (get_or cs k no_course).lectures) (length cs)) c.as_slice-courses.ensures

pub overflow_sub-result : goal.overflow_sub-result
overflow_sub-result c =
    let missing = missing-is c.args.i.now (length c.args.i.now.rooms) c.args.lines.now c.requires.lines c.requires.times in
    omega (arith, total c, missing)

pub occupancy-requires-clause-lines : goal.occupancy-requires-clause-lines
occupancy-requires-clause-lines c = rw (c.len.ensures) (fits-more (length c.args.i.now.courses) (length c.args.i.now.rooms) 1000 (length c.args.i.now.rooms) c.args.lines.now c.requires.instance.few_courses (omega arith) c.requires.lines)

pub returns-clause-counts : goal.returns-clause-counts
returns-clause-counts c =
    let i = c.args.i.now in
    let lines = c.args.lines.now in
    let missing = missing-is i (length i.rooms) lines c.requires.lines c.requires.times in
    let all : c.lectures.result ≡ sum_below (λ k. (course i k).lectures) (length i.courses) = c.lectures.ensures ∙ ap (λ cs. sum_below (λ k. (get_or cs k no_course).lectures) (length cs)) c.as_slice-courses.ensures in
    let less : c.lectures.result - length lines ≡ sum_below (missing_lectures i lines) (length i.courses) = omega (arith, all, missing) in
    score-is i lines _ _ _ _ _ _ _ _ _ less c.unroomed.ensures c.in_ok-occupancy.ensures c.in_ok-conflicts.ensures c.in_ok-availability.ensures c.over_capacity.ensures.value c.in_ok-working_days.ensures.value c.in_ok-compactness.ensures.value c.in_ok-stability.ensures.value
