use Rattle.std.proofs.Common.{◌≡◌, ◌≤◌, length, get_or, arith, sym, ◌∙◌, ap, subst}
use Rattle.std.proofs.lemmas.List.{get_or_default}
use Rattle.ctt_reader.specs.declared.instance.Course.{Course}
use Rattle.ctt_reader.specs.Naming.{no_course}
use Rattle.itc_score.proofs.LineLemmas.{course-small, fit-is}
use Rattle.itc_score.proofs.sums.over_in_line.Goals as goal

pub returns-clause-small : goal.returns-clause-small
returns-clause-small c =
    let courses = c.args.i.now.courses in
    let k = c.args.line.course in
    let f = fit-is (length courses) (length c.args.i.now.rooms) c.args.line c.requires.line in
    let here : get_or c.as_slice.result.now k c.index-as_slice-line.result ≡ get_or courses k no_course = ap (λ cs. get_or cs k c.index-as_slice-line.result) c.as_slice.ensures ∙ get_or_default courses k c.index-as_slice-line.result no_course f.course in
    let small : (get_or c.as_slice.result.now k c.index-as_slice-line.result).students ≤ 1000000 = subst (λ (x : Course). x.students ≤ 1000000) (sym here) (course-small courses k f.course c.requires.instance.courses).students in
    omega (arith, c.saturating_sub.ensures, small)
