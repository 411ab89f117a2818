use Rattle.std.proofs.Common.{ℕ, List, ◌≡◌, ◌<◌, ◌+◌, ◌-◌, ◌∙◌, sym, ap, arith, length, get_or}
use Rattle.std.specs.Prelude.{nat_lt}
use Rattle.std.proofs.lemmas.List.{get_or_read, length-map}
use Rattle.std.proofs.lemmas.Bool.{lt-ltb, le-ltb}
use Rattle.numbers.specs.Below.{first_from, first_from_no, first_from_yes}
use Rattle.problem_core.specs.Courses.{meetings_of, passing, is_of_course, IsCourseTable}
use Rattle.problem_core.specs.OfParts.{facts_of, event_of}
use Rattle.problem_core.specs.declared.parts.Parts.{Parts}
use Rattle.problem_core.specs.Limits.{course_limit, crowded_course}
use Rattle.problem_core.proofs.KeptLemmas.{limit-at, limit-none}
use Rattle.problem_core.proofs.over.course_limit.Goals as goal

-- what the table says a course has
size_is : (p : Parts) (sizes order places : List ℕ) (course count : ℕ) → IsCourseTable (facts_of p) (length p.events) sizes order places → course < length p.students → count ≡ get_or sizes course count
    → count ≡ meetings_of (facts_of p) course
size_is p sizes order places course count table l h =
    get_or_read sizes course count (omega (arith, table.all_sizes)) h 0
    ∙ table.sizes_are course l
    ∙ ap (λ n. length (passing (is_of_course (facts_of p) course) n)) (sym (length-map p.events event_of))

pub returns-then-count-gt12 : goal.returns-then-count-gt12
returns-then-count-gt12 c =
    let p = facts_of c.args.parts.now in
    let t = c.args.table.now in
    let there : c.loop-course.course < length p.students = omega (arith, c.loop-course-test.true, c.len-course-end.ensures) in
    let size = size_is c.args.parts.now t.sizes.items t.order.items t.places.items c.loop-course.course c.index-count.result.now c.requires there c.index-count.ensures in
    let found : crowded_course p ≡ c.loop-course.course + 1 = c.loop-course.invariant ∙ first_from_yes (λ x. nat_lt 12 (meetings_of p x)) c.loop-course.course (length p.students) there (lt-ltb 12 _ (omega (arith, c.if-count-gt12.true, size))) in
    limit-at p c.loop-course.course c.from.result (omega (arith, c.from.ensures, size)) ∙ ap (course_limit p) (sym found)

pub loop-course-preserved : goal.loop-course-preserved
loop-course-preserved c =
    let p = facts_of c.args.parts.now in
    let t = c.args.table.now in
    let there : c.loop-course.course < length p.students = omega (arith, c.loop-course-test.true, c.len-course-end.ensures) in
    let size = size_is c.args.parts.now t.sizes.items t.order.items t.places.items c.loop-course.course c.index-count.result.now c.requires there c.index-count.ensures in
    c.loop-course.invariant ∙ first_from_no (λ x. nat_lt 12 (meetings_of p x)) c.loop-course.course (length p.students) there (le-ltb 12 _ (omega (arith, c.if-count-gt12.false, size)))

pub returns : goal.returns
returns c =
    let p = facts_of c.args.parts.now in
    let over : length p.students - c.loop-course.course ≡ 0 = omega (arith, c.loop-course-test.false, c.len-course-end.ensures) in
    limit-none p (crowded_course p) (c.loop-course.invariant ∙ ap (first_from (λ x. nat_lt 12 (meetings_of p x)) c.loop-course.course) over)
