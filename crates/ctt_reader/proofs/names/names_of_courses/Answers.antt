use Rattle.std.proofs.Common.{◌≡◌, sym, ◌∙◌, ap}
use Rattle.ctt_reader.specs.Entries.{course_names}
use Rattle.ctt_reader.specs.Names.{with_name}
use Rattle.ctt_reader.specs.Promised.{are_different}
use Rattle.ctt_reader.specs.declared.instance.Course.{Course}
use Rattle.ctt_reader.proofs.DifferentLemmas.{names-more}
use Rattle.ctt_reader.proofs.names.names_of_courses.Goals as goal

pub loop-course-preserved : goal.loop-course-preserved
loop-course-preserved c =
    let items = c.as_slice-course-items.result.now in
    let same : items ≡ c.args.i.now.courses = c.as_slice-course-items.ensures in
    names-more (λ (x : Course). x.name) items c.loop-course.course-index c.course-item.result c.loop-course.names c.add.new.self c.loop-course-test.true c.course-item.is (ap (λ xs. are_different (course_names xs)) same ∙ c.requires)
    (c.loop-course.invariant ∙ ap course_names (sym same)) (c.in_ok-add.ensures.names ∙ ap (with_name c.loop-course.names) c.as_bytes.ensures) ∙ ap course_names same
