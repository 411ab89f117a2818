use Rattle.std.proofs.Common.{◌≡◌, ◌∙◌, sym, subst, arith, length}
use Rattle.std.proofs.lemmas.List.{length-map}
use Rattle.problem_core.specs.Courses.{IsCourseTable}
use Rattle.problem_core.specs.OfParts.{facts_of, event_of}
use Rattle.problem_core.proofs.KeptLemmas.{AreFit-well_formed, few_of_course, limit-course}
use Rattle.problem_core.proofs.tables.problem_tables.Goals as goal

pub course_table-requires-clause-known : goal.course_table-requires-clause-known
course_table-requires-clause-known c = (AreFit-well_formed c.args.parts.now c.requires).events

pub admitted-requires : goal.admitted-requires
admitted-requires c = AreFit-well_formed c.args.parts.now c.requires

pub closed-requires : goal.closed-requires
closed-requires c = AreFit-well_formed c.args.parts.now c.requires

pub points-requires : goal.points-requires
points-requires c = AreFit-well_formed c.args.parts.now c.requires

pub returns : goal.returns
returns c =
    let p = c.args.parts.now in
    let all : length p.events ≡ length (facts_of p).events = sym (length-map p.events event_of) in
    let t = c.in_ok-courses.courses in (
      record {
        fit = AreFit-well_formed p c.requires;
        few_events = omega (arith, c.if-count-gt4000.false);
        few_of_course = few_of_course p (sym c.course_limit.ensures ∙ c.in-None.is);
      },
      record {
        courses = subst (λ n. IsCourseTable (facts_of p) n t.sizes.items t.order.items t.places.items) all c.in_ok-courses.ensures;
        admitted_is = c.in_ok-admitted.ensures;
        closed_is = c.in_ok-closed.ensures;
        points_are = c.in_ok-points.ensures;
      },
      sym (limit-course (facts_of p) (length p.events) all (omega (arith, c.if-count-gt4000.false))) ∙ sym c.course_limit.ensures ∙ c.in-None.is,
    )
