use Rattle.std.proofs.Common.{◌∙◌, ◌<◌, ap, sym, subst}
use Rattle.std.specs.Prelude.{◌==◌}
use Rattle.std.specs.List.{All}
use Rattle.timed_solution.specs.declared.times.Meeting.{Meeting}
use Rattle.week_page.specs.Cells.{are_known, group_of}
use Rattle.week_page.specs.declared.groups.Grouping.TheVariants.{ByCell, ByCourse}
use Rattle.week_page.proofs.TableLemmas.{cells_below, courses_below, filter_known, groups_known}
use Rattle.week_page.proofs.tables.tables_of.Goals as goal

pub grouped-requires : goal.grouped-requires
grouped-requires c = cells_below c.args.i.now c.args.lines.now c.requires.instance c.requires.lines.each

pub grouped-requires-2 : goal.grouped-requires-2
grouped-requires-2 c = subst (λ n. All (λ (x : Meeting). group_of ByCourse x < n) c.args.lines.now) (sym c.len.ensures) (courses_below c.args.i.now c.args.lines.now c.requires.lines.each)

pub returns-clause-printable : goal.returns-clause-printable
returns-clause-printable c =
    let i = c.args.i.now in
    let lines = c.args.lines.now in
    let each = c.requires.lines.each in
    record {
      cells = c.in_ok-grouped.ensures.whole;
      courses = c.in_ok-grouped-2.ensures.whole ∙ c.len.ensures;
      texts = c.in_ok-course_texts.ensures;
      known_in_cells = groups_known i ByCell lines c.in_ok-grouped.field-0.items each c.in_ok-grouped.ensures.grouped;
      known_of_courses = groups_known i ByCourse lines c.in_ok-grouped-2.field-0.items each c.in_ok-grouped-2.ensures.grouped;
      known_without = ap (are_known i) c.in_ok-without_room.ensures ∙ filter_known i lines (λ x. x.room == 0) each;
    }
