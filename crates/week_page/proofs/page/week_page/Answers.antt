use Rattle.std.proofs.Common.{◌∙◌, ap, subst, List}
use Rattle.std.proofs.lemmas.Result.{IfOk-weaker}
use Rattle.timed_solution.specs.declared.times.Meeting.{Meeting}
use Rattle.week_page.specs.Cells.{without_room, AreGroups}
use Rattle.week_page.specs.declared.groups.Grouping.TheVariants.{ByCell, ByCourse}
use Rattle.week_page.proofs.PageLemmas.{page_is}
use Rattle.week_page.proofs.page.week_page.Goals as goal

pub returns : goal.returns
returns c =
    let t = c.in_ok-tables.tables in
    let same = c.as_slice.ensures in
    let is = page_is c.args.i.now c.args.times.now.meetings t c.requires.instance c.requires.times.each
    (subst (λ (xs : List Meeting). AreGroups ByCell xs t.cells.items) same c.in_ok-tables.ensures.cells)
    (subst (λ (xs : List Meeting). AreGroups ByCourse xs t.courses.items) same c.in_ok-tables.ensures.courses)
    (c.in_ok-tables.ensures.unroomed ∙ ap without_room same) in
    IfOk-weaker c.print_tables.result _ _ (λ v h. h ∙ is) c.print_tables.ensures
