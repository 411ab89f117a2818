use Rattle.week_page.proofs.MarkLemmas.{names_have_no_marks, names_add_no_marks}
use Rattle.week_page.proofs.laws.page_laws.Goals as goal

pub returns-clause-names : goal.returns-clause-names
returns-clause-names c = names_have_no_marks

pub returns-clause-pages : goal.returns-clause-pages
returns-clause-pages c = names_add_no_marks
