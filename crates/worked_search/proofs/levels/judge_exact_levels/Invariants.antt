use Rattle.worked_search.proofs.levels.judge_exact_levels.Given as goal

abbrev pub ghosts-searched : goal.ghosts-searched
ghosts-searched g a = record { name = a.blank.name; parts = a.blank.parts }
