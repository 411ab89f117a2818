use Rattle.worked_search.proofs.bounds.judge_refused.Given as goal

abbrev pub ghosts-known_at : goal.ghosts-known_at
ghosts-known_at g a = record { name = a.blank.name; parts = a.blank.parts }
