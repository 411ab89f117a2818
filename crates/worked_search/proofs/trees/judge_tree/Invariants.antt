use Rattle.worked_search.proofs.trees.judge_tree.Given as goal

abbrev pub ghosts-grown : goal.ghosts-grown
ghosts-grown g a = record { name = a.blank.name; parts = a.blank.parts }
