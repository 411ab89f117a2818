use Rattle.worked_search.proofs.solved.judge_exact_certificate.Given as goal

abbrev pub ghosts-verdict : goal.ghosts-verdict
ghosts-verdict g a = record { name = a.blank.name; parts = a.blank.parts }
