use Rattle.problem_core.proofs.FirstChoiceLemmas.{IsLegal-first_choice, IsBest-first_choice}
use Rattle.problem_core.proofs.greedy.first_choice_laws.Goals as goal

pub returns : goal.returns
returns c = record { legal = IsLegal-first_choice; best = IsBest-first_choice }
