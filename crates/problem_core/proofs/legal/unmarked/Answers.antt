use Rattle.std.proofs.Common.{false}
use Rattle.std.proofs.lemmas.List.{get_or-replicate}
use Rattle.problem_core.proofs.legal.unmarked.Goals as goal

pub returns : goal.returns
returns c k d l = get_or-replicate 134400 k false d l
