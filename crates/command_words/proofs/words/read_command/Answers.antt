use Rattle.std.proofs.Common.{rules}
use Rattle.command_words.specs.Words.{command}
use Rattle.command_words.proofs.words.read_command.Goals as goal

pub returns-in-Some-clause-exact : goal.returns-in-Some-clause-exact
unfolding command
returns-in-Some-clause-exact c = search rules

pub returns-in-None-clause-exact : goal.returns-in-None-clause-exact
unfolding command
returns-in-None-clause-exact c = search rules
