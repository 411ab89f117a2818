-- The exit status of a run, over the words that it was given.
use Rattle.std.proofs.Common.{ℕ, ◌≡◌, subst, List}
use Rattle.std.specs.Prelude.{String}
use Rattle.std.specs.declared.alloc.Global.{Global}
use Rattle.run_core.specs.Expected.{words_of}
use Rattle.run_core.specs.Outside.{Shelved, Printed}
use Rattle.command_words.specs.Words.{command}
use Rattle.rooms_cmd.specs.Work.{Work}
use Rattle.rooms_cmd.specs.Exits.{IsExit}

pub exit_of : (s : Shelved) (p : Printed) (w : Work) (given words : List (String Global)) (number : ℕ) → given ≡ words → IsExit s p w (command (words_of given)) number → IsExit s p w (command (words_of words)) number
exit_of s p w given words number same h = subst (λ ws. IsExit s p w (command (words_of ws)) number) same h
