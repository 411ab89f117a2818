-- Why the arguments of a program were not taken, by the kind of the error.
use Rattle.std.specs.declared.io.ErrorKind.{ErrorKind}
use Rattle.std.specs.declared.io.ErrorKind.TheVariants.{OutOfMemory}
use Rattle.run_core.specs.declared.exit.NoWords.{NoWords}
use Rattle.run_core.specs.declared.exit.NoWords.TheVariants as no_words

-- want of memory, or else an argument that is no text
abbrev pub cause_of : ErrorKind → NoWords
cause_of OutOfMemory = no_words.Memory
cause_of kind = no_words.NotTexts
