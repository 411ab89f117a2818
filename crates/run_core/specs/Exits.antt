-- The exit status of a program that has no words.
use Rattle.std.specs.Prelude.{ℕ}
use Rattle.run_core.specs.declared.exit.NoWords.{NoWords}
use Rattle.run_core.specs.declared.exit.NoWords.TheVariants as no_words

abbrev pub number_without : NoWords → ℕ
number_without no_words.NotTexts = 9
number_without no_words.Memory = 7
