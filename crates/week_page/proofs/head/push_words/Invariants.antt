use Rattle.std.proofs.Common.{◌≡◌, ◌++◌, drop}
use Rattle.std.specs.List.{flat_map}
use Rattle.std.specs.Prelude.{codes}
use Rattle.week_page.specs.Escaped.{escaped}
use Rattle.week_page.proofs.head.push_words.Given as goal

abbrev pub invariant-loop-word : goal.invariant-loop-word
invariant-loop-word l = l.text.items ++ flat_map (λ word. codes " " ++ escaped word) (drop l.word-index l.words) ≡ l.fn.text.items ++ flat_map (λ word. codes " " ++ escaped word) l.words
