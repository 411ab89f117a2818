use Rattle.std.proofs.Common.{◌≡◌, ◌∙◌, ap, sym, Some, None, codes, false}
use Rattle.std.specs.Option.{option_map_or}
use Rattle.clap.specs.Words.{first_value, found_of}
use Rattle.clap.proofs.WalkLemmas.{first_value-rows}
use Rattle.command_words.specs.Words.{is_word}
use Rattle.command_words.proofs.arguments.json_in.Goals as goal

pub returns-in-Some : goal.returns-in-Some
returns-in-Some c =
    let f = found_of c.args.matches.now in
    let given : first_value f (codes "json") ≡ Some c.in-Some.word.now = sym c.in-Some.ensures in
    c.eq.ensures ∙ ap (λ o. option_map_or (λ word. is_word word (codes "true")) o false) (sym given ∙ first_value-rows f (codes "json"))

pub returns-in-None : goal.returns-in-None
returns-in-None c =
    let f = found_of c.args.matches.now in
    let none : first_value f (codes "json") ≡ None = sym c.in-None.ensures in
    ap (λ o. option_map_or (λ word. is_word word (codes "true")) o false) (sym none ∙ first_value-rows f (codes "json"))
