use Rattle.std.proofs.Common.{◌≡◌, ◌∙◌, sym, Some, None}
use Rattle.std.proofs.lemmas.Result.{IfOk-weaker}
use Rattle.clap.specs.Words.{first_value, found_of}
use Rattle.command_words.proofs.ArgumentLaws.{text_given, text_none}
use Rattle.command_words.proofs.arguments.text_in.Goals as goal

pub returns-in-Some : goal.returns-in-Some
returns-in-Some c =
    let f = found_of c.args.matches.now in
    let given : first_value f c.args.id.now ≡ Some c.in-Some.word.now = sym c.in-Some.ensures in
    IfOk-weaker c.from_str.result _ _ (λ t h. h ∙ text_given f c.args.id.now c.in-Some.word.now given) c.from_str.ensures

pub returns-in-None : goal.returns-in-None
returns-in-None c =
    let f = found_of c.args.matches.now in
    let none : first_value f c.args.id.now ≡ None = sym c.in-None.ensures in
    IfOk-weaker c.from_str-in-None.result _ _ (λ t h. h ∙ text_none f c.args.id.now none) c.from_str-in-None.ensures
