use Rattle.std.proofs.Common.{◌≡◌, length, rules}
use Rattle.std.proofs.lemmas.Result.{IfOk-weaker, IfErr-weaker}
use Rattle.run_core.specs.Outside.{shelved}
use Rattle.itc_score.proofs.RunLaws.{asked, names_explained, names_stopping}
use Rattle.itc_score.proofs.command.decide.Goals as goal

pub returns-clause-answers : goal.returns-clause-answers
returns-clause-answers g c =
    let s = shelved g.S.Shelf.tells g.S.Shelf.held g.S.Shelf.piece_faults g.S.Shelf.put_faults c.args.shelf.now c.score_files.new.shelf in
    let two : length c.args.words.now ≡ 2 = search rules in
    let are = asked c.args.words.now c.index-words-0.result c.index-words-1.result c.as_str.result.now c.as_str-2.result.now two c.index-words-0.is c.as_str.ensures.value c.index-words-1.is c.as_str-2.ensures.value in
    IfOk-weaker c.score_files.result _ _ (λ a h. names_explained s c.args.words.now c.as_str.result.now c.as_str-2.result.now a.text.items a.status are h) c.score_files.ensures.answers

pub returns-clause-stops : goal.returns-clause-stops
returns-clause-stops g c =
    let s = shelved g.S.Shelf.tells g.S.Shelf.held g.S.Shelf.piece_faults g.S.Shelf.put_faults c.args.shelf.now c.score_files.new.shelf in
    let two : length c.args.words.now ≡ 2 = search rules in
    let are = asked c.args.words.now c.index-words-0.result c.index-words-1.result c.as_str.result.now c.as_str-2.result.now two c.index-words-0.is c.as_str.ensures.value c.index-words-1.is c.as_str-2.ensures.value in
    IfErr-weaker c.score_files.result _ _ (λ stop h. names_stopping s c.args.words.now c.as_str.result.now c.as_str-2.result.now stop are h) c.score_files.ensures.stops
