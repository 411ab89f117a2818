use Rattle.rooms_cmd.specs.Steps.{FileExplains, IsTold}
use Rattle.rooms_cmd.proofs.AnswerLaws.{answer_weaker}
use Rattle.rooms_cmd.proofs.CheckLaws.{verdict_of_file, small_verdict}
use Rattle.rooms_cmd.proofs.check.check_file.Goals as goal

pub told-requires : goal.told-requires
told-requires g c = let m = c.in-Ok.ensures.verdict in small_verdict c.args.model.now m.bytes c.in-Ok.verdict m.means

pub returns-in-Ok-clause-answers : goal.returns-in-Ok-clause-answers
returns-in-Ok-clause-answers g c =
    answer_weaker (IsTold c.in-Ok.verdict)
    (FileExplains (g.S.Shelf.tells c.args.shelf.now) (g.S.Shelf.held c.args.shelf.now c.args.certificate.now) (g.S.Shelf.piece_faults c.args.shelf.now) (g.S.Shelf.piece_faults c.check_file.new.shelf) c.args.model.now c.args.certificate.now) c.told.result
    (verdict_of_file _ _ _ _ _ _ c.in-Ok.verdict c.in-Ok.ensures.verdict) c.told.ensures
