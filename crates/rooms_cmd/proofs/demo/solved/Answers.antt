use Rattle.rooms_cmd.specs.Demonstrating.{DemoExplains}
use Rattle.rooms_cmd.specs.Steps.{IsSummary}
use Rattle.rooms_cmd.specs.Work.{work}
use Rattle.rooms_cmd.proofs.AnswerLaws.{answer_weaker}
use Rattle.rooms_cmd.proofs.DemoLaws.{are_verifiable, demo_answer}
use Rattle.rooms_cmd.proofs.demo.solved.Goals as goal

pub told-requires : goal.told-requires
told-requires g c = are_verifiable c.args.loaded.now.model c.args.budget _ _ _ c.in-Ok.solved c.in-Ok.ensures

pub returns-in-Ok : goal.returns-in-Ok
returns-in-Ok g c =
    let w = work g.A.Arith.wides c.args.arith.now c.solve_levels.new.arith c.args.steps.now c.solve_levels.new.steps in
    let l = c.args.loaded.now in
    answer_weaker (IsSummary c.args.courses l.instance l.times l.model c.in-Ok.solved) (DemoExplains w c.args.courses c.args.budget) c.told.result
    (λ text status h. demo_answer w c.args.courses c.args.budget l.instance l.times l.model c.in-Ok.solved text status c.requires.instance c.requires.times c.requires.model c.in-Ok.ensures h) c.told.ensures
