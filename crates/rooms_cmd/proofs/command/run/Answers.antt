use Rattle.rooms_cmd.proofs.QuietLaws.{quiet, accepted, demo, demo_enough, enough, legal, illegal, valid, put}
use Rattle.rooms_cmd.proofs.command.run.Goals as goal

pub returns-clause-quiet : goal.returns-clause-quiet
returns-clause-quiet g c = quiet _ _ _ _ _ c.respond.ensures.ends

pub returns-clause-accepted : goal.returns-clause-accepted
returns-clause-accepted g c = accepted _ _ _ _ _ c.respond.ensures.ends

pub returns-clause-enough : goal.returns-clause-enough
returns-clause-enough g c = enough _ _ _ _ _ c.respond.ensures.ends

pub returns-clause-legal : goal.returns-clause-legal
returns-clause-legal g c = legal _ _ _ _ _ c.respond.ensures.ends

pub returns-clause-illegal : goal.returns-clause-illegal
returns-clause-illegal g c = illegal _ _ _ _ _ c.respond.ensures.ends

pub returns-clause-put : goal.returns-clause-put
returns-clause-put g c = put _ _ _ _ _ c.respond.ensures.ends

pub returns-clause-valid : goal.returns-clause-valid
returns-clause-valid g c = valid _ _ _ _ _ c.text_laws.ensures.read c.certificate_laws.ensures.faultless c.respond.ensures.ends

pub returns-clause-demo : goal.returns-clause-demo
returns-clause-demo g c = demo _ _ _ _ _ c.respond.ensures.ends

pub returns-clause-demo_enough : goal.returns-clause-demo_enough
returns-clause-demo_enough g c = demo_enough _ _ _ _ _ c.respond.ensures.ends
