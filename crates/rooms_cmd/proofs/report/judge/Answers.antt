use Rattle.std.proofs.Common.{sym, subst}
use Rattle.problem_core.specs.Choice.{IsChoice, IsLegal}
use Rattle.room_model.specs.ProblemOf.{problem_of, given_rooms}
use Rattle.room_model.proofs.GivenLemmas.{given_choice_of}
use Rattle.tool_core.proofs.FaultLaws.{room_fault_known}
use Rattle.rooms_cmd.proofs.report.judge.Goals as goal

pub first_fault-requires : goal.first_fault-requires
first_fault-requires c =
    let i = c.args.inputs.now in
    let choice = given_choice_of i.instance i.times i.measures c.requires.times in
    subst (λ p. IsChoice p c.in_ok-choice.choice.entries) (sym c.requires.same) (subst (λ a. IsChoice (problem_of i.instance i.times i.measures) a) (sym c.in_ok-choice.ensures) choice)

pub report_on-requires-clause-legal : goal.report_on-requires-clause-legal
report_on-requires-clause-legal c = c.first_fault.ensures.none.0 c.in-None.is

pub returns-in-None : goal.returns-in-None
returns-in-None c =
    let i = c.args.inputs.now in
    let legal = c.first_fault.ensures.none.0 c.in-None.is in
    record {
      legal = subst (λ p. IsLegal p (given_rooms i.times)) c.requires.same (subst (λ a. IsLegal i.problem a) c.in_ok-choice.ensures legal);
      is = c.in_ok-report_on-in-None.ensures;
    }

pub room_fault-requires-clause-known : goal.room_fault-requires-clause-known
room_fault-requires-clause-known c =
    let i = c.args.inputs.now in
    room_fault_known i.instance i.times i.measures c.in_ok-choice.choice.entries i.problem c.first_fault.result c.in-Some.fault c.requires.same c.first_fault.ensures.fault c.in-Some.is
