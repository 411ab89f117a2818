use Rattle.std.proofs.Common.{ap, ◌∙◌}
use Rattle.std.specs.Prelude.{Ok, length}
use Rattle.std.specs.List.{list_all}
use Rattle.timed_solution.specs.Writing.{is_entry, with_rooms}
use Rattle.demo_files.proofs.GivenLemmas.{given_known, given_count, given_again}
use Rattle.demo_files.proofs.texts.write_with.Goals as goal

pub write_solution-requires-clause-one_each : goal.write_solution-requires-clause-one_each
write_solution-requires-clause-one_each c = ap length c.requires.rooms ∙ given_count c.args.times.now

pub write_solution-requires-clause-known : goal.write_solution-requires-clause-known
write_solution-requires-clause-known c = ap (list_all (is_entry c.args.instance.now)) c.requires.rooms ∙ given_known c.args.instance.now c.args.times.now c.requires.times.each

pub returns-in-Ok : goal.returns-in-Ok
returns-in-Ok c = c.in-Ok.ensures.read_back ∙ ap Ok (ap (with_rooms c.args.times.now.meetings) c.requires.rooms ∙ given_again c.args.times.now)
