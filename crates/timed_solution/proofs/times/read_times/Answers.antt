use Rattle.timed_solution.proofs.TimesLemmas.{times_of-ok}
use Rattle.timed_solution.proofs.times.read_times.Goals as goal

pub returns-clause-promised : goal.returns-clause-promised
returns-clause-promised c = times_of-ok c.args.i.now c.args.bytes.now c.in_ok-meetings.meetings c.in_ok-meetings.ensures
