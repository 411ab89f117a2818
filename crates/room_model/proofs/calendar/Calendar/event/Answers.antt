use Rattle.std.proofs.Common.{◌∙◌, ap}
use Rattle.timed_solution.specs.Times.{is_meeting}
use Rattle.room_model.specs.Calendar.{Planned}
use Rattle.room_model.proofs.TableLemmas.{length-read}
use Rattle.room_model.proofs.calendar.Calendar.event.Goals as goal

pub returns-clause-some : goal.returns-clause-some
returns-clause-some c =
    (length-read c.self.inside.instance.now c.self.inside.measures.now c.self.inside.lengths.items c.args.meeting c.index.result.now c.self.invariant (ap (λ (p : Planned). is_meeting p.instance c.args.meeting) c.self.view_is ∙ c.requires) c.index.ensures).some

pub returns-clause-short : goal.returns-clause-short
returns-clause-short c =
    (length-read c.self.inside.instance.now c.self.inside.measures.now c.self.inside.lengths.items c.args.meeting c.index.result.now c.self.invariant (ap (λ (p : Planned). is_meeting p.instance c.args.meeting) c.self.view_is ∙ c.requires) c.index.ensures).short
