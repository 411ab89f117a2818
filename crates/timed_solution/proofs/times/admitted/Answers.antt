use Rattle.timed_solution.proofs.TimesLemmas.{admitted-is, admitted-over}
use Rattle.std.proofs.Common.{◌∙◌, sym}
use Rattle.timed_solution.proofs.times.admitted.Goals as goal

pub returns : goal.returns
returns c =
    admitted-is c.args.i.now c.args.placed.now.meetings c.args.meeting c.as_slice.result.now c.index-as_slice-meeting.result c.held.result c.as_slice.ensures c.requires.known
    (sym c.is_taken.ensures ∙ c.if-is_taken.false) c.held.ensures c.if-held-limit.false

pub returns-then-held-limit : goal.returns-then-held-limit
returns-then-held-limit c =
    admitted-over c.args.i.now c.args.placed.now.meetings c.args.meeting c.as_slice.result.now c.index-as_slice-meeting.result c.held.result c.as_slice.ensures c.requires.known
    (sym c.is_taken.ensures ∙ c.if-is_taken.false) c.held.ensures c.if-held-limit.true
