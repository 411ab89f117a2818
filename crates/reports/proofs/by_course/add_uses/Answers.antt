use Rattle.std.proofs.Common.{◌∙◌, ◌++◌, refl, length, []}
use Rattle.std.specs.Prelude.{nat_lt, slice_index_or}
use Rattle.reports.specs.Rooms.{if_used}
use Rattle.reports.specs.Groups.{count_of}
use Rattle.reports.specs.declared.session.Session.{Session}
use Rattle.reports.proofs.RoomLaws.{each_use-step, clear-step, all-drop_next}
use Rattle.reports.proofs.by_course.add_uses.Goals as goal

pub loop-session-preserved : goal.loop-session-preserved
loop-session-preserved c =
    let n = length c.args.counts.now in
    let k = c.loop-session.session-index in
    let done = c.in_ok-add_use.ensures in
    record {
      whole = done.whole ∙ c.loop-session.invariant.whole;
      counts_whole = done.counts_whole ∙ c.loop-session.invariant.counts_whole;
      known = all-drop_next (λ (x : Session). nat_lt x.course n) c.args.sessions.now k c.loop-session.invariant.known;
      each = each_use-step n c.args.room _ c.loop-session.uses.items c.add_use.new.uses.items c.loop-session.counts c.add_use.new.counts
          (λ d. slice_index_or c.args.uses.now.items d [] ++ if_used c.args.room (count_of d c.args.sessions.now)) c.loop-session.invariant.each done.here done.others done.clear done.other_counts;
      clear = clear-step n _ k c.loop-session.counts c.add_use.new.counts c.args.sessions.now _ c.loop-session-test.true refl c.loop-session.invariant.clear done.clear done.other_counts;
    }
