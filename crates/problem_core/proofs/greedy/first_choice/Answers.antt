use Rattle.std.proofs.Common.{ℕ, ◌+◌, ◌∙◌, ap, arith, length}
use Rattle.std.proofs.lemmas.List.{length_push}
use Rattle.problem_core.proofs.FirstChoiceLemmas.{IsLegal-first_choice}
use Rattle.problem_core.proofs.TakenLemmas.{more_lowest}
use Rattle.problem_core.proofs.greedy.first_choice.Goals as goal

pub loop-event-preserved : goal.loop-event-preserved
loop-event-preserved c =
    let old = c.loop-event.entries in
    let inv = c.loop-event.invariant in
    record {
      one_each = ap (length {A = ℕ}) c.in_ok-push.ensures.ok ∙ length_push old c.lowest_room-entry.result ∙ ap (λ n. n + 1) inv.one_each;
      lowest = more_lowest c.args.p.now old c.push.new.self c.loop-event.event c.lowest_room-entry.result inv.one_each c.in_ok-push.ensures.ok
          (c.lowest_room-entry.ensures.lowest old inv.taken) inv.lowest;
      whole = c.take_room.ensures.whole ∙ inv.whole;
      taken = c.take_room.ensures.taken old c.push.new.self inv.taken c.in_ok-push.ensures.ok inv.one_each;
    }

pub returns-clause-legal : goal.returns-clause-legal
returns-clause-legal c = IsLegal-first_choice c.args.p.now c.loop-event.entries
    (record { one_each = omega arith; lowest = λ e l. c.loop-event.invariant.lowest e (omega arith) })
