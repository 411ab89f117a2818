use Rattle.std.proofs.Common.{◌∙◌, arith, sym, length}
use Rattle.cert_checker.proofs.PlaceLaws.{room_for, next_place}
use Rattle.cert_checker.proofs.StandLaws.{stands_next}
use Rattle.cert_checker.proofs.progress.Progress.take.Goals as goal

pub judge-requires-clause-room : goal.judge-requires-clause-room
judge-requires-clause-room c = room_for c.args.self.now.place c.args.line c.in-Some.place _ (sym c.step.ensures ∙ c.in-Some.is) c.requires.kept.room

pub returns-in_ok-judge-in-Some-clause-stands : goal.returns-in_ok-judge-in-Some-clause-stands
returns-in_ok-judge-in-Some-clause-stands c =
    stands_next c.args.m.now c.args.self.now c.judge.new.self c.in-Some.place c.args.line c.requires.bounds c.requires.plain (sym c.step.ensures ∙ c.in-Some.is) c.in_ok-judge-in-Some.ensures

pub returns-in_ok-judge-in-Some-clause-kept : goal.returns-in_ok-judge-in-Some-clause-kept
returns-in_ok-judge-in-Some-clause-kept c = λ ok.
    let judged = c.in_ok-judge-in-Some.ensures in
    let old = c.args.self.now in
    let next = next_place old.place c.args.line c.in-Some.place old.line (length old.pool) (length c.judge.new.self.pool) (sym c.step.ensures ∙ c.in-Some.is) c.requires.bounds c.requires.kept.counted c.requires.kept.wanted c.requires.kept.room judged.kept.room in
    record {
      counted = next.counted;
      wanted = omega (arith, next.wanted, judged.kept.line);
      room = next.room;
      pool = judged.kept.pool;
      six = judged.kept.six;
      small = judged.kept.small;
      walk = judged.kept.walk;
    }
