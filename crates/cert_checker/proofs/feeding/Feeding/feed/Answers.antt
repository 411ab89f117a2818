use Rattle.std.proofs.Common.{◌∙◌, ◌∷◌, ◌++◌, [], arith, sym, ap, subst, append_assoc}
use Rattle.cert_checker.specs.Feeding.{IsGoing, IsStopped, IsFedAt}
use Rattle.cert_checker.proofs.FeedLaws.{next_is, none_whole, fed_on, fed_stops, fed_rest}
use Rattle.cert_checker.proofs.feeding.Feeding.feed.Goals as goal

pub returns-then-not-branch-clause-fed : goal.returns-then-not-branch-clause-fed
returns-then-not-branch-clause-fed c = λ bytes fed.
    let inv = c.lines.invariant in
    let before = inv.going.0 in
    let line = c.in-Some.line.now in
    let after = c.in-Some.after.now in
    let x = c.lines.self in
    let next = next_is c.lines.left.now line after c.in-Some.ensures.0 c.in-Some.ensures.1 in
    subst (IsStopped x.reading.progress.line) (append_assoc bytes before (line ++ 10 ∷ after) ∙ ap (λ y. bytes ++ y) (ap (λ y. before ++ y) (sym next.split) ∙ sym inv.going.1))
    (fed_stops c.args.m.now x.reading c.take_line.new.self.reading x.rest line after (bytes ++ before) c.in_ok-take_line.field-0 (inv.going.2 bytes fed) next.inside c.in_ok-take_line.ensures.at c.if-not-branch.true)

pub lines-preserved : goal.lines-preserved
lines-preserved c =
    let inv = c.lines.invariant in
    let before = inv.going.0 in
    let line = c.in-Some.line.now in
    let after = c.in-Some.after.now in
    let x = c.lines.self in
    let new = c.take_line.new.self in
    let next = next_is c.lines.left.now line after c.in-Some.ensures.0 c.in-Some.ensures.1 in
    let count = c.in_ok-take_line.ensures.line c.if-not-branch.false in
    record {
      faulty = c.in_ok-take_line.ensures.faulty ∙ inv.faulty;
      sound = c.in_ok-take_line.ensures.sound c.if-not-branch.false;
      within = omega (arith, count, c.in-Some.ensures.2, inv.within);
      going = (
        before ++ (line ++ 10 ∷ []),
        inv.going.1 ∙ ap (λ y. before ++ y) (next.split ∙ sym (append_assoc line (10 ∷ []) after)) ∙ sym (append_assoc before (line ++ 10 ∷ []) after),
        λ bytes fed. subst (λ rest. IsGoing c.args.m.now new.reading rest (bytes ++ (before ++ (line ++ 10 ∷ [])))) (sym c.in_ok-take_line.ensures.rest)
            (subst (IsGoing c.args.m.now new.reading []) (append_assoc bytes before (line ++ 10 ∷ []))
            (fed_on c.args.m.now x.reading new.reading x.rest line (bytes ++ before) c.in_ok-take_line.field-0 (inv.going.2 bytes fed) next.inside c.in_ok-take_line.ensures.at c.if-not-branch.false count)),
      );
    }

pub returns-clause-fed : goal.returns-clause-fed
returns-clause-fed c = λ bytes fed.
    let inv = c.lines.invariant in
    let before = inv.going.0 in
    let x = c.lines.self in
    let left = c.lines.left.now in
    let kept = c.add.new.self in
    let going = fed_rest c.args.m.now x.reading x.rest left kept (bytes ++ before) (inv.going.2 bytes fed) (none_whole left c.in_default.ensures.0 c.in_default.ensures.1) c.in_ok-add.ensures in
    subst (λ o. IsFedAt c.args.m.now o x.reading kept (bytes ++ c.args.piece.now)) (sym inv.faulty)
    (subst (IsGoing c.args.m.now x.reading kept) (append_assoc bytes before left ∙ ap (λ y. bytes ++ y) (sym inv.going.1)) going)
