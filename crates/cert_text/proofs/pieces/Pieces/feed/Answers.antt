use Rattle.std.proofs.Common.{◌≡◌, ◌∙◌, ◌∷◌, ◌++◌, ◌+◌, [], true, arith, refl, sym, ap, subst, map, append_assoc}
use Rattle.std.specs.Prelude.{Some, IfSome}
use Rattle.std.specs.List.{list_all}
use Rattle.input_core.specs.declared.faults.LineKind.TheVariants as kinds
use Rattle.input_core.specs.declared.faults.TextFault.TheVariants.{Line}
use Rattle.cert_text.specs.declared.pieces.Pieces.{Pieces}
use Rattle.cert_text.specs.Spelling.{line_of, line_text, in_bounds}
use Rattle.cert_text.specs.Text.{takes, whole_lines}
use Rattle.cert_text.specs.Pieces.{IsPieces, IsSoundPieces, TakesText, GivesLines, IsWholeFault}
use Rattle.cert_text.proofs.PieceLaws.{next_is, none_whole, none_from, pieces_on, lines_on, bounded_on, pieces_stop, pieces_rest, lines_rest, gives}
use Rattle.cert_text.proofs.pieces.Pieces.feed.Goals as goal

pub returns-in_default-2-clause-fault : goal.returns-in_default-2-clause-fault
returns-in_default-2-clause-fault c = λ bytes is.
    let inv = c.lines.invariant in
    let before = inv.going.0 in
    let line = c.in-Some.line.now in
    let after = c.in-Some.after.now in
    let x = c.lines.self in
    let new = c.take_line.new.self in
    let next = next_is c.lines.left.now line after c.in-Some.ensures.0 c.in-Some.ensures.1 in
    let none = none_from c.in_ok-read.field-0 c.in_default-2.not-Some in
    let stopped = pieces_stop x new (bytes ++ before) line after new.line (inv.going.2 bytes is).0 next.inside (λ t keeps. subst (TakesText (takes t (x.rest ++ line)) new) none (c.in_ok-read.ensures.took t keeps)) (c.in_ok-read.ensures.stays none) in
    subst (IsWholeFault (bytes ++ c.args.piece.now)) (sym c.fault_at.ensures)
    (subst (λ all. IsWholeFault all (Line (record { line = new.line; kind = kinds.Text }))) (append_assoc bytes before (line ++ 10 ∷ after) ∙ ap (λ y. bytes ++ y) (ap (λ y. before ++ y) (sym next.split) ∙ sym inv.going.1)) stopped)

pub lines-preserved : goal.lines-preserved
lines-preserved c =
    let inv = c.lines.invariant in
    let before = inv.going.0 in
    let line = c.in-Some.line.now in
    let after = c.in-Some.after.now in
    let x = c.lines.self in
    let new = c.take_line.new.self in
    let read = c.in-Some-2.read in
    let some = c.in-Some-2.is in
    let so_far = c.lines.lines.items in
    let next = next_is c.lines.left.now line after c.in-Some.ensures.0 c.in-Some.ensures.1 in
    let spells = subst (λ o. IfSome o (λ l. line_of (x.rest ++ line) ≡ Some l)) some c.in_ok-read.ensures.spelled in
    let rest = subst (λ o. IfSome o (λ l. new.rest ≡ [])) some c.in_ok-read.ensures.rest in
    let count = subst (λ o. IfSome o (λ l. new.line ≡ x.line + 1)) some c.in_ok-read.ensures.next in
    record {
      sound = subst (λ o. IfSome o (λ l. IsSoundPieces new)) some c.in_ok-read.ensures.sound;
      within = omega (arith, count, c.in-Some.ensures.2, inv.within);
      bounded = subst (λ ls. list_all in_bounds ls ≡ true) (sym c.in_ok-add_line.ensures) (bounded_on x line read so_far spells inv.bounded);
      going = (
        before ++ (line ++ 10 ∷ []),
        inv.going.1 ∙ ap (λ y. before ++ y) (next.split ∙ sym (append_assoc line (10 ∷ []) after)) ∙ sym (append_assoc before (line ++ 10 ∷ []) after),
        λ bytes is.
            let going = inv.going.2 bytes is in (
              subst (IsPieces new) (append_assoc bytes before (line ++ 10 ∷ []))
                  (pieces_on x new (bytes ++ before) line read going.0 next.inside (λ t keeps. subst (TakesText (takes t (x.rest ++ line)) new) some (c.in_ok-read.ensures.took t keeps)) rest count),
              ap whole_lines (sym (append_assoc bytes before (line ++ 10 ∷ []))) ∙ lines_on x (bytes ++ before) line (whole_lines bytes) read so_far going.0 next.inside spells going.1
                  ∙ ap (λ ls. whole_lines bytes ++ map line_text ls) (sym c.in_ok-add_line.ensures),
            ),
      );
    }

pub returns-clause-pieces : goal.returns-clause-pieces
returns-clause-pieces c = λ bytes is.
    let inv = c.lines.invariant in
    let before = inv.going.0 in
    let x = c.lines.self in
    let left = c.lines.left.now in
    let new : Pieces = record { place = x.place; named = x.named; rest = c.add.new.self; line = x.line } in
    let lack = none_whole left c.in_default.ensures.0 c.in_default.ensures.1 in
    subst (IsPieces new) (append_assoc bytes before left ∙ ap (λ y. bytes ++ y) (sym inv.going.1)) (pieces_rest x new (bytes ++ before) left (inv.going.2 bytes is).0 lack c.in_ok-add.ensures refl refl refl)

pub returns-clause-lines : goal.returns-clause-lines
returns-clause-lines c = λ bytes is.
    let inv = c.lines.invariant in
    let before = inv.going.0 in
    let x = c.lines.self in
    let left = c.lines.left.now in
    let new : Pieces = record { place = x.place; named = x.named; rest = c.add.new.self; line = x.line } in
    let lack = none_whole left c.in_default.ensures.0 c.in_default.ensures.1 in
    let going = inv.going.2 bytes is in
    let pieces = pieces_rest x new (bytes ++ before) left going.0 lack c.in_ok-add.ensures refl refl refl in
    subst (λ all. GivesLines bytes all c.lines.lines.items) (append_assoc bytes before left ∙ ap (λ y. bytes ++ y) (sym inv.going.1))
    (gives new bytes ((bytes ++ before) ++ left) c.lines.lines.items pieces (lines_rest (bytes ++ before) left lack ∙ going.1) inv.bounded)
