use Rattle.std.proofs.Common.{◌≡◌, length, rules, arith, refl, ◌∙◌}
use Rattle.input_core.proofs.ReadLemmas.{refilled, takes_none, takes_more, takes_whole, OnlyReads-then}
use Rattle.input_core.proofs.read.read_into.Goals as goal

pub pieces-init : goal.pieces-init
pieces-init g c =
    let s = g.S.Shelf in
    let shelf = c.args.shelf.now in
    record {
      bound = omega arith;
      room = search rules;
      counted = omega arith;
      kept = refl;
      took = takes_none (s.tells shelf) (s.held shelf c.args.name.now) c.args.limit (g.T.Taker.stands c.args.taker.now);
      calls = refl;
      only = search rules;
    }

pub returns-then-count-eq0-clause-whole : goal.returns-then-count-eq0-clause-whole
returns-then-count-eq0-clause-whole g c =
    let s = g.S.Shelf in
    let stands = g.T.Taker.stands in
    let shelf = c.args.shelf.now in
    let name = c.args.name.now in
    let only = c.pieces.invariant.only in
    takes_whole (s.tells shelf) (s.tells c.pieces.shelf) (s.held shelf name) (s.held c.pieces.shelf name) c.args.limit c.pieces.done c.in_ok-count.count
    (stands c.args.taker.now) (stands c.pieces.taker) (stands c.hand_piece.new.taker) only.same_telling (only.same_names name) c.if-count-eq0.true c.pieces.invariant.took c.in_ok-count.ensures.handed

pub pieces-preserved : goal.pieces-preserved
pieces-preserved g c =
    let s = g.S.Shelf in
    let stands = g.T.Taker.stands in
    let shelf = c.args.shelf.now in
    let name = c.args.name.now in
    let inv = c.pieces.invariant in
    let len : c.pieces.piece.len ≡ length c.pieces.piece.items = search rules in
    record {
      bound = c.in_ok-count.ensures.handed.within;
      room = refilled c.pieces.piece.len _ c.pieces.piece.items len ∙ (len ∙ inv.room);
      counted = omega (arith, c.in_ok-count.ensures.counted, inv.counted);
      kept = c.in_ok-count.ensures.kept ∙ inv.kept;
      took = takes_more (s.tells shelf) (s.tells c.pieces.shelf) (s.held shelf name) (s.held c.pieces.shelf name) c.args.limit c.pieces.done c.in_ok-count.count
          (stands c.args.taker.now) (stands c.pieces.taker) (stands c.hand_piece.new.taker) inv.only.same_telling (inv.only.same_names name) inv.took c.in_ok-count.ensures.handed;
      calls = c.in_ok-count.ensures.calls ∙ inv.calls;
      only = OnlyReads-then s.tells s.held s.piece_faults s.put_faults shelf c.pieces.shelf c.hand_piece.new.shelf inv.only c.in_ok-count.ensures.only;
    }
