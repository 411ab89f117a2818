use Rattle.std.proofs.Common.{◌+◌, ◌-◌, ◌≡◌, ◌≤◌, length}
use Rattle.input_core.specs.Shelf.{OnlyReads}
use Rattle.input_core.proofs.ReadLemmas.{TakesSoFar}
use Rattle.input_core.proofs.read.read_into.Given as goal

abbrev pub invariant-pieces : goal.invariant-pieces
invariant-pieces g l =
    let s = g.S.Shelf in
    let t = g.T.Taker in
    record {
      bound : l.done ≤ l.limit;
      room : length l.piece.items ≡ 65536;
      counted : t.bytes_taken l.taker ≡ t.bytes_taken l.fn.taker + l.done;
      kept : t.kept l.taker ≡ t.kept l.fn.taker;
      took : TakesSoFar (s.tells l.fn.shelf) (s.held l.fn.shelf l.name) l.limit (t.stands l.fn.taker) (t.stands l.taker) l.done;
      calls : s.piece_faults l.shelf ≡ s.piece_faults l.fn.shelf;
      only : OnlyReads s.tells s.held s.piece_faults s.put_faults l.fn.shelf l.shelf;
    }

abbrev pub decreases-pieces : goal.decreases-pieces
decreases-pieces g l = l.limit + 1 - l.done
