use Rattle.std.proofs.Common.{sym, subst, List, ℕ}
use Rattle.input_core.specs.Reading.{IsWhole}
use Rattle.input_core.proofs.read.read_all.Goals as goal

pub returns-clause-bytes : goal.returns-clause-bytes
returns-clause-bytes g c =
    let s = g.S.Shelf in
    let all = c.in_ok-read_into.ensures.whole in
    subst (IsWhole (s.tells c.args.shelf.now) (s.held c.args.shelf.now c.args.name.now) c.args.limit) (sym {A = List ℕ} (all.stands _ c.new-bytes.ensures.items)) all.whole
