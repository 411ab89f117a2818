use Rattle.std.proofs.Common.{◌≡◌, ◌+◌, false, get_or}
use Rattle.itc_score.specs.Packed.{mask}
use Rattle.itc_score.proofs.tables.word.Given as goal

abbrev pub invariant-loop-k : goal.invariant-loop-k
invariant-loop-k l = l.word ≡ mask (λ k. get_or l.cells (l.first + k) false) l.k
