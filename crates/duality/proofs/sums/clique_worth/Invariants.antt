use Rattle.std.proofs.Common.{◌≡◌, ◌*◌, ◌^◌, ◌+ℤ◌, drop}
use Rattle.duality.specs.Sums.{clique_worth, IsWithin}
use Rattle.duality.proofs.sums.clique_worth.Given as goal

abbrev pub invariant-loop-term : goal.invariant-loop-term
invariant-loop-term l = record {
  rest : l.sum +ℤ clique_worth (drop l.term-index l.terms) ≡ clique_worth l.terms;
  small : IsWithin (l.term-index * 10 ^ 24) l.sum;
}
