use Rattle.std.proofs.Common.{◌≡◌, ◌<◌, map, pos, ◌<ℤ◌, unsigned_abs}
use Rattle.exact_num.specs.Multiples.{least_den}
use Rattle.exact_num.proofs.Commons.{rest_den}
use Rattle.exact_num.proofs.denominators.least_common.Given as goal

abbrev pub invariant-loop-x : goal.invariant-loop-x
invariant-loop-x g l = record {
  positive : pos 0 <ℤ l.den;
  fits : unsigned_abs l.den < l.bound;
  same : rest_den g.F.Fraction.value (unsigned_abs l.den) l.x-index l.list ≡ least_den (map g.F.Fraction.value l.list);
}
