use Rattle.std.proofs.Common.{◌≡◌, ◌++◌, map, unsigned_abs}
use Rattle.std.specs.List.{list_all}
use Rattle.exact_num.specs.Work.{below}
use Rattle.exact_num.specs.Multiples.{Divides}
use Rattle.exact_num.specs.Denominators.{nums_over}
use Rattle.exact_num.proofs.Commons.{from}
use Rattle.exact_num.proofs.denominators.numerators.Given as goal

abbrev pub invariant-loop-x : goal.invariant-loop-x
invariant-loop-x g l = record {
  divides : Divides (unsigned_abs l.den) (from g.F.Fraction.value l.x-index l.list);
  whole : l.nums.items ++ nums_over l.den (from g.F.Fraction.value l.x-index l.list) ≡ nums_over l.den (map g.F.Fraction.value l.list);
  fits : list_all (below l.bound) (nums_over l.den (from g.F.Fraction.value l.x-index l.list)) ≡ list_all (below l.bound) (nums_over l.den (map g.F.Fraction.value l.list));
}
