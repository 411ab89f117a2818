use Rattle.std.proofs.Common.{◌≡◌, ◌*◌, ◌<◌, ◌+◌}
use Rattle.std.specs.Ordering.{nat_cmp}
use Rattle.exact_num.proofs.parts.compare_parts.Given as goal

abbrev pub invariant-turns : goal.invariant-turns
invariant-turns l = record {
  same : nat_cmp (l.w * l.z) (l.y * l.x) ≡ nat_cmp (l.a * l.d) (l.c * l.b);
  low : 0 < l.x;
  other : 0 < l.z;
}

abbrev pub decreases-turns : goal.decreases-turns
decreases-turns l = l.x + l.z
