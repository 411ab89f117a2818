use Rattle.std.proofs.Common.{◌≡◌, ◌≤◌, ◌+◌, ◌*◌, ◌-◌, false, get_or}
use Rattle.ctt_reader.specs.Naming.{no_course}
use Rattle.itc_score.specs.Sums.{sum_below, count_below}
use Rattle.itc_score.proofs.sums.missing_days.Given as goal

abbrev pub invariant-loop-k : goal.invariant-loop-k
invariant-loop-k l = record {
  value : l.total ≡ sum_below (λ c. (get_or l.courses c no_course).min_days - count_below (λ d. get_or l.taught (c * 14 + d) false) l.days) l.k;
  small : l.total ≤ l.k * 1000;
}
