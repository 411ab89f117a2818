use Rattle.std.proofs.Common.{◌≡◌, ◌≤◌, ◌*◌, get_or}
use Rattle.ctt_reader.specs.Naming.{no_course}
use Rattle.itc_score.specs.Sums.{sum_below}
use Rattle.itc_score.proofs.sums.lectures.Given as goal

abbrev pub invariant-loop-k : goal.invariant-loop-k
invariant-loop-k l = record {
  value : l.total ≡ sum_below (λ c. (get_or l.courses c no_course).lectures) l.k;
  small : l.total ≤ l.k * 1000;
}
