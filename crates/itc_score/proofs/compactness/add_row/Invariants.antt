use Rattle.std.proofs.Common.{◌≡◌, ◌<◌, ◌≤◌, ◌+◌, ℕ, false, cond, length, get_or}
use Rattle.itc_score.proofs.compactness.add_row.Given as goal

abbrev pub invariant-loop-k : goal.invariant-loop-k
invariant-loop-k l = record {
  whole : length l.counts.items ≡ length l.fn.counts.items;
  added : (p : ℕ) → p < l.k → get_or l.counts.items p 0 ≡ get_or l.fn.counts.items p 0 + cond (get_or l.held (l.first + p) false) 1 0;
  rest : (p : ℕ) → l.k ≤ p → get_or l.counts.items p 0 ≡ get_or l.fn.counts.items p 0;
}
