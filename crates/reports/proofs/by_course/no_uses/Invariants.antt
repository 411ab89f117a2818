use Rattle.std.proofs.Common.{ℕ, ◌≡◌, ◌≤◌, ◌-◌, length, [], get_or}
use Rattle.reports.proofs.by_course.no_uses.Given as goal

abbrev pub invariant-more : goal.invariant-more
invariant-more l = record { low : length l.uses.items ≤ l.courses; empty : (g : ℕ) → get_or l.uses.items g [] ≡ [] }

abbrev pub decreases-more : goal.decreases-more
decreases-more l = l.courses - length l.uses.items
