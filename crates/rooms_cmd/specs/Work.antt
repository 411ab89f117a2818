-- What the arithmetic and the ledger of steps count.
use Rattle.std.specs.Prelude.{ℕ}
use Rattle.branch_tree.specs.Logs.{Moment, moment}
use Rattle.run_core.specs.Outside.{Count, count_of}

-- how many numbers didn't fit, and how many pivots were made, before and after
pub record Work : Type 0 where
  pub wides : Count
  pub steps : Count

abbrev pub work : {A : Type 0} → (A → ℕ) → A → A → ℕ → ℕ → Work
work wides arith arith_now steps steps_now = record { wides = count_of wides arith arith_now; steps = record { before = steps; now = steps_now } }

-- the moment before a search, when there is no cut
abbrev pub begins : Work → Moment
begins w = moment w.wides.before w.steps.before 0

-- the moment after a search that found so many cuts
abbrev pub ends : Work → ℕ → Moment
ends w cuts = moment w.wides.now w.steps.now cuts
