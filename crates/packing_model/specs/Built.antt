-- A problem's patterns as a packing, what building a model answers, and the base rows of a pattern.
use Rattle.std.specs.Prelude.{ℕ, ◌≡◌, ◌<◌, ◌≤◌, nat_lt, if◌then◌else◌, true, false, List, length, Option, Some, None, Result, Ok, Err}
use Rattle.problem_core.specs.Facts.{Facts}
use Rattle.problem_core.specs.declared.limit.Limit.{Limit}
use Rattle.problem_core.specs.declared.limit.LimitKind.TheVariants.{Patterns, Rows}
use Rattle.problem_core.specs.declared.limit.BuildFault.{BuildFault}
use Rattle.problem_core.specs.declared.limit.BuildFault.TheVariants.{Limit as Over, Memory}
use Rattle.meeting_patterns.specs.Pattern.{patterns_of}
use Rattle.duality.specs.declared.row.RowName.{RowName}
use Rattle.duality.specs.declared.row.RowName.TheVariants.{Base, Cut, Level}
use Rattle.duality.specs.Packing.{Packing, Weights}
use Rattle.duality.specs.declared.row.Run.{Run}
use Rattle.duality.specs.Runs.{rows_in, AreBelow}
use Rattle.duality.specs.Sums.{member_row, distinct_rows}
use Rattle.packing_model.specs.declared.row.Row.{Row}
use Rattle.packing_model.specs.Rows.{base_rows, packing_of, weights_of}

-- the base rows of the problem, in order
abbrev pub rows_of : Facts → List Row
rows_of p = base_rows p (patterns_of p)

-- the patterns, clashes and base rows of the problem
abbrev pub packing : Facts → Packing
packing p = packing_of p (patterns_of p)

-- the six measures as weights of the problem's patterns
abbrev pub measured : Facts → Weights
measured p = weights_of p (patterns_of p)

-- the limit that is passed: first that on patterns, then that on base rows
abbrev pub model_limit : Facts → Option Limit
model_limit p =
    if nat_lt 200000 (length (patterns_of p)) then Some (record { kind = Patterns; count = length (patterns_of p); limit = 200000 })
    else (if nat_lt 4000 (length (rows_of p)) then Some (record { kind = Rows; count = length (rows_of p); limit = 4000 }) else None)

-- the model of the problem where it passes no limit, else that limit
abbrev pub BuildsModel : Facts → Result Facts BuildFault → Type 0
BuildsModel p (Ok m) = (m ≡ p) × (model_limit p ≡ None)
BuildsModel p (Err (Over limit)) = model_limit p ≡ Some limit
BuildsModel p (Err Memory) = Unit {0}

-- exactly the base rows that the pattern stands in, each once
pub record AreBaseRowsOf (k : Packing) (rows : List RowName) (i : ℕ) : Type 0 where
  pub differ : distinct_rows rows ≡ true
  pub base : (r : ℕ) → r < k.base_len → member_row (Base r) rows ≡ k.in_base r i
  pub cut : (c : ℕ) → member_row (Cut c) rows ≡ false
  pub level : (j : ℕ) → member_row (Level j) rows ≡ false
  pub few : length rows ≤ 4000

-- runs of exactly the base rows that the pattern stands in, each row once
pub record AreBaseRunsOf (k : Packing) (runs : List Run) (i : ℕ) : Type 0 where
  pub rows : AreBaseRowsOf k (rows_in runs) i
  pub known : AreBelow k.base_len runs
  pub low : AreBelow 4000 runs
