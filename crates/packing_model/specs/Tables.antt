-- What making a model's tables answers.
use Rattle.std.specs.Prelude.{◌≡◌, ◌<◌, List, length, Some, Result, Ok, Err}
use Rattle.problem_core.specs.Facts.{Facts}
use Rattle.problem_core.specs.declared.limit.LimitKind.TheVariants.{Rows}
use Rattle.problem_core.specs.declared.limit.BuildFault.{BuildFault}
use Rattle.problem_core.specs.declared.limit.BuildFault.TheVariants.{Limit as Over, Memory}
use Rattle.meeting_patterns.specs.declared.pattern.Pattern.{Pattern}
use Rattle.packing_model.specs.declared.model.Tables.{Tables}
use Rattle.packing_model.specs.declared.model.Made.{Made}
use Rattle.packing_model.specs.Rows.{base_rows}
use Rattle.packing_model.specs.Keys.{IsModel}
use Rattle.packing_model.specs.Built.{model_limit}

-- the tables of a model, or the limit on base rows where there are more
abbrev pub MakesTables : Facts → List Pattern → Result Tables BuildFault → Type 0
MakesTables p s (Ok t) = IsModel p s t.rows t.weights.items t.runs.items t.starts.items
MakesTables p s (Err (Over limit)) = (limit ≡ record { kind = Rows; count = length (base_rows p s); limit = 4000 }) × (4000 < length (base_rows p s))
MakesTables p s (Err Memory) = Unit {0}

-- the patterns and tables of a model, or the limit that is passed
abbrev pub Makes : Facts → Result Made BuildFault → Type 0
Makes p (Ok m) = IsModel p m.patterns m.tables.rows m.tables.weights.items m.tables.runs.items m.tables.starts.items
Makes p (Err (Over limit)) = model_limit p ≡ Some limit
Makes p (Err Memory) = Unit {0}
