-- What making a problem's tables answers.
use Rattle.std.specs.Prelude.{◌≡◌, Some, None, Result, Ok, Err}
use Rattle.problem_core.specs.OfParts.{facts_of}
use Rattle.problem_core.specs.Kept.{AreKept}
use Rattle.problem_core.specs.Tables.{AreTables}
use Rattle.problem_core.specs.Limits.{limit_of}
use Rattle.problem_core.specs.declared.parts.Parts.{Parts}
use Rattle.problem_core.specs.declared.tables.ProblemTables.{ProblemTables}
use Rattle.problem_core.specs.declared.limit.BuildFault.{BuildFault}
use Rattle.problem_core.specs.declared.limit.BuildFault.TheVariants.{Limit as Over, Memory}

-- the tables of parts that pass no limit, else that limit
abbrev pub MakesTables : Parts → Result ProblemTables BuildFault → Type 0
MakesTables p (Ok t) =
    AreKept p × AreTables (facts_of p) t.courses.sizes.items t.courses.order.items t.courses.places.items t.admitted.items t.closed.items t.points.items
    × (limit_of (facts_of p) ≡ None)
MakesTables p (Err (Over limit)) = limit_of (facts_of p) ≡ Some limit
MakesTables p (Err Memory) = Unit {0}
