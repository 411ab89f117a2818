-- What a simple command of the library `clap` makes of words.
use Rattle.std.specs.Prelude.{List, Option, Some, None, if◌then◌else◌}
use Rattle.clap.specs.Words.{App, Row, Text, fault_of, matches_of}
use Rattle.clap.specs.Walk.{is_empty}

-- its matches on the words; none: it refuses them
unfoldable pub matches_on : App → List Text → Option (List Row)
matches_on form words = if is_empty (fault_of form words) then Some (matches_of form words) else None
