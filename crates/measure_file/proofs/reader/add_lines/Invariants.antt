use Rattle.std.proofs.Common.{◌≡◌, length}
use Rattle.measure_file.specs.Grammar.{lines_from}
use Rattle.measure_file.specs.Steps.{listed_in}
use Rattle.measure_file.proofs.reader.add_lines.Given as goal

abbrev pub invariant-loop-row : goal.invariant-loop-row
invariant-loop-row l = lines_from l.known l.version (listed_in l.listed) l.rows.rows ≡ lines_from l.known l.version (listed_in l.initial.listed) l.initial.rows.rows

abbrev pub decreases-loop-row : goal.decreases-loop-row
decreases-loop-row l = length l.rows.rows
