use Rattle.std.proofs.Common.{◌≡◌, ◌≤◌, length}
use Rattle.std.specs.Prelude.{codes}
use Rattle.ctt_reader.specs.Grammar.{section, section_of}
use Rattle.ctt_reader.specs.Entries.{curriculum_of}
use Rattle.ctt_reader.proofs.reader.read_curricula.Given as goal

abbrev pub invariant-loop-curricula : goal.invariant-loop-curricula
invariant-loop-curricula l = record {
  read : section (codes "UNAVAILABILITY_CONSTRAINTS:") l.wanted (λ before. curriculum_of l.names) l.rows.past l.curricula l.rows.rows ≡ section_of (codes "UNAVAILABILITY_CONSTRAINTS:") l.wanted (λ before. curriculum_of l.names) l.initial.rows;
  few : length l.curricula ≤ l.wanted;
}

abbrev pub decreases-loop-curricula : goal.decreases-loop-curricula
decreases-loop-curricula l = length l.rows.rows
