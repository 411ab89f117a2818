use Rattle.std.proofs.Common.{◌≡◌, ◌≤◌, length}
use Rattle.std.specs.Prelude.{codes}
use Rattle.ctt_reader.specs.Grammar.{section, section_of}
use Rattle.ctt_reader.specs.Entries.{constraint_of}
use Rattle.ctt_reader.proofs.reader.read_constraints.Given as goal

abbrev pub invariant-loop-constraints : goal.invariant-loop-constraints
invariant-loop-constraints l = record {
  read : section (codes "END.") l.sizes.constraints (λ before. constraint_of l.names l.sizes.days l.sizes.periods) l.rows.past l.constraints l.rows.rows ≡ section_of (codes "END.") l.sizes.constraints (λ before. constraint_of l.names l.sizes.days l.sizes.periods) l.initial.rows;
  few : length l.constraints ≤ l.sizes.constraints;
}

abbrev pub decreases-loop-constraints : goal.decreases-loop-constraints
decreases-loop-constraints l = length l.rows.rows
