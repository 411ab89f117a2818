use Rattle.std.proofs.Common.{◌≡◌, ℕ, drop, length, true}
use Rattle.std.specs.Prelude.{ℤ, nat_lt}
use Rattle.std.specs.List.{list_all}
use Rattle.meeting_patterns.specs.Pattern.{patterns_of}
use Rattle.packing_model.specs.Built.{packing}
use Rattle.packing_model.specs.Nodes.{fixed_of}
use Rattle.node_bound.specs.Guessed.{may_stand}
use Rattle.node_bound.proofs.gap.may_stand_each.Given as goal

abbrev pub invariant-loop-entry : goal.invariant-loop-entry
invariant-loop-entry l = record {
  rest : list_all (may_stand (packing l.model) (fixed_of l.fixing)) (drop l.entry-index l.entries) ≡ list_all (may_stand (packing l.model) (fixed_of l.fixing)) l.entries;
  known : list_all (λ (e : ℕ × ℤ). nat_lt e.0 (length (patterns_of l.model))) (drop l.entry-index l.entries) ≡ true;
}
