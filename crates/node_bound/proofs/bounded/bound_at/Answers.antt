use Rattle.meeting_patterns.specs.Pattern.{patterns_of}
use Rattle.packing_model.specs.Built.{packing}
use Rattle.packing_model.specs.Nodes.{fixed_of}
use Rattle.node_bound.proofs.FixedLaws.{few_taken}
use Rattle.node_bound.proofs.SolveLaws.{some_free}
use Rattle.node_bound.proofs.bounded.bound_at.Goals as goal

pub bound_guessed-requires-clause-node : goal.bound_guessed-requires-clause-node
bound_guessed-requires-clause-node g c =
    let at = c.args.at.now in record {
      counted = c.requires.level.counted;
      few_levels = g.met.O.Objective.few_levels at.objective.now;
      high = c.requires.level.high;
      targets_are = c.requires.level.targets_are;
      fixing = c.requires.fixing;
      few = few_taken at.model.now at.fixing.now c.laws.ensures.problem.few_events (λ list free. c.pattern_laws.ensures.few at.model.now (patterns_of at.model.now) list (c.pattern_laws.ensures.listed at.model.now) free) c.requires.fixing;
    }

pub bound_guessed-requires-clause-free : goal.bound_guessed-requires-clause-free
bound_guessed-requires-clause-free g c = some_free (packing c.args.at.now.model.now) (fixed_of c.args.at.now.fixing.now) c.in-Some.field-0 c.in-Some.ensures
