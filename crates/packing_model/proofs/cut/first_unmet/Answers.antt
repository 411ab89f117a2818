use Rattle.std.proofs.Common.{arith, sym, subst, length}
use Rattle.meeting_patterns.specs.Pattern.{patterns_of}
use Rattle.duality.specs.Runs.{AreBelow}
use Rattle.packing_model.proofs.BitLemmas.{met_clashes}
use Rattle.packing_model.proofs.NodeLemmas.{known_at}
use Rattle.packing_model.proofs.cut.first_unmet.Goals as goal

pub base_runs-requires : goal.base_runs-requires
base_runs-requires c = known_at (length (patterns_of c.args.m.now)) c.args.patterns.now c.args.at c.requires.list.known c.requires.at

pub met_by-met-requires-clause-known : goal.met_by-met-requires-clause-known
met_by-met-requires-clause-known c = subst (λ n. AreBelow n c.base_runs.result.now) (sym c.requires.rows.whole) c.base_runs.ensures.known

pub is_clear_of-requires-clause-pattern : goal.is_clear_of-requires-clause-pattern
is_clear_of-requires-clause-pattern c = known_at (length (patterns_of c.args.m.now)) c.args.patterns.now c.args.at c.requires.list.known c.requires.at

pub is_clear_of-requires-clause-other : goal.is_clear_of-requires-clause-other
is_clear_of-requires-clause-other c = known_at (length (patterns_of c.args.m.now)) c.args.patterns.now c.loop-other.other c.requires.list.known (omega arith)

pub is_clear_of-requires-clause-met : goal.is_clear_of-requires-clause-met
is_clear_of-requires-clause-met c = λ h.
    met_clashes c.args.m.now c.args.patterns.now c.args.rows.now c.base_runs.result.now c.args.at c.loop-other.other (omega arith) (omega arith) c.requires.list.rising c.requires.list.known c.requires.rows c.base_runs.ensures
    (c.met_by-met.ensures c.loop-other.other h)
