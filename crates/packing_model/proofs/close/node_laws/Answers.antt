use Rattle.std.proofs.Common.{[], length, arith}
use Rattle.std.specs.Prelude.{slice_index_or}
use Rattle.meeting_patterns.specs.Pattern.{patterns_of}
use Rattle.meeting_patterns.specs.Made.{AreClashless}
use Rattle.packing_model.specs.Built.{packing}
use Rattle.packing_model.proofs.NodeLemmas.{clique_pair, distinct_from, known_at}
use Rattle.packing_model.proofs.close.node_laws.Goals as goal

pub returns-clause-cliques : goal.returns-clause-cliques
returns-clause-cliques c =
    c.packing_laws.ensures.cliques c.args.model.now (patterns_of c.args.model.now) c.args.pool.now (c.pattern_laws.ensures.listed c.args.model.now)
    (λ at i j l less m mi mj.
    let cut = c.requires.pool.each at l in
    clique_pair (packing c.args.model.now).clash (slice_index_or c.args.pool.now at []) i j cut.list.rising cut.clique less mi mj)

pub returns-clause-fixing : goal.returns-clause-fixing
returns-clause-fixing c = record { differ = distinct_from c.args.fixing.now.one c.requires.fixing.differ; known = c.requires.fixing.of_packing.one }

pub returns-clause-few_taken : goal.returns-clause-few_taken
returns-clause-few_taken c =
    let free : AreClashless c.args.model.now (patterns_of c.args.model.now) c.args.fixing.now.one =
    record { known = λ j l. known_at (length (patterns_of c.args.model.now)) c.args.fixing.now.one j c.requires.fixing.of_packing.one l; differ = c.requires.fixing.differ; apart = c.requires.fixing.apart } in
    let few = c.pattern_laws.ensures.few c.args.model.now (patterns_of c.args.model.now) c.args.fixing.now.one (c.pattern_laws.ensures.listed c.args.model.now) free in
    omega (arith, few, c.laws.ensures.problem.few_events)
