use Rattle.std.proofs.Common.{arith, get_or, length}
use Rattle.meeting_patterns.specs.Pattern.{patterns_of}
use Rattle.packing_model.specs.Built.{packing}
use Rattle.packing_model.specs.NodeMarks.{in_runs, has_one_of}
use Rattle.packing_model.proofs.MarkLemmas.{only_none, only_added, any_here, stands_in_runs}
use Rattle.packing_model.proofs.NodeLemmas.{known_at}
use Rattle.packing_model.proofs.node_marks.fill_each.Goals as goal

pub loop-pattern-init : goal.loop-pattern-init
loop-pattern-init c = only_none (has_one_of (packing c.args.model.now) c.args.patterns.now) c.args.filled.now c.requires.blank

pub base_runs-requires : goal.base_runs-requires
base_runs-requires c = known_at (length (patterns_of c.args.model.now)) c.args.patterns.now c.loop-pattern.pattern-index c.requires.known (omega arith)

pub loop-pattern-preserved : goal.loop-pattern-preserved
loop-pattern-preserved c =
    let k = packing c.args.model.now in
    let patterns = c.args.patterns.now in
    let i = c.loop-pattern.pattern-index in
    let runs = c.base_runs.result.now in
    only_added (has_one_of k patterns) (in_runs runs) c.loop-pattern.filled c.fill.new.filled c.loop-pattern.invariant
    (λ r h. any_here (k.in_base r) patterns i 0 (omega arith) (stands_in_runs k runs (get_or patterns i 0) r c.base_runs.ensures h)) c.fill.ensures
