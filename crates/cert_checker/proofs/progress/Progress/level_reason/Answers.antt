use Rattle.cert_checker.proofs.ReasonLemmas.{node_within}
use Rattle.cert_checker.proofs.progress.Progress.level_reason.Goals as goal

pub judge_node-requires-clause-node : goal.judge_node-requires-clause-node
judge_node-requires-clause-node c = node_within c.args.node.now c.requires.bounds c.requires.plain
