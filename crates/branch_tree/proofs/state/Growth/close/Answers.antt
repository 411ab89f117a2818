use Rattle.std.proofs.Common.{arith, rules}
use Rattle.duality.specs.Walk.{turn}
use Rattle.search_nodes.specs.Paths.{path_of}
use Rattle.branch_tree.proofs.TurnLaws.{turned_whole, turned_on}
use Rattle.branch_tree.proofs.state.Growth.close.Goals as goal

pub returns-then-len-eq0 : goal.returns-then-len-eq0
returns-then-len-eq0 c = record {
  nodes = c.in_ok-push.ensures.ok;
  held = search rules;
  walk = c.in_ok-turn.ensures.walk;
  turned = turned_whole (turn (path_of c.args.self.now.walk.path)) c.turn.new.self.path (c.walk_laws.ensures.some (path_of c.args.self.now.walk.path)) c.in_ok-turn.ensures.path (omega arith);
}

pub returns-else-len-eq0 : goal.returns-else-len-eq0
returns-else-len-eq0 c = record {
  nodes = c.in_ok-push.ensures.ok;
  held = search rules;
  walk = c.in_ok-turn.ensures.walk;
  turned = turned_on (turn (path_of c.args.self.now.walk.path)) c.turn.new.self.path c.in_ok-turn.ensures.path (λ e. omega arith);
}
