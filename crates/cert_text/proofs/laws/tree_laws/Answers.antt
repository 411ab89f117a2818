use Rattle.std.specs.Prelude.{[]}
use Rattle.cert_text.proofs.TreeLaws.{tree_fills}
use Rattle.cert_text.proofs.laws.tree_laws.Goals as goal

pub returns : goal.returns
returns c = λ k w s f ns. tree_fills k w s f [] ns
