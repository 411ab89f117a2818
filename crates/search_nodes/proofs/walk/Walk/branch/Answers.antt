use Rattle.std.proofs.Common.{◌∙◌, ap, refl, false}
use Rattle.search_nodes.specs.Paths.{path_of}
use Rattle.search_nodes.proofs.PathLaws.{path_more, branched}
use Rattle.search_nodes.proofs.walk.Walk.branch.Goals as goal

pub returns-clause-path : goal.returns-clause-path
returns-clause-path c = ap path_of c.in_ok-push.ensures.ok ∙ path_more c.args.self.now.path c.args.pattern false

pub returns-clause-walk : goal.returns-clause-walk
returns-clause-walk c = λ k walk free.
    branched k c.args.self.now.path c.push.new.self c.args.self.now.fixing c.add_zero.new.self c.args.self.now.marks _ c.args.pattern
    (ap path_of c.in_ok-push.ensures.ok ∙ path_more c.args.self.now.path c.args.pattern false) c.in_ok-add_zero.ensures.ok c.in_ok-add_zero.ensures.one
    c.in_ok-put.ensures refl (record { fillers = refl; count = refl }) walk free
