use Rattle.std.proofs.Common.{◌∙◌, ap, refl, true}
use Rattle.search_nodes.specs.Paths.{path_of}
use Rattle.search_nodes.proofs.PathLaws.{path_more, taken}
use Rattle.search_nodes.proofs.walk.Walk.take.Goals as goal

pub returns-clause-path : goal.returns-clause-path
returns-clause-path c = ap path_of c.in_ok-push.ensures.ok ∙ path_more c.args.self.now.path c.args.pattern true

pub returns-clause-walk : goal.returns-clause-walk
returns-clause-walk c = λ k out.
    taken k c.args.self.now.path c.push.new.self c.args.self.now.fixing c.drop_zero.new.self c.add_one.new.self c.args.self.now.marks _ c.args.pattern
    (ap path_of c.in_ok-push.ensures.ok ∙ path_more c.args.self.now.path c.args.pattern true) c.drop_zero.ensures.zero c.drop_zero.ensures.one c.in_ok-add_one.ensures.ok c.in_ok-add_one.ensures.zero
    c.clear.ensures c.in_ok-put.ensures (record { fillers = refl; count = refl }) out
