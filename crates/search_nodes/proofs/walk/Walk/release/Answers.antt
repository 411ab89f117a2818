use Rattle.std.proofs.Common.{◌∙◌, ap}
use Rattle.std.specs.Prelude.{min}
use Rattle.search_nodes.proofs.PathLaws.{released}
use Rattle.search_nodes.proofs.walk.Walk.release.Goals as goal

pub returns-clause-walk : goal.returns-clause-walk
returns-clause-walk c = λ k inside.
    released k c.args.self.now.path c.args.self.now.fixing c.drop_one.new.self c.args.self.now.marks c.release.new.self c.args.pattern c.drop_one.ensures.one c.drop_one.ensures.zero
    c.release.ensures.taken (ap (λ v. v.items) c.release.ensures.left_out) (ap (λ v. v.items) c.release.ensures.fillers) (c.release.ensures.count ∙ ap (min c.args.self.now.marks.count) c.len.ensures) inside
