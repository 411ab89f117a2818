use Rattle.std.proofs.Common.{◌∙◌, subst, ap, length}
use Rattle.packing_model.specs.Cuts.{IsCutList}
use Rattle.cert_checker.proofs.ReasonLemmas.{cut_list}
use Rattle.cert_checker.proofs.progress.Progress.cut_reason.Goals as goal

pub new-requires : goal.new-requires
new-requires c =
    subst (λ n. IsCutList n c.args.patterns.now) (c.len.ensures.count ∙ ap length c.patterns.ensures.patterns)
    (cut_list c.len.result c.args.patterns.now c.requires.bounds c.in_default.ensures)
