use Rattle.std.proofs.Common.{◌∙◌, ap}
use Rattle.cert_text.specs.Sharing.{leaf_text, place_of_line}
use Rattle.cert_text.proofs.ShareLaws.{there_already}
use Rattle.cert_text.proofs.forms.shared_leaf.Goals as goal

pub returns-in-Some-clause-lines : goal.returns-in-Some-clause-lines
returns-in-Some-clause-lines c =
    let line = ap (λ x. place_of_line x c.args.lines.now) (c.as_slice.ensures.value ∙ c.in_ok-line.ensures) in
    there_already (leaf_text c.args.leaf.now) c.args.lines.now c.in-Some.number (c.in-Some.ensures ∙ line)
