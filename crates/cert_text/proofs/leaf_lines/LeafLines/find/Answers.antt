use Rattle.std.proofs.Common.{sym, ◌∙◌, ap}
use Rattle.std.specs.Prelude.{bytes_eq}
use Rattle.cert_text.specs.Sharing.{place_of_line}
use Rattle.cert_text.proofs.LineLemmas.{position-map}
use Rattle.cert_text.proofs.leaf_lines.LeafLines.find.Goals as goal

pub returns : goal.returns
returns c =
    let line = c.args.line.now in
    let keys = c.self.inside.set.keys in
    c.get_index_of.ensures.index ∙ sym (position-map (bytes_eq line) (λ key. key.items) keys) ∙ ap (place_of_line line) c.self.view_is
