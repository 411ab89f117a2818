use Rattle.std.proofs.Common.{◌≡◌, refl, sym, ◌∙◌, ap, map, not}
use Rattle.std.specs.Prelude.{bytes_eq}
use Rattle.std.specs.List.{list_any}
use Rattle.cert_text.specs.Sharing.{has_line}
use Rattle.cert_text.proofs.LineLemmas.{list_any-map, map-insert}
use Rattle.cert_text.proofs.leaf_lines.LeafLines.add.Goals as goal

pub returns : goal.returns
returns c =
    let line = c.args.line in
    let keys = c.self.inside.set.keys in
    let same : list_any (λ key. bytes_eq line.items key.items) keys ≡ has_line line.items c.args.self.now =
    sym (list_any-map (bytes_eq line.items) (λ key. key.items) keys) ∙ ap (has_line line.items) c.self.view_is in
    record {
      fresh = c.in-Ok.ensures.added ∙ ap not same;
      lines = ap (map (λ key. key.items)) c.in-Ok.ensures.keys ∙ map-insert (λ key. key.items) keys line (list_any (λ key. bytes_eq line.items key.items) keys) ∙ rw (same, c.self.view_is) refl;
    }
