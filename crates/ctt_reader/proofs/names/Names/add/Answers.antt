use Rattle.std.proofs.Common.{◌≡◌, refl, sym, ◌∙◌, ap, map, not}
use Rattle.std.specs.Prelude.{bytes_eq}
use Rattle.std.specs.List.{list_any}
use Rattle.ctt_reader.specs.Names.{has_name}
use Rattle.ctt_reader.proofs.NameLemmas.{list_any-map, map-insert}
use Rattle.ctt_reader.proofs.names.Names.add.Goals as goal

pub returns : goal.returns
returns c =
    let name = c.args.name in
    let keys = c.self.inside.set.keys in
    let same : list_any (λ key. bytes_eq name.now key.now) keys ≡ has_name name.now c.args.self.now =
    sym (list_any-map (bytes_eq name.now) (λ key. key.now) keys) ∙ ap (has_name name.now) c.self.view_is in
    record {
      fresh = c.in-Ok.ensures.added ∙ ap not same;
      names = ap (map (λ key. key.now)) c.in-Ok.ensures.keys ∙ map-insert (λ key. key.now) keys name (list_any (λ key. bytes_eq name.now key.now) keys) ∙ rw (same, c.self.view_is) refl;
      kept = tt;
    }
