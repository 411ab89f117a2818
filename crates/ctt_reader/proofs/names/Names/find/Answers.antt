use Rattle.std.proofs.Common.{sym, ◌∙◌, ap}
use Rattle.std.specs.Prelude.{bytes_eq}
use Rattle.ctt_reader.specs.Names.{place_of}
use Rattle.ctt_reader.proofs.NameLemmas.{position-map}
use Rattle.ctt_reader.proofs.names.Names.find.Goals as goal

pub returns : goal.returns
returns c =
    let name = c.args.name.now in
    let keys = c.self.inside.set.keys in
    sym c.in_ok-place.was ∙ c.get_index_of.ensures.index ∙ sym (position-map (bytes_eq name) (λ key. key.now) keys) ∙ ap (place_of name) c.self.view_is

pub returns-in_err-place : goal.returns-in_err-place
returns-in_err-place c =
    let name = c.args.name.now in
    let keys = c.self.inside.set.keys in
    c.from_residual.ensures ∙ sym c.in_err-place.was ∙ c.get_index_of.ensures.index ∙ sym (position-map (bytes_eq name) (λ key. key.now) keys) ∙ ap (place_of name) c.self.view_is
