use Rattle.std.proofs.Common.{◌≡◌, sym, ◌∙◌, ap, refl, Ok, ◌++◌, ◌∷◌, []}
use Rattle.std.specs.List.{list_any}
use Rattle.measure_file.specs.Grammar.{same_pair}
use Rattle.measure_file.proofs.MarkLemmas.{preferred-is, ArePreferred-more}
use Rattle.measure_file.proofs.once.Preferences.add.Goals as goal

pub returns-then-index : goal.returns-then-index
returns-then-index c =
    let row = c.args.row in
    let marked : c.index.result.now ≡ list_any (same_pair row) c.args.self.now = preferred-is row c.self.inside.rows c.self.inside.marks.items c.pair_place-place.result c.index.result.now c.self.invariant c.requires c.pair_place-place.ensures c.index.ensures ∙ ap (list_any (same_pair row)) c.self.view_is in
    rw (← marked, c.if-index.true) refl

pub returns : goal.returns
returns c =
    let row = c.args.row in
    let marked : c.index.result.now ≡ list_any (same_pair row) c.args.self.now = preferred-is row c.self.inside.rows c.self.inside.marks.items c.pair_place-place.result c.index.result.now c.self.invariant c.requires c.pair_place-place.ensures c.index.ensures ∙ ap (list_any (same_pair row)) c.self.view_is in
    rw (← marked, c.if-index.false) (ap Ok (ap (λ rows. rows ++ row ∷ []) (sym c.self.view_is) ∙ sym c.in_ok-push.ensures.ok))

pub invariant_of-self : goal.invariant_of-self
invariant_of-self c = rw c.in_err-push.ensures.err c.self.invariant

pub invariant_of-self-2 : goal.invariant_of-self-2
invariant_of-self-2 c = ArePreferred-more c.args.row c.self.inside.rows c.push.new.self c.self.inside.marks.items c.pair_place-place.result c.in_ok-push.ensures.ok c.pair_place-place.ensures c.requires c.self.invariant
