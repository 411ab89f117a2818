use Rattle.std.proofs.Common.{sym, ap, subst, refl, true, ◌≡◌, ◌∙◌}
use Rattle.cert_text.specs.Grammar.{is_writable}
use Rattle.cert_text.specs.Sharing.{share, plain}
use Rattle.lex_driver.specs.Solving.{found_of}
use Rattle.lex_driver.proofs.WritingLaws.{found_writable}
use Rattle.lex_driver.proofs.solve.certificate_of.Goals as goal

pub share-requires : goal.share-requires
share-requires c =
    subst (λ x. is_writable x ≡ true) (sym c.in_ok-found.ensures) (found_writable c.args.model.now c.args.trees c.args.unfinished c.args.pool.now c.args.choice.entries c.requires)

pub returns-in-Ok : goal.returns-in-Ok
returns-in-Ok c =
    let made = found_of c.args.model.now c.args.trees c.args.choice.entries c.args.pool.now c.args.unfinished in
    let writable = found_writable c.args.model.now c.args.trees c.args.unfinished c.args.pool.now c.args.choice.entries c.requires in
    let shared = c.in-Ok.ensures.share ∙ ap share c.in_ok-found.ensures in
    record {
      shared = shared;
      writable = c.in-Ok.ensures.writable;
      plain_is = ap plain shared ∙ c.share_laws.ensures.one made writable ∙ c.share_laws.ensures.first made writable refl;
    }
