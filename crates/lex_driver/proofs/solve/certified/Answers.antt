use Rattle.lex_driver.proofs.WritingLaws.{is_found}
use Rattle.lex_driver.proofs.solve.certified.Goals as goal

pub certificate_of-requires : goal.certificate_of-requires
certificate_of-requires c =
    is_found c.args.model.now c.args.search c.sizes.ensures.patterns c.sizes.ensures.rows c.sizes.ensures.cuts c.args.unfinished c.sizes.ensures.events c.sizes.ensures.rooms
    (λ j. c.measured_laws.ensures.small j c.args.search.choice.entries c.requires.kept.are.held.legal) c.requires
