use Rattle.std.proofs.Common.{◌∙◌, ◌<◌, [], sym, ap, arith, cond, length}
use Rattle.cert_text.specs.Numbers.{cut}
use Rattle.cert_text.proofs.NumberLaws.{cut_all, cut_first}
use Rattle.cert_text.proofs.fields.Fields.next.Goals as goal

pub returns-then-size-line : goal.returns-then-size-line
returns-then-size-line c =
    sym c.self.view_is ∙ ap (λ more. cond more (cut 32 c.self.inside.rest.now) []) c.if-not-self.false ∙ cut_all 32 c.self.inside.rest.now c.length_to-size.result c.if-size-line.true c.length_to-size.ensures.before

pub returns : goal.returns
returns c =
    let l : c.length_to-size.result < length c.self.inside.rest.now = omega arith in
    rw (c.split_at.ensures.front, c.split_at-2.ensures.back, c.if-not-self.false)
    (sym c.self.view_is ∙ ap (λ more. cond more (cut 32 c.self.inside.rest.now) []) c.if-not-self.false
    ∙ cut_first 32 c.self.inside.rest.now c.length_to-size.result l c.length_to-size.ensures.before (c.length_to-size.ensures.found l))
