use Rattle.std.proofs.Common.{◌≡◌, ◌∙◌, ◌∷◌, sym, ap}
use Rattle.cert_text.specs.Spelling.{terms_of}
use Rattle.cert_text.proofs.ReadLaws.{behind, terms_step}
use Rattle.cert_text.proofs.leaf_line.read_terms.Goals as goal

pub loop-row-preserved : goal.loop-row-preserved
loop-row-preserved c =
    let rest = c.next-in-Some.new.self in
    let both : c.loop-row.fields ≡ c.in-Some.row.now ∷ (c.in-Some-next.times.now ∷ rest) = c.in-Some.ensures ∙ ap (λ fs. c.in-Some.row.now ∷ fs) c.in-Some-next.ensures in
    ap (λ ts. behind ts (terms_of rest)) c.in_ok-push-in-Some-read_term.ensures.ok
    ∙ terms_step c.loop-row.terms c.loop-row.fields rest c.in-Some.row.now c.in-Some-next.times.now c.in-Some-read_term.term both (sym c.in-Some-read_term.ensures)
    ∙ c.loop-row.invariant
