use Rattle.std.proofs.Common.{◌∙◌, ap, ◌++◌, ◌∷◌, []}
use Rattle.std.proofs.lemmas.List.{replicate_more}
use Rattle.simplex_tableau.proofs.dense.repeated.Goals as goal

pub loop-preserved : goal.loop-preserved
loop-preserved g c = c.in_ok-append_number.ensures.ok ∙ ap (λ xs. xs ++ c.args.number ∷ []) c.loop.invariant ∙ replicate_more c.loop.counter c.args.number
