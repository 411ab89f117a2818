use Rattle.std.proofs.Common.{ℕ, List, ◌∙◌, sym, ap, [], ◌∷◌, ◌++◌}
use Rattle.problem_core.specs.Passing.{passing-hit, passing-miss}
use Rattle.meeting_patterns.specs.Pattern.{chooses, pattern_at}
use Rattle.meeting_patterns.proofs.choose.chosen_of.Goals as goal
use Rattle.meeting_patterns.proofs.choose.chosen_of.Goals.{then-chooses+in_ok-push, else-chooses}

pub loop-i-preserved : goal.loop-i-preserved
loop-i-preserved c =
    let i = c.loop-i.i in
    elim c.if-chooses.branch [
      | then-chooses+in_ok-push w ↦
          w.chosen-is
          ∙ w.in_ok-push.ensures.ok
          ∙ ap (λ (xs : List ℕ). xs ++ i ∷ []) c.loop-i.invariant
          ∙ sym (passing-hit (λ k. chooses c.args.p.now c.args.entries.now (pattern_at c.args.s.now k)) i (ap (chooses c.args.p.now c.args.entries.now) (sym c.get.ensures) ∙ sym c.chooses.ensures ∙ w.if-chooses.true))
      | else-chooses w ↦
          w.chosen-is
          ∙ c.loop-i.invariant
          ∙ sym (passing-miss (λ k. chooses c.args.p.now c.args.entries.now (pattern_at c.args.s.now k)) i (ap (chooses c.args.p.now c.args.entries.now) (sym c.get.ensures) ∙ sym c.chooses.ensures ∙ w.if-chooses.false))
    ]
