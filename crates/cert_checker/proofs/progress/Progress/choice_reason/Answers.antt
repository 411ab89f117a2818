use Rattle.std.proofs.Common.{◌≡◌, ◌∙◌, subst, ap, true}
use Rattle.std.specs.Prelude.{◌↔◌}
use Rattle.problem_core.specs.Choice.{IsLegal}
use Rattle.problem_core.specs.Measures.{measures}
use Rattle.cert_checker.proofs.ReasonLemmas.{not_legal, judged_illegal, judged_legal}
use Rattle.cert_checker.proofs.progress.Progress.choice_reason.Goals as goal

pub returns-then-not-is_legal : goal.returns-then-not-is_legal
returns-then-not-is_legal c =
    judged_illegal c.args.m.now c.args.self.now c.args.entries c.requires.kept
    (not_legal c.args.m.now c.args.entries c.is_legal.result (subst (λ f. c.is_legal.result ≡ true ↔ IsLegal f c.args.entries) c.problem.ensures c.is_legal.ensures) c.if-not-is_legal.true)

pub returns : goal.returns
returns c =
    judged_legal c.args.m.now c.args.self.now c.args.entries c.values-self.result c.requires.kept
    (subst (λ f. IsLegal f c.args.entries) c.problem.ensures (c.is_legal.ensures.0 c.if-not-is_legal.false)) (c.values-self.ensures.values ∙ ap (λ f. measures f c.args.entries) c.problem-2.ensures) c.values-self.ensures.small
