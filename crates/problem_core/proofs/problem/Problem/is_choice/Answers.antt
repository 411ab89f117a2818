use Rattle.std.proofs.Common.{ℕ, List, ◌≡◌, ◌∙◌, sym, ap, length}
use Rattle.std.specs.Prelude.{nat_le}
use Rattle.std.specs.List.{list_all}
use Rattle.problem_core.proofs.FaultLemmas.{choice_is}
use Rattle.problem_core.proofs.problem.Problem.is_choice.Goals as goal

pub returns-then-one_each : goal.returns-then-one_each
returns-then-one_each c =
    let known : c.are_known-known.result ≡ list_all (λ x. nat_le x c.room_count.result) c.args.a.now.entries = c.are_known-known.ensures ∙ ap (λ (xs : List ℕ). list_all (λ x. nat_le x c.room_count.result) xs) c.as_slice-entries.ensures in
    let is = choice_is c.args.self.now c.args.a.now.entries c.room_count.result (ap length (sym c.as_slice-entries.ensures) ∙ c.if-one_each.true ∙ c.event_count.ensures.count) c.room_count.ensures.count in
    (λ h. is.0 (sym known ∙ h), λ choice. known ∙ is.1 choice)
