use Rattle.std.proofs.Common.{sym, subst, ap, ◌∙◌, ◌+◌}
use Rattle.exact_simplex.specs.Task.{int_at}
use Rattle.node_bound.specs.Amounts.{IsListed, with_entry}
use Rattle.node_bound.proofs.AmountLaws.{small_plain}
use Rattle.node_bound.proofs.ListedLaws.{none_listed, listed_more}
use Rattle.node_bound.proofs.amounts.listed.Goals as goal

pub loop-pattern-init : goal.loop-pattern-init
loop-pattern-init c = subst (IsListed (int_at c.args.amounts.now) 0) (sym c.new-entries.ensures) (none_listed (int_at c.args.amounts.now))

pub loop-pattern-preserved : goal.loop-pattern-preserved
loop-pattern-preserved c =
    let amount = int_at c.args.amounts.now in
    let n = c.loop-pattern.pattern in
    let es = c.loop-pattern.entries in
    subst (IsListed amount (n + 1)) (sym (c.in_ok-add_entry.ensures ∙ ap (λ z. with_entry n z es) (small_plain (amount n) (c.requires.small n)))) (listed_more amount n es c.loop-pattern.invariant)
