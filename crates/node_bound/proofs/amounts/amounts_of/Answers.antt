use Rattle.std.proofs.Common.{ap, ◌∙◌, ◌≡◌, ℕ, length, replicate, rules}
use Rattle.std.specs.Prelude.{pos}
use Rattle.std.proofs.lemmas.List.{length-replicate}
use Rattle.exact_simplex.specs.Task.{int_at}
use Rattle.node_bound.proofs.AmountLaws.{no_amounts, given_both, small_plain}
use Rattle.node_bound.proofs.amounts.amounts_of.Goals as goal

pub returns : goal.returns
returns c =
    let zeros = c.in_ok-amounts.amounts.items in
    let items : zeros ≡ replicate c.args.count (pos 0) = search rules in
    let nothing : (p : ℕ) → int_at zeros p ≡ pos 0 = λ p. ap (λ zs. int_at zs p) items ∙ no_amounts c.args.count p in
    let long = c.give_taken.ensures.one_each ∙ c.give_columns.ensures.one_each ∙ ap length items ∙ length-replicate c.args.count (pos 0) in
    given_both c.args.columns.now c.args.one.now c.args.x.now c.args.den c.args.count zeros c.give_columns.new.amounts.items c.give_taken.new.amounts.items c.requires.apart nothing long
    c.give_columns.ensures.given c.give_columns.ensures.same (λ p taken. c.give_taken.ensures.given p taken ∙ small_plain c.args.den c.requires.den) c.give_taken.ensures.same
