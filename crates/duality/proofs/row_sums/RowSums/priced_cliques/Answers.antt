use Rattle.std.proofs.Common.{ℕ, ◌∙◌, ◌+◌, ◌*◌, ◌^◌, ◌≤◌, length, ap, arith, refl, sym, lit<}
use Rattle.std.specs.Prelude.{◌+ℤ◌}
use Rattle.numbers.specs.Sums.{total}
use Rattle.duality.specs.Runs.{rows_in}
use Rattle.duality.specs.Sums.{times_of}
use Rattle.duality.proofs.PricedLaws.{total-append, plain_sum}
use Rattle.duality.proofs.row_sums.RowSums.priced_cliques.Goals as goal

few_rows : (m n : ℕ) → m ≤ 4000 → n ≤ 1000 → m * 10 ^ 24 + n * 10 ^ 24 ≤ 5000 * 10 ^ 24
few_rows m n p q = omega arith

pub returns-clause-value : goal.returns-clause-value
returns-clause-value c =
    plain_sum (length (rows_in c.args.base.now) * 10 ^ 24) (length c.args.cuts.now * 10 ^ 24) (5000 * 10 ^ 24) c.priced_runs.result c.priced.result _
    c.priced_runs.ensures.small c.priced.ensures.small (few_rows (length (rows_in c.args.base.now)) (length c.args.cuts.now) c.requires.few_base c.requires.few_cuts) (lit< tt) refl
    ∙ ap (λ z. z +ℤ c.priced.result) c.priced_runs.ensures.value
    ∙ ap (λ z. total (times_of c.args.self.now.terms.now) (rows_in c.args.base.now) +ℤ z) c.priced.ensures.value
    ∙ sym (total-append (times_of c.args.self.now.terms.now) (rows_in c.args.base.now) c.args.cuts.now)
