use Rattle.numbers.specs.Sums.{sum_below-+ℤ, sum_below-*ℤ, sum_below-exchanged}
use Rattle.numbers.proofs.sum_laws.Goals as goal

pub returns : goal.returns
returns c = record { added = sum_below-+ℤ; scaled = sum_below-*ℤ; exchanged = sum_below-exchanged }
