use Rattle.numbers.specs.Algebra.{*ℤ-+ℤ, *ℤ_assoc, *ℤ-≤ℤ}
use Rattle.numbers.proofs.product_laws.Goals as goal

pub returns : goal.returns
returns c = record { distributes = *ℤ-+ℤ; groups = *ℤ_assoc; keeps_order = *ℤ-≤ℤ }
