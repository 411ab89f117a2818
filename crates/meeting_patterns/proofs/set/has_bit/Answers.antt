use Rattle.std.proofs.Common.{ap, ◌∙◌, ℕ}
use Rattle.std.specs.Prelude.{◌==◌}
use Rattle.std.proofs.lemmas.Nat.Bits.{shr_and_one}
use Rattle.meeting_patterns.proofs.BitLemmas.{has_bit-is}
use Rattle.meeting_patterns.proofs.set.has_bit.Goals as goal

pub returns : goal.returns
returns c = ap (λ (x : ℕ). x == 1) (shr_and_one c.args.number c.args.j) ∙ has_bit-is c.args.number c.args.j
