-- Laws of specs/Ends.
use Rattle.std.specs.Prelude.{◌≡◌, ℕ, Result, Ok, Err}
use Rattle.std.proofs.Common.{◌∙◌, subst}
use Rattle.exact_num.specs.Arith.{Rose}
use Rattle.simplex_tableau.specs.declared.fault.Fault.{Fault}
use Rattle.simplex_tableau.specs.declared.fault.Fault.TheVariants as fault
use Rattle.simplex_tableau.specs.Ends.{Ends}

-- a step whose last part answers for the whole
pub ends_after : {T : Type 0} (before mid now : ℕ) (P Q : T → Type 0) (r : Result T Fault) → mid ≡ before → ((v : T) → Q v → P v) → Ends mid now Q r → Ends before now P r
ends_after before mid now P Q (Ok v) e f h = (h.0 ∙ e, f v h.1)
ends_after before mid now P Q (Err fault.Wide) e f h = subst (λ m. Rose m now) e h
ends_after before mid now P Q (Err fault.Memory) e f h = tt
