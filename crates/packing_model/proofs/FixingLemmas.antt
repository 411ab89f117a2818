-- What is left after the last element is taken away.
use Rattle.std.proofs.Common.{ℕ, ◌≡◌, ◌-◌, sym, arith, refl, List, [], ◌∷◌, ◌++◌, length}
use Rattle.std.specs.Prelude.{Option, Some, None, MatchOption}
use Rattle.std.proofs.lemmas.List.{length_push, take_at}
use Rattle.packing_model.specs.Fixings.{without_last}

pub popped : (old new : List ℕ) (r : Option ℕ) → MatchOption r ((old ≡ []) × (new ≡ [])) (λ x. old ≡ new ++ x ∷ []) → new ≡ without_last old
popped old new None h = rw (h.0, h.1) refl
popped old new (Some x) h =
    let n : length (new ++ x ∷ []) - 1 ≡ length new = omega (arith, length_push new x) in
    sym (rw (h, n) (take_at new (x ∷ []) (length new) refl))
