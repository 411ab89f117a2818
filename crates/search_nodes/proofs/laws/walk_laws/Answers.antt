use Rattle.std.proofs.Common.{◌≡◌, refl, ℕ, Bool, true, false, List, [], ◌∷◌}
use Rattle.std.specs.Prelude.{Some}
use Rattle.duality.specs.Walk.{Step, step_at, later, turn, pending}
use Rattle.packing_model.specs.Built.{packing}
use Rattle.search_nodes.proofs.FixingLaws.{walk_fixing, walk_valid}
use Rattle.search_nodes.proofs.laws.walk_laws.Goals as goal

later-turn : (path : List Step) → later path ≡ pending (turn path)
later-turn [] = refl
later-turn (b ∷ path) = go b.pattern b.inside (later-turn path)
  where
    go : (p : ℕ) (side : Bool) → later path ≡ pending (turn path) → later (step_at p side ∷ path) ≡ pending (turn (step_at p side ∷ path))
    go p true e = e
    go p false e = refl

turn-some : (path : List Step) → turn path ≡ Some [] → ⊥
turn-some [] e = absurd (cc)
turn-some (b ∷ path) e = go b.pattern b.inside (turn-some path) e
  where
    go : (p : ℕ) (side : Bool) → (turn path ≡ Some [] → ⊥) → turn (step_at p side ∷ path) ≡ Some [] → ⊥
    go p true h e = h e
    go p false h e = absurd (cc)

pub returns : goal.returns
returns c = record { of_packing = λ f walk. walk_fixing (packing f) walk; valid = walk_valid; turned = later-turn; some = turn-some }
