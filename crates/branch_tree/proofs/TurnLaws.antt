-- Behind a leaf the path is empty exactly where the tree is whole.
use Rattle.std.proofs.Common.{◌≡◌, ◌+◌, arith, refl, sym, ◌∙◌, ap, List, [], ◌∷◌, length}
use Rattle.std.specs.Prelude.{Option, Some, None}
use Rattle.duality.specs.Walk.{Step, step_at}
use Rattle.search_nodes.specs.Paths.{onto_path, path_of, IsTurned}
use Rattle.search_nodes.specs.declared.walk.Side.{Side}

onto_length : (path : List Step) (sides : List Side) → length (onto_path path sides) ≡ length path + length sides
onto_length path [] = omega arith
onto_length path (b ∷ sides) = omega (arith, onto_length (step_at b.pattern b.inside ∷ path) sides)

no_length : (path : List Step) → length path ≡ 0 → path ≡ []
no_length [] e = refl
no_length (b ∷ path) e = absurd (omega arith)

pub turned_whole : (o : Option (List Step)) (sides : List Side) → (o ≡ Some [] → ⊥) → IsTurned o (path_of sides) → length sides ≡ 0 → o ≡ None
turned_whole None sides some h e = refl
turned_whole (Some path) sides some h e =
    let n : length (path_of sides) ≡ 0 = omega (arith, onto_length [] sides) in
    absurd (some (ap Some (sym h ∙ no_length (path_of sides) n)))

pub turned_on : (o : Option (List Step)) (sides : List Side) → IsTurned o (path_of sides) → (length sides ≡ 0 → ⊥) → o ≡ Some (path_of sides)
turned_on None sides h e = absurd (e (omega (arith, onto_length [] sides, ap length h)))
turned_on (Some path) sides h e = ap Some (sym h)
