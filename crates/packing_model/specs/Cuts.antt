-- Cuts: lists of patterns that clash in pairs, and a pool of them.
use Rattle.std.specs.Prelude.{ℕ, ◌≡◌, ◌<◌, ◌≤◌, nat_lt, Bool, true, if◌then◌else◌, Option, Some, None, List, [], ◌∷◌, length, slice_index_or, Result, Ok, Err}
use Rattle.std.specs.List.{list_all}
use Rattle.std.specs.Option.{option_or}
use Rattle.duality.specs.Packing.{Packing}
use Rattle.packing_model.specs.Rising.{is_rising}
use Rattle.packing_model.specs.declared.cut.CutFault.{CutFault}
use Rattle.packing_model.specs.declared.cut.CutFault.TheVariants.{NotClique, Memory}

-- the first of the patterns that does not clash with p
abbrev pub first_clear_of : (ℕ → ℕ → Bool) → ℕ → List ℕ → Option ℕ
first_clear_of clash p [] = None
first_clear_of clash p (q ∷ qs) = if clash p q then first_clear_of clash p qs else Some q

abbrev pub pair_with : ℕ → Option ℕ → Option (ℕ × ℕ)
pair_with p None = None
pair_with p (Some q) = Some (p, q)

-- the first pair that does not clash, in order of its first pattern, then its second
abbrev pub first_apart : (ℕ → ℕ → Bool) → List ℕ → Option (ℕ × ℕ)
first_apart clash [] = None
first_apart clash (p ∷ ps) = option_or (pair_with p (first_clear_of clash p ps)) (first_apart clash ps)

-- 2 to 1,000 patterns in rising order
pub record IsCutList (count : ℕ) (ps : List ℕ) : Type 0 where
  pub some : 2 ≤ length ps
  pub few : length ps ≤ 1000
  pub rising : is_rising ps ≡ true
  pub known : list_all (λ p. nat_lt p count) ps ≡ true

-- a cut of the packing: such a list whose patterns clash in pairs
pub record IsCutOf (k : Packing) (ps : List ℕ) : Type 0 where
  pub list : IsCutList k.count ps
  pub clique : first_apart k.clash ps ≡ None

-- the cut where every pair clashes, else the first pair that does not
abbrev pub MakesCut : Packing → List ℕ → Result (List ℕ) CutFault → Type 0
MakesCut k ps (Ok cut) = (cut ≡ ps) × IsCutOf k ps
MakesCut k ps (Err (NotClique first second)) = first_apart k.clash ps ≡ Some (first, second)
MakesCut k ps (Err Memory) = Unit {0}

-- a pool of cuts of the packing
pub record IsPoolOf (k : Packing) (cuts : List (List ℕ)) : Type 0 where
  pub each : (c : ℕ) → c < length cuts → IsCutOf k (slice_index_or cuts c [])
