-- A sparse vector as a function of the place.
use Rattle.std.proofs.Common.{ℕ, ◌≡◌, ◌+◌, ◌<◌, ◌≤◌, List, [], ◌∷◌, ◌==◌, if◌then◌else◌, length, drop, Option, Some, None}
use Rattle.exact_num.specs.Q.{ℚ}
use Rattle.exact_num.specs.Ops.{zero_ℚ, ◌+ℚ◌, ◌*ℚ◌}
use Rattle.simplex_tableau.specs.declared.sparse.Entry.{Entry}

abbrev pub at_place : ℕ → ℚ → ℕ → ℚ
at_place place x p = if place == p then x else zero_ℚ

-- the sum of the numbers at place p: no order of the entries is needed
abbrev pub at : {N : Type 0} → (N → ℚ) → List (Entry N) → ℕ → ℚ
at value [] p = zero_ℚ
at value (e ∷ es) p = at_place e.place (value e.number) p +ℚ at value es p

-- the places rise, from lo on and below hi
abbrev pub Rises : {N : Type 0} → ℕ → ℕ → List (Entry N) → Type 0
Rises lo hi [] = Unit {0}
Rises lo hi (e ∷ es) = (lo ≤ e.place) × (e.place < hi) × Rises (e.place + 1) hi es

-- the places are below m
abbrev pub PlacesBelow : {N : Type 0} → ℕ → List (Entry N) → Type 0
PlacesBelow m [] = Unit {0}
PlacesBelow m (e ∷ es) = (e.place < m) × PlacesBelow m es

pub record Combined {N : Type 0} (value : N → ℚ) (target : List (Entry N)) (factor : ℚ) (source result : List (Entry N)) : Type 0 where
  pub sums : (p : ℕ) → at value result p ≡ at value target p +ℚ factor *ℚ at value source p
  pub rises : (m : ℕ) → Rises 0 m target → Rises 0 m source → Rises 0 m result

-- out and what is still to come: both rise, and meet at c
pub record Meet {N : Type 0} (c m : ℕ) (out rest : List (Entry N)) : Type 0 where
  pub out_rises : Rises 0 c out
  pub rest_rises : Rises c m rest

-- a number was added behind the others
pub record Puts {N : Type 0} (value : N → ℚ) (out : List (Entry N)) (place : ℕ) (x : ℚ) (out' : List (Entry N)) : Type 0 where
  pub sums : (p : ℕ) → at value out' p ≡ at value out p +ℚ at_place place x p
  pub rises : (b : ℕ) → Rises 0 b out → b ≤ place → Rises 0 (place + 1) out'

-- numbers that stand before a place moved from target to out
pub record Moves {N : Type 0} (value : N → ℚ) (target : List (Entry N)) (i : ℕ) (out : List (Entry N)) (place j : ℕ) (out' : List (Entry N)) : Type 0 where
  pub within : j ≤ length target
  pub same : (p : ℕ) → at value out' p +ℚ at value (drop j target) p ≡ at value out p +ℚ at value (drop i target) p
  pub meet : (b m : ℕ) → b ≤ place → Meet b m out (drop i target) → Meet place m out' (drop j target)

-- the same, with a place between what moved and what is left
pub record Meets {N : Type 0} (place m : ℕ) (out rest : List (Entry N)) : Type 0 where
  pub between : ℕ
  pub within : between ≤ place
  pub meet : Meet between m out rest

pub record MovesUpTo {N : Type 0} (value : N → ℚ) (target : List (Entry N)) (i : ℕ) (out : List (Entry N)) (place j : ℕ) (out' : List (Entry N)) : Type 0 where
  pub within : j ≤ length target
  pub same : (p : ℕ) → at value out' p +ℚ at value (drop j target) p ≡ at value out p +ℚ at value (drop i target) p
  pub meet : (b m : ℕ) → b ≤ place → Meet b m out (drop i target) → Meets place m out' (drop j target)

-- out, the rest of target and the rest of source rise, and meet at one place
pub record Gathers {N : Type 0} (m : ℕ) (out rest more : List (Entry N)) : Type 0 where
  pub between : ℕ
  pub within : between ≤ m
  pub meet : Meet between m out rest
  pub more_rises : Rises between m more

-- a number was added at a place to out and the rest of target
pub record MovesWith {N : Type 0} (value : N → ℚ) (target : List (Entry N)) (i : ℕ) (out : List (Entry N)) (place : ℕ) (x : ℚ) (out' : List (Entry N)) (j : ℕ) : Type 0 where
  pub within : j ≤ length target
  pub same : (p : ℕ) → at value out' p +ℚ at value (drop j target) p ≡ (at value out p +ℚ at value (drop i target) p) +ℚ at_place place x p
  pub meet : (m : ℕ) → Meet place m out (drop i target) → Meet (place + 1) m out' (drop j target)

-- the number at a place, or that it is 0
abbrev pub NumberAt : {N : Type 0} → (N → ℚ) → List (Entry N) → ℕ → Option N → Type 0
NumberAt value es place (Some x) = at value es place ≡ value x
NumberAt value es place None = at value es place ≡ zero_ℚ

abbrev pub dot_with : {N : Type 0} → (N → ℚ) → (ℕ → ℚ) → List (Entry N) → ℚ
dot_with value f [] = zero_ℚ
dot_with value f (e ∷ es) = f e.place *ℚ value e.number +ℚ dot_with value f es

-- what stands in out, and is still to come from target and source
abbrev pub gathered : {N : Type 0} → (N → ℚ) → List (Entry N) → List (Entry N) → ℕ → ℚ → List (Entry N) → ℕ → ℕ → ℚ
gathered value out target i factor source k p = (at value out p +ℚ at value (drop i target) p) +ℚ factor *ℚ at value (drop k source) p

pub record SoFar {N : Type 0} (value : N → ℚ) (es : List (Entry N)) (place k : ℕ) : Type 0 where
  pub same : at value (drop k es) place ≡ at value es place
  pub rises : (m : ℕ) → Rises 0 m es → Rises 0 m (drop k es)
