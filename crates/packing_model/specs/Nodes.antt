-- Nodes of a search: a fixing of patterns, and a level with its targets and best value.
use Rattle.std.specs.Prelude.{ℕ, ℤ, pos, ◌≡◌, ◌<◌, ◌≤◌, ◌^◌, ◌+◌, true, false, nat_lt, Option, Some, None, List, [], length, slice_index_or, Result, Ok, Err}
use Rattle.std.specs.List.{list_all}
use Rattle.duality.specs.Packing.{Packing, Stage, Fixing as Fixed}
use Rattle.duality.specs.Sums.{IsWithin}
use Rattle.duality.specs.declared.leaf.LeafFault.{LeafFault}
use Rattle.duality.specs.declared.row.RowName.{RowName}
use Rattle.duality.specs.declared.row.RowName.TheVariants.{Base, Cut, Level}
use Rattle.packing_model.specs.declared.fixing.Fixing.{Fixing}

-- the fixing in duality's terms
abbrev pub fixed_of : Fixing → Fixed
fixed_of f = record { zero = f.zero; one = f.one }

-- every pattern of the fixing is one of the packing
pub record IsFixingOf (k : Packing) (f : Fixing) : Type 0 where
  pub zero : list_all (λ p. nat_lt p k.count) f.zero ≡ true
  pub one : list_all (λ p. nat_lt p k.count) f.one ≡ true

-- the patterns that are taken differ and do not clash
pub record IsValidFixing (k : Packing) (f : Fixing) : Type 0 where
  pub of_packing : IsFixingOf k f
  pub differ : (i j : ℕ) → i < j → j < length f.one → slice_index_or f.one i 0 ≡ slice_index_or f.one j 0 → ⊥
  pub apart : (i j : ℕ) → i < j → j < length f.one → k.clash (slice_index_or f.one i 0) (slice_index_or f.one j 0) ≡ false

abbrev pub stage_at : ℕ → List ℤ → Option ℤ → List (List ℕ) → Stage
stage_at level targets best cuts = record { level = level; targets = targets; best = best; cuts = cuts }

-- cuts alone, where no level matters
abbrev pub stage_of : List (List ℕ) → Stage
stage_of cuts = stage_at 1 [] None cuts

-- as many targets as there are levels below, each at most 10^12 in size
pub record AreTargets (level : ℕ) (targets : List ℤ) : Type 0 where
  pub low : 1 ≤ level
  pub count : length targets + 1 ≡ level
  pub small : (i : ℕ) → i < length targets → IsWithin (10 ^ 12) (slice_index_or targets i (pos 0))

-- no fault, or the fault
abbrev pub ok_unless : Option LeafFault → Result (Unit {0}) LeafFault
ok_unless None = Ok tt
ok_unless (Some fault) = Err fault

-- a base row of the packing, a cut of the pool, or the row of a measure
abbrev pub IsRow : Packing → List (List ℕ) → RowName → Type 0
IsRow k cuts (Base r) = r < k.base_len
IsRow k cuts (Cut c) = c < length cuts
IsRow k cuts (Level j) = (1 ≤ j) × (j ≤ 6)
