-- What was done so far stays done, whatever is answered.
use Rattle.std.specs.Prelude.{ℕ, ◌≡◌, ◌≤◌, ◌+◌, ◌⊎◌, List, [], ◌∷◌, ◌++◌, length, take, Result, Ok, Err}
use Rattle.duality.specs.Packing.{Packing}
use Rattle.packing_model.specs.Cuts.{IsPoolOf}
use Rattle.problem_core.specs.declared.choice.Memory.{Memory}
use Rattle.branch_tree.specs.declared.log.CutNote.{CutNote}
use Rattle.branch_tree.specs.declared.log.Log.{Log}
use Rattle.branch_tree.specs.declared.state.Step.{Step}
use Rattle.branch_tree.specs.declared.state.Step.TheVariants.{On}

-- The old units, notes and cuts are the first of the new. Each new unit was paid for, and each new cut has a
-- note; the last new note may want its cut, where memory ran out between the two.
pub record Keeps (k : Packing) (pool pool' : List (List ℕ)) (budget budget' : ℕ) (log log' : Log) : Type 0 where
  pub units : take (length log.units) log'.units ≡ log.units
  pub notes : take (length log.cuts) log'.cuts ≡ log.cuts
  pub cuts : take (length pool) pool' ≡ pool
  pub paid : length log'.units + budget' ≡ length log.units + budget
  pub noted : length log.cuts + length pool' ≤ length log'.cuts + length pool
  pub one_more : length log'.cuts + length pool ≤ length log.cuts + length pool' + 1
  pub pool_is : IsPoolOf k pool'

-- a cut is added with its note; a note alone may stand where memory ran out
abbrev pub NotesCut : CutNote → List ℕ → List (List ℕ) → List (List ℕ) → Log → Log → Result Step Memory → Type 0
NotesCut note cut pool pool' log log' (Ok step) = (step ≡ On) × (pool' ≡ pool ++ cut ∷ []) × (log'.units ≡ log.units) × (log'.cuts ≡ log.cuts ++ note ∷ [])
NotesCut note cut pool pool' log log' (Err _) = (pool' ≡ pool) × (log'.units ≡ log.units) × ((log'.cuts ≡ log.cuts) ⊎ (log'.cuts ≡ log.cuts ++ note ∷ []))
