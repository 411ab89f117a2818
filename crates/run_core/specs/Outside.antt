-- What the outside of a run tells and counts, before the run and after it.
use Rattle.std.specs.Prelude.{ℕ, ◌≡◌, ◌≢◌, List, Bool, IsTrue, Option}
use Rattle.input_core.specs.Causes.{Rose}

-- what each name holds; none: there is no such name
abbrev pub Held : Type 0
Held = List ℕ → Option (List ℕ)

-- a count before and after
pub record Count : Type 0 where
  pub before : ℕ
  pub now : ℕ

abbrev pub count_of : {S : Type 0} → (S → ℕ) → S → S → Count
count_of count old new = record { before = count old; now = count new }

-- whether a shelf tells what its names hold, and what they hold
pub record Told : Type 0 where
  pub tells : Bool
  pub held : Held

abbrev pub told : {S : Type 0} → (S → Bool) → (S → Held) → S → Told
told tells held shelf = record { tells = tells shelf; held = held shelf }

-- what a shelf told before, what its names hold after, and how often `piece` and `put` had failed
pub record Shelved : Type 0 where
  pub told : Told
  pub holds : Held
  pub reads : Count
  pub puts : Count

abbrev pub shelved : {S : Type 0} → (S → Bool) → (S → Held) → (S → ℕ) → (S → ℕ) → S → S → Shelved
shelved tells held piece_faults put_faults old new = record {
  told = told tells held old;
  holds = held new;
  reads = count_of piece_faults old new;
  puts = count_of put_faults old new;
}

-- a sink's bytes before and after, where it tells them, and how often `write` had failed and been called
pub record Printed : Type 0 where
  pub old : Option (List ℕ)
  pub new : Option (List ℕ)
  pub faults : Count
  pub calls : Count

abbrev pub printed : {O : Type 0} → (O → Option (List ℕ)) → (O → ℕ) → (O → ℕ) → O → O → Printed
printed written faults calls old new = record {
  old = written old;
  new = written new;
  faults = count_of faults old new;
  calls = count_of calls old new;
}

-- every name holds what it held
abbrev pub KeepsAll : Shelved → Type 0
KeepsAll s = (name : List ℕ) → s.holds name ≡ s.told.held name

-- every name but this one holds what it held
abbrev pub KeepsBut : List ℕ → Shelved → Type 0
KeepsBut written s = (name : List ℕ) → name ≢ written → s.holds name ≡ s.told.held name

-- the shelf tells what its names hold, and no count of faults rose
pub record IsQuiet (s : Shelved) (p : Printed) : Type 0 where
  pub tells : IsTrue s.told.tells
  pub reads : Rose s.reads.before s.reads.now → ⊥
  pub puts : Rose s.puts.before s.puts.now → ⊥
  pub writes : Rose p.faults.before p.faults.now → ⊥
