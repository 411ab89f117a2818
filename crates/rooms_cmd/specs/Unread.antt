-- The first input file that isn't read, and what is printed of it.
use Rattle.std.specs.Prelude.{ℕ, ◌≡◌, List}
use Rattle.run_core.specs.Outside.{Shelved}
use Rattle.run_core.specs.Texts.{read_fault_text}
use Rattle.tool_core.specs.Inputs.{IsUnreadFile, name_of}
use Rattle.tool_core.specs.declared.inputs.Names.{Names}

-- 0 is the instance, 1 the times, 2 the measures
pub record IsUnreadInput (s : Shelved) (f : Names) (text : List ℕ) : Type 0 where
  pub file : ℕ
  pub unread : IsUnreadFile s.told f s.reads.before s.reads.now file
  pub is : text ≡ read_fault_text (name_of f file)
