-- What `solve` answers.
use Rattle.std.specs.Prelude.{ℕ, ◌≡◌, List, [], length, IsTrue, Some}
use Rattle.input_core.specs.Causes.{Rose}
use Rattle.ctt_reader.specs.declared.instance.Instance.{Instance}
use Rattle.timed_solution.specs.declared.times.Times.{Times}
use Rattle.measure_file.specs.declared.measures.Measures.{Measures}
use Rattle.room_model.specs.ProblemOf.{problem_of}
use Rattle.cert_text.specs.declared.lines.Certificate.{Certificate}
use Rattle.cert_text.specs.Text.{IsText}
use Rattle.branch_tree.specs.declared.log.Log.{Log}
use Rattle.lex_driver.specs.Solving.{IsOptimal, IsOpen}
use Rattle.run_core.specs.Outside.{Shelved}
use Rattle.run_core.specs.declared.status.ToolStatus.{ToolStatus}
use Rattle.run_core.specs.declared.status.ToolStatus.TheVariants as statuses
use Rattle.tool_core.specs.Inputs.{AreGiven, HasModel, AreRefusedForModel}
use Rattle.tool_core.specs.declared.inputs.Names.{Names}
use Rattle.rooms_cmd.specs.Answers.{answer_text, optimal_line, open_line}
use Rattle.rooms_cmd.specs.Unread.{IsUnreadInput}
use Rattle.rooms_cmd.specs.Work.{Work, begins, ends}

-- the name holds the text of the certificate, where the shelf tells it
pub record HoldsCertificate (s : Shelved) (name : List ℕ) (c : Certificate) : Type 0 where
  pub bytes : List ℕ
  pub text : IsText bytes c
  pub put : IsTrue s.told.tells → s.holds name ≡ Some bytes

-- the three files are accepted; the name holds the certificate, which has six finished trees with at most the budget of
-- branches and is valid for six levels, in which its choice is best; the text is its answer
pub record IsSolved (s : Shelved) (f : Names) (name : List ℕ) (budget : ℕ) (text : List ℕ) : Type 0 where
  pub i : Instance
  pub t : Times
  pub m : Measures
  pub given : AreGiven s.told f i t m
  pub model : HasModel i t m
  pub certificate : Certificate
  pub optimal : IsOptimal (problem_of i t m) budget certificate
  pub held : HoldsCertificate s name certificate
  pub is : text ≡ answer_text optimal_line i t certificate

-- the three files are accepted; the name holds the certificate, which is valid for the levels below this one, in which
-- its choice is best, and has exactly the budget of branches; a log accounts for it between the counts before and after,
-- and says why the search stopped at the first open end; the text is its answer
pub record IsLeftOpen (s : Shelved) (w : Work) (f : Names) (name : List ℕ) (budget : ℕ) (text : List ℕ) : Type 0 where
  pub i : Instance
  pub t : Times
  pub m : Measures
  pub given : AreGiven s.told f i t m
  pub model : HasModel i t m
  pub level : ℕ
  pub certificate : Certificate
  pub log : Log
  pub is_open : IsOpen (problem_of i t m) budget level certificate log (begins w) (ends w (length certificate.cuts))
  pub held : HoldsCertificate s name certificate
  pub is : text ≡ answer_text (open_line level) i t certificate

-- the three files are accepted, and putting the certificate failed; there is no text
pub record IsNotPut (s : Shelved) (f : Names) (text : List ℕ) : Type 0 where
  pub i : Instance
  pub t : Times
  pub m : Measures
  pub given : AreGiven s.told f i t m
  pub model : HasModel i t m
  pub rose : Rose s.puts.before s.puts.now
  pub is : text ≡ []

abbrev pub SolveExplains : Shelved → Work → Names → List ℕ → ℕ → List ℕ → ToolStatus → Type 0
SolveExplains s w f name budget text statuses.Done = IsSolved s f name budget text
SolveExplains s w f name budget text statuses.Open = IsLeftOpen s w f name budget text
SolveExplains s w f name budget text statuses.BadInput = AreRefusedForModel s.told f text
SolveExplains s w f name budget text statuses.ReadFault = IsUnreadInput s f text
SolveExplains s w f name budget text statuses.WriteFault = IsNotPut s f text
SolveExplains s w f name budget text status = ⊥
