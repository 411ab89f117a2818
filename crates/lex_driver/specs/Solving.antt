-- A certificate of what the search over the six measures found.
use Rattle.std.specs.Prelude.{ℕ, ◌≡◌, ◌≤◌, ◌<◌, ◌+◌, ◌*◌, ◌-◌, ◌^◌, true, false, Option, Some, None, is_some, List, [], ◌∷◌, ◌++◌, length, take}
use Rattle.problem_core.specs.Facts.{Facts}
use Rattle.problem_core.specs.Measures.{measures, IsBest}
use Rattle.meeting_patterns.specs.Pattern.{patterns_of}
use Rattle.duality.specs.Packing.{Fixing}
use Rattle.duality.specs.Units.{branch_count}
use Rattle.packing_model.specs.Built.{packing, measured, rows_of}
use Rattle.cert_text.specs.declared.lines.Tree.{Tree}
use Rattle.cert_text.specs.declared.lines.Certificate.{Certificate}
use Rattle.cert_text.specs.Grammar.{opening_of, is_writable}
use Rattle.cert_text.specs.Sharing.{share, plain}
use Rattle.cert_checker.specs.Faults.{stage_for}
use Rattle.cert_checker.specs.Verdicts.{IsValid}
use Rattle.branch_tree.specs.Logs.{Moment, IsStopped, moment, moment_after}
use Rattle.branch_tree.specs.Trees.{IsFirstOpen}
use Rattle.branch_tree.specs.declared.log.Log.{Log}
use Rattle.lex_driver.specs.Searches.{branches_of, IsSearch, IsUnfinished}
use Rattle.lex_driver.specs.declared.search.Search.{Search}
use Rattle.lex_driver.specs.Accounts.{Accounts}
use Rattle.lex_driver.specs.declared.solve.Solved.{Solved}
use Rattle.lex_driver.specs.declared.solve.Solved.TheVariants.{Optimal, Open}

-- with each leaf where it stands
abbrev pub found_of : Facts → List Tree → List ℕ → List (List ℕ) → Option Tree → Certificate
found_of p trees a cuts unfinished = record { version = 1; patterns = length (patterns_of p); rows = length (rows_of p); choice = a; values = measures p a; cuts = cuts; levels = trees; unfinished = unfinished }

abbrev pub branches_left : Option Tree → ℕ
branches_left None = 0
branches_left (Some t) = branch_count t.nodes

-- the branches of all trees of the certificate together
abbrev pub branches_in : Certificate → ℕ
branches_in c = branches_of c.levels + branches_left c.unfinished

-- a certificate of version 2 inside the bounds of its text, valid for its finished levels, in which its choice is best
pub record IsCertificate (p : Facts) (levels : ℕ) (c : Certificate) : Type 0 where
  pub version : c.version ≡ 2
  pub writable : is_writable c ≡ true
  pub valid : IsValid p levels c
  pub best : IsBest p levels c.choice

-- The log accounts for the certificate between two moments: each unit and each note is lawful with its trees, values
-- and cuts, and at the first open end, where a pattern is free, it says why the search stopped there. In the
-- certificate each leaf stands where it is used; it has an unfinished tree.
pub record IsAccountOf (p : Facts) (c : Certificate) (log : Log) (m n : Moment) : Type 0 where
  pub tree : Tree
  pub unfinished : c.unfinished ≡ Some tree
  pub log_is : Accounts (packing p) (measured p) (c.levels ++ tree ∷ []) (take (length c.levels + 1) c.values) c.cuts m n log.units log.cuts
  pub place : ℕ
  pub fixing : Fixing
  pub first : IsFirstOpen (packing p) tree.nodes place fixing
  pub stopped : IsStopped (packing p) (measured p) (stage_for (opening_of c) (length c.levels + 1)) fixing (moment_after m log.units) n

-- all six levels, with at most so many branches
pub record IsOptimal (p : Facts) (budget : ℕ) (c : Certificate) : Type 0 where
  pub certificate : IsCertificate p 6 c
  pub whole : c.unfinished ≡ None
  pub few : branches_in c ≤ budget

-- the levels below one of the six, with exactly so many branches, and the log
pub record IsOpen (p : Facts) (budget level : ℕ) (c : Certificate) (log : Log) (m n : Moment) : Type 0 where
  pub low : 1 ≤ level
  pub high : level ≤ 6
  pub certificate : IsCertificate p (level - 1) c
  pub spent : branches_in c ≡ budget
  pub fewer : budget < 6 * (2 ^ (packing p).count - 1)
  pub account : IsAccountOf p (plain c) log m n

abbrev pub Solves : Facts → ℕ → Moment → ℕ → ℕ → Solved → Type 0
Solves p budget m wides steps (Optimal c) = IsOptimal p budget c
Solves p budget m wides steps (Open level c log) = IsOpen p budget level c log m (moment wides steps (length c.cuts))

-- the certificate of what was found, with equal leaves shared; with each where it stands it is what was found
pub record IsSharedOf (p : Facts) (trees : List Tree) (a : List ℕ) (cuts : List (List ℕ)) (unfinished : Option Tree) (c : Certificate) : Type 0 where
  pub shared : c ≡ share (found_of p trees a cuts unfinished)
  pub writable : is_writable c ≡ true
  pub plain_is : plain c ≡ found_of p trees a cuts unfinished

abbrev pub IsSolved : Facts → Search → Option Tree → Solved → Type 0
IsSolved p s unfinished (Optimal c) = (is_some unfinished ≡ false) × IsSharedOf p s.trees s.choice.entries s.pool unfinished c
IsSolved p s unfinished (Open level c log) = (is_some unfinished ≡ true) × IsSharedOf p s.trees s.choice.entries s.pool unfinished c × (level ≡ length s.trees + 1) × (log ≡ s.log)

-- the search ended with six levels, or with an unfinished tree
abbrev pub IsEnd : Facts → Search → Option Tree → Type 0
IsEnd p s None = length s.targets ≡ 6
IsEnd p s (Some tree) = (length s.targets < 6) × IsUnfinished p (measured p) s tree.nodes

pub record IsFoundSearch (p : Facts) (s : Search) (unfinished : Option Tree) : Type 0 where
  pub kept : IsSearch p (measured p) s
  pub ends : IsEnd p s unfinished
