-- A valid certificate, and the verdict on bytes.
use Rattle.std.specs.Prelude.{ℕ, ℤ, ◌≡◌, ◌<◌, ◌≤◌, ◌-◌, nat_lt, true, Option, Some, None, Result, Ok, Err, List, [], length, slice_index_or}
use Rattle.std.specs.List.{list_all}
use Rattle.problem_core.specs.Facts.{Facts}
use Rattle.problem_core.specs.Choice.{IsLegal}
use Rattle.problem_core.specs.Measures.{measures, IsBest}
use Rattle.meeting_patterns.specs.Pattern.{patterns_of}
use Rattle.duality.specs.Packing.{Packing}
use Rattle.duality.specs.Tree.{proves_level}
use Rattle.packing_model.specs.Built.{rows_of, packing, measured}
use Rattle.cert_text.specs.declared.lines.Tree.{Tree}
use Rattle.cert_text.specs.declared.lines.Certificate.{Certificate}
use Rattle.cert_text.specs.Grammar.{opening_of, tree_of}
use Rattle.cert_text.specs.Sharing.{plain}
use Rattle.cert_text.specs.Text.{IsText, IsFaultyLine}
use Rattle.cert_checker.specs.declared.verdict.Reason.TheVariants as reasons
use Rattle.cert_checker.specs.declared.verdict.Found.{Found}
use Rattle.cert_checker.specs.declared.verdict.Verdict.{Verdict}
use Rattle.cert_checker.specs.declared.verdict.Verdict.TheVariants.{Verified, Not}
use Rattle.cert_checker.specs.Faults.{stage_for, fault_of}

-- patterns of the packing that clash in pairs
pub record IsClique (k : Packing) (ps : List ℕ) : Type 0 where
  pub known : list_all (λ p. nat_lt p k.count) ps ≡ true
  pub clash : (i j : ℕ) → i < j → j < length ps → k.clash (slice_index_or ps i 0) (slice_index_or ps j 0) ≡ true

abbrev pub tree_at : List Tree → ℕ → Tree
tree_at ts i = slice_index_or ts i (tree_of [])

-- a certificate without named leaves proves n levels of the problem; nothing is asked of an unfinished tree
pub record IsValidPlain (f : Facts) (n : ℕ) (c : Certificate) : Type 0 where
  pub finished : length c.levels ≡ n
  pub patterns : c.patterns ≡ length (patterns_of f)
  pub rows : c.rows ≡ length (rows_of f)
  pub legal : IsLegal f c.choice
  pub measured : c.values ≡ measures f c.choice
  pub cuts : (i : ℕ) → i < length c.cuts → IsClique (packing f) (slice_index_or c.cuts i [])
  pub trees : (k : ℕ) → 1 ≤ k → k ≤ n → proves_level (packing f) (Rattle.packing_model.specs.Built.measured f) (stage_for (opening_of c) k) (tree_at c.levels (k - 1)).nodes ≡ true

-- a certificate proves n levels where its plain form does, in which each named leaf stands where it is named
abbrev pub IsValid : Facts → ℕ → Certificate → Type 0
IsValid f n c = IsValidPlain f n (plain c)

abbrev pub judged : ℕ → List ℤ → Option Found → Verdict
judged levels values None = Verified levels values
judged levels values (Some found) = Not found.line found.reason

-- the verdict on what the lines mean
abbrev pub plain_verdict : Facts → Result Certificate ℕ → Verdict
plain_verdict f (Err line) = Not line reasons.Text
plain_verdict f (Ok c) = judged (length c.levels) c.values (fault_of f c)

-- the verdict: a fault of the text, whatever else is wrong; else the first fault of the lines, where a line that
-- names a leaf is looked at as the leaf; so the plain form has its faults at the same lines
abbrev pub verdict_of : Facts → Result Certificate ℕ → Verdict
verdict_of f (Err line) = Not line reasons.Text
verdict_of f (Ok c) = judged (length c.levels) c.values (fault_of f (plain c))

-- the bytes are the text of a valid certificate of these values, whose choice is best in its levels
pub record IsProof (f : Facts) (bytes : List ℕ) (levels : ℕ) (values : List ℤ) : Type 0 where
  pub certificate : Certificate
  pub text : IsText bytes certificate
  pub valid : IsValid f levels certificate
  pub values_are : certificate.values ≡ values
  pub best : IsBest f levels certificate.choice

-- no certificate that the bytes spell is valid for its finished levels
abbrev pub IsNoProof : Facts → List ℕ → Type 0
IsNoProof f bytes = (c : Certificate) → IsText bytes c → IsValid f (length c.levels) c → ⊥

-- what a verdict means
abbrev pub Means : Facts → List ℕ → Verdict → Type 0
Means f bytes (Verified levels values) = IsProof f bytes levels values
Means f bytes (Not line reason) = IsNoProof f bytes × (reason ≡ reasons.Text → IsFaultyLine bytes line)
