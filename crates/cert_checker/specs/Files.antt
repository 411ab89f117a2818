-- The verdict on what a name of a shelf holds.
use Rattle.std.specs.Prelude.{ℕ, ◌≡◌, Bool, Option, List}
use Rattle.problem_core.specs.Facts.{Facts}
use Rattle.input_core.specs.Reading.{IsWhole}
use Rattle.cert_text.specs.Text.{certificate_of}
use Rattle.cert_checker.specs.declared.verdict.Verdict.{Verdict}
use Rattle.cert_checker.specs.Verdicts.{verdict_of, Means}

-- the verdict on all that the name holds
pub record IsVerdictOn (tells : Bool) (held : Option (List ℕ)) (f : Facts) (v : Verdict) : Type 0 where
  pub bytes : List ℕ
  pub whole : IsWhole tells held 9223372036854775807 bytes
  pub exact : v ≡ verdict_of f (certificate_of bytes)

-- the same, with what it means
pub record IsMeantVerdict (tells : Bool) (held : Option (List ℕ)) (f : Facts) (v : Verdict) : Type 0 where
  pub bytes : List ℕ
  pub whole : IsWhole tells held 9223372036854775807 bytes
  pub exact : v ≡ verdict_of f (certificate_of bytes)
  pub means : Means f bytes v
