-- What is kept between two pieces of a certificate, and the bytes that it stands for.
use Rattle.std.specs.Prelude.{ℕ, ◌≡◌, ◌≤◌, ◌+◌, Bool, true, false, Option, Some, None, Err, List, ◌++◌, length}
use Rattle.problem_core.specs.Facts.{Facts}
use Rattle.cert_text.specs.Numbers.{lacks}
use Rattle.cert_text.specs.Text.{Standing, whole_lines, rest_of, read_from, certificate_of}
use Rattle.cert_checker.specs.declared.reading.Reading.{Reading}
use Rattle.cert_checker.specs.declared.feeding.Feeding.{Feeding}
use Rattle.cert_checker.specs.Progresses.{IsAt, IsSound}

-- the whole lines were taken, and whatever bytes come next, reading goes on from there with the rest of a line
pub record IsGoing (f : Facts) (r : Reading) (rest bytes : List ℕ) : Type 0 where
  pub standing : Standing
  pub at : IsAt f r standing
  pub inside : lacks 10 rest ≡ true
  pub read : (more : List ℕ) → read_from standing r.progress.line (whole_lines (rest ++ more)) (rest_of (rest ++ more)) ≡ certificate_of (bytes ++ more)

-- a whole line is faulty, whatever bytes come next
abbrev pub IsStopped : ℕ → List ℕ → Type 0
IsStopped n bytes = (more : List ℕ) → certificate_of (bytes ++ more) ≡ Err n

abbrev pub IsFedAt : Facts → Option ℕ → Reading → List ℕ → List ℕ → Type 0
IsFedAt f None r rest bytes = IsGoing f r rest bytes
IsFedAt f (Some n) r rest bytes = IsStopped n bytes

-- what is kept stands for the bytes
abbrev pub IsFed : Facts → Feeding → List ℕ → Type 0
IsFed f x bytes = IsFedAt f x.faulty x.reading x.rest bytes

-- while no line was faulty, the reading is sound
abbrev pub IsSoundFed : Facts → Feeding → Type 0
IsSoundFed f x = x.faulty ≡ None → IsSound f x.reading

-- what a checker keeps: the facts of the model, what is kept between two pieces, how many bytes it took, and
-- whether memory ran out
pub record Kept : Type 0 where
  pub facts : Facts
  pub feeding : Feeding
  pub taken : ℕ
  pub failed : Bool

pub record IsSoundKept (k : Kept) : Type 0 where
  pub sound : k.failed ≡ false → IsSoundFed k.facts k.feeding
  pub line : k.failed ≡ false → k.feeding.reading.progress.line ≤ k.taken + 1

-- the checker stands for the bytes: its verdict is that on them
pub record StandsFor (k : Kept) (bytes : List ℕ) : Type 0 where
  pub going : k.failed ≡ false
  pub fed : IsFed k.facts k.feeding bytes
  pub taken : k.taken ≡ length bytes
