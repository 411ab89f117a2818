use Rattle.std.proofs.Common.{ℕ, List, ◌≡◌, ◌++◌, ◌+◌, ◌≤◌, length}
use Rattle.std.specs.Prelude.{None}
use Rattle.cert_checker.specs.Progresses.{IsSound}
use Rattle.cert_checker.specs.Feeding.{IsGoing, IsFed}
use Rattle.cert_checker.proofs.feeding.Feeding.feed.Given as goal

abbrev pub invariant-lines : goal.invariant-lines
invariant-lines l = record {
  faulty : l.self.faulty ≡ None;
  sound : IsSound l.m l.self.reading;
  within : l.self.reading.progress.line + length l.left ≤ l.fn.self.reading.progress.line + length l.piece;
  going : (before : List ℕ) × (l.piece ≡ before ++ l.left) × ((bytes : List ℕ) → IsFed l.m l.fn.self bytes → IsGoing l.m l.self.reading l.self.rest (bytes ++ before));
}

abbrev pub decreases-lines : goal.decreases-lines
decreases-lines l = length l.left
