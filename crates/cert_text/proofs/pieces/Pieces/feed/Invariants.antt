use Rattle.std.proofs.Common.{ℕ, List, ◌≡◌, ◌++◌, ◌+◌, ◌≤◌, length, map, true}
use Rattle.std.specs.List.{list_all}
use Rattle.cert_text.specs.Spelling.{line_text, in_bounds}
use Rattle.cert_text.specs.Text.{whole_lines}
use Rattle.cert_text.specs.Pieces.{IsSoundPieces, IsPieces}
use Rattle.cert_text.proofs.pieces.Pieces.feed.Given as goal

abbrev pub invariant-lines : goal.invariant-lines
invariant-lines l = record {
  sound : IsSoundPieces l.self;
  within : l.self.line + length l.left ≤ l.fn.self.line + length l.piece;
  bounded : list_all in_bounds l.lines.items ≡ true;
  going : (before : List ℕ) × (l.piece ≡ before ++ l.left)
      × ((bytes : List ℕ) → IsPieces l.fn.self bytes → IsPieces l.self (bytes ++ before) × (whole_lines (bytes ++ before) ≡ whole_lines bytes ++ map line_text l.lines.items));
}

abbrev pub decreases-lines : goal.decreases-lines
decreases-lines l = length l.left
