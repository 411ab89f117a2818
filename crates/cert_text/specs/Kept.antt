-- What is kept of a line whose end has not come.
use Rattle.std.specs.Prelude.{ℕ, ◌≡◌, ◌+◌, List, length, take, min}
use Rattle.cert_text.specs.declared.line_rest.TheConstants.{LINE_LIMIT}

-- the line, or one byte more of it than the longest line of a certificate has
pub record IsKept (line kept : List ℕ) : Type 0 where
  pub front : kept ≡ take (length kept) line
  pub size : length kept ≡ min (length line) (LINE_LIMIT + 1)
