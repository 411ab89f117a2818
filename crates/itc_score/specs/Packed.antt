-- Tables of 1,000 columns, packed in numbers of 50 bits: a row takes 20 of them.
use Rattle.std.specs.Prelude.{ℕ, Bool, false, ◌≡◌, ◌+◌, ◌*◌, ◌<◌, zero, suc, cond, List, length, slice_index_or, bit_and, count_ones}
use Rattle.itc_score.specs.Sums.{sum_below}

-- the first n tests as the bits of a number, the first as the highest
abbrev pub mask : (ℕ → Bool) → ℕ → ℕ
mask test zero = 0
mask test (suc n) = 2 * mask test n + cond (test n) 1 0

unfoldable pub word_of : (ℕ → Bool) → ℕ
word_of test = mask test 50

-- the 50 cells from that on
abbrev pub word_at : List Bool → ℕ → ℕ
word_at cells first = word_of (λ k. slice_index_or cells (first + k) false)

pub record IsPacked (words : List ℕ) (rows : ℕ) (f : ℕ → ℕ → Bool) : Type 0 where
  pub whole : length words ≡ rows * 20
  pub word : (r j : ℕ) → r < rows → j < 20 → slice_index_or words (r * 20 + j) 0 ≡ word_of (λ k. f r (j * 50 + k))

-- the bits that are in both, in so many words of two rows
abbrev pub bits_in_both : List ℕ → ℕ → List ℕ → ℕ → ℕ → ℕ
bits_in_both words first others second count = sum_below (λ j. count_ones (bit_and (slice_index_or words (first + j) 0) (slice_index_or others (second + j) 0))) count
