-- What a point gives in each row.
use Rattle.std.specs.Prelude.{ℕ, ℤ, pos, ◌≡◌, ◌<◌, ◌≤ℤ◌, ◌+ℤ◌, ◌*ℤ◌, ◌*◌, ◌^◌, true, List, length}
use Rattle.numbers.specs.Sums.{total}
use Rattle.duality.specs.declared.row.RowName.{RowName}
use Rattle.duality.specs.Packing.{Packing, Weights, Stage}
use Rattle.exact_simplex.specs.Task.{int_at}
use Rattle.node_bound.specs.Places.{is_placed, place_of, put_total, row_count}
use Rattle.node_bound.specs.Taken.{stands}
use Rattle.node_bound.specs.declared.places.Places.{Places}

-- The amount was added at the place of each of some rows: with those that are left, each place has all that it
-- is to have.
pub record Adds (v : Places) (amount : ℤ) (all left : List RowName) (old new : List ℤ) : Type 0 where
  pub same_length : length new ≡ length old
  pub sums : (x : ℕ) → x < length old → int_at new x +ℤ put_total v x (λ r. amount) left ≡ int_at old x +ℤ put_total v x (λ r. amount) all
  pub low : (x : ℕ) → x < length old → int_at old x ≤ℤ int_at new x
  pub high : (x : ℕ) → x < length old → (int_at new x +ℤ pos (length left * 10 ^ 24)) ≤ℤ (int_at old x +ℤ pos (length all * 10 ^ 24))

-- what the entry gives in a base row or a cut; nothing in a level row
abbrev pub given_in : Packing → Weights → Stage → RowName → (ℕ × ℤ) → ℤ
given_in k w s r e = stands k w s r e.0 *ℤ e.1

-- by place, what all entries give there, but for those that are left
pub record AreSums (k : Packing) (w : Weights) (s : Stage) (v : Places) (all left : List (ℕ × ℤ)) (sums : List ℤ) : Type 0 where
  pub one_each : length sums ≡ row_count v
  pub each : (r : RowName) → is_placed v r ≡ true → int_at sums (place_of v r) +ℤ total (given_in k w s r) left ≡ total (given_in k w s r) all
