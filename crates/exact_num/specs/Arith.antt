-- What a call of an arithmetic answers.
use Rattle.std.specs.Prelude.{◌≡◌, ◌≢◌, ◌&&◌, pos, ℕ, ℤ, Bool, true, false, ◌+◌, ◌-◌, ◌^◌, ◌≤◌, ◌<◌, ◌*ℤ◌, min, Result, Ok, Err, Option, Some, None, unsigned_abs}
use Rattle.exact_num.specs.Q.{ℚ, IsLow}
use Rattle.exact_num.specs.Work.{below}

-- a count of refusals rose; it stands still at its greatest value
pub record Rose (before now : ℕ) : Type 0 where
  pub later : before ≤ now
  pub rose : min (before + 1) (2 ^ 64 - 1) ≤ now

-- the exact value, with all working numbers fitting and the count as it was
pub record IsExact (fits : Bool) (found exact : ℚ) (before now : ℕ) : Type 0 where
  pub all_fit : fits ≡ true
  pub value : found ≡ exact
  pub kept : now ≡ before

-- a refusal, with a working number that does not fit and a count that rose
pub record IsRefused (fits : Bool) (before now : ℕ) : Type 0 where
  pub some_misfit : fits ≡ false
  pub counted : Rose before now

abbrev pub Gives : {N : Type 0} → {E : Type 0} → (N → ℚ) → Bool → ℚ → ℕ → ℕ → Result N E → Type 0
Gives value fits exact before now (Ok x) = IsExact fits (value x) exact before now
Gives value fits exact before now (Err _) = IsRefused fits before now

-- a fraction with these parts
pub record HasParts (q : ℚ) (n d : ℤ) : Type 0 where
  pub num_is : q.num ≡ n
  pub den_is : q.den ≡ d

-- n / d is x / e in lowest terms, and its parts are below the bound in size
pub record IsReduced (bound : ℕ) (n d x e : ℤ) : Type 0 where
  pub low : IsLow n d
  pub value : n *ℤ e ≡ x *ℤ d
  pub num_fits : unsigned_abs n < bound
  pub den_fits : unsigned_abs d < bound

-- parts that were found, all working numbers being below the bound, or a working number that is not
abbrev pub Finds : ℕ → Bool → ℤ → ℤ → Option (ℤ × ℤ) → Type 0
Finds bound fits x e (Some p) = (fits ≡ true) × IsReduced bound p.0 p.1 x e
Finds bound fits x e None = fits ≡ false

-- found parts made a fraction with the count as it was; else a refusal is counted
abbrev pub Settles : {N : Type 0} → {E : Type 0} → (N → ℚ) → Option (ℤ × ℤ) → ℕ → ℕ → Result N E → Type 0
Settles value (Some p) before now (Ok x) = HasParts (value x) p.0 p.1 × (now ≡ before)
Settles value None before now (Err _) = Rose before now
Settles value (Some p) before now (Err _) = ⊥
Settles value None before now (Ok _) = ⊥

-- q is num / den, whatever the sign of den
abbrev pub IsValue : ℚ → ℤ → ℤ → Type 0
IsValue q num den = q.num *ℤ den ≡ num *ℤ q.den

-- num / den is no fraction, or one with a part that is not below the bound in size
abbrev pub IsUnfit : ℕ → ℤ → ℤ → Type 0
IsUnfit bound num den = den ≢ pos 0 → (q : ℚ) → IsValue q num den → (below bound q.num && below bound q.den) ≡ false
