-- Fractions over their least common denominator.
use Rattle.std.proofs.Common.{ℕ, ◌≡◌, ◌+◌, ◌^◌, true, false, List, ◌∷◌, map, Bool, ◌&&◌, ℤ, pos, ◌*ℤ◌, Result, Ok, Err}
use Rattle.std.specs.Int.RustNames.{int_div}
use Rattle.std.specs.List.{list_all}
use Rattle.std.proofs.Common.{Vec, Global}
use Rattle.exact_num.specs.Q.{ℚ}
use Rattle.exact_num.specs.Work.{below}
use Rattle.exact_num.specs.Multiples.{least_den}
use Rattle.exact_num.specs.Arith.{IsRefused}
use Rattle.exact_num.specs.declared.arith.Common.{Common}
use Rattle.exact_num.specs.declared.arith.CommonFault.{CommonFault}
use Rattle.exact_num.specs.declared.arith.CommonFault.TheVariants as fault

-- the numerator of q over d
abbrev pub num_over : ℤ → ℚ → ℤ
num_over d q = q.num *ℤ int_div d q.den

abbrev pub nums_over : ℤ → List ℚ → List ℤ
nums_over d qs = map (num_over d) qs

-- a number that fits and whose size is at most 10^24
abbrev pub fits_common : (ℤ → Bool) → ℤ → Bool
fits_common fits z = fits z && below (10 ^ 24 + 1) z

abbrev pub common_fits : (ℤ → Bool) → List ℚ → Bool
common_fits fits qs = list_all (fits_common fits) (pos (least_den qs) ∷ nums_over (pos (least_den qs)) qs)

pub record IsCommon (fits : Bool) (qs : List ℚ) (nums : List ℤ) (den : ℤ) (before now : ℕ) : Type 0 where
  pub all_fit : fits ≡ true
  pub den_is : den ≡ pos (least_den qs)
  pub nums_are : nums ≡ nums_over (pos (least_den qs)) qs
  pub kept : now ≡ before

-- what the search for the numerators over d finds
abbrev pub FindsNums : ℕ → ℤ → List ℚ → Result (Vec ℤ Global) CommonFault → Type 0
FindsNums bound d qs (Ok v) = (list_all (below bound) (nums_over d qs) ≡ true) × (v.items ≡ nums_over d qs)
FindsNums bound d qs (Err fault.Wide) = list_all (below bound) (nums_over d qs) ≡ false
FindsNums bound d qs (Err fault.Memory) = Unit {0}

abbrev pub FindsCommon : ℕ → List ℚ → Result Common CommonFault → Type 0
FindsCommon bound qs (Ok c) = (list_all (below bound) (pos (least_den qs) ∷ nums_over (pos (least_den qs)) qs) ≡ true) × (c.den ≡ pos (least_den qs)) × (c.nums.items ≡ nums_over (pos (least_den qs)) qs)
FindsCommon bound qs (Err fault.Wide) = list_all (below bound) (pos (least_den qs) ∷ nums_over (pos (least_den qs)) qs) ≡ false
FindsCommon bound qs (Err fault.Memory) = Unit {0}

abbrev pub GivesCommon : (ℤ → Bool) → List ℚ → ℕ → ℕ → Result Common CommonFault → Type 0
GivesCommon fits qs before now (Ok c) = IsCommon (common_fits fits qs) qs c.nums.items c.den before now
GivesCommon fits qs before now (Err fault.Wide) = IsRefused (common_fits fits qs) before now
GivesCommon fits qs before now (Err fault.Memory) = now ≡ before
